-- What a release does, on lists.
use Rattle.std.specs.Prelude.{◌≡◌, Bool, true, false, ◌&&◌, List, ℕ, zero, suc, ◌+◌, ◌-◌, leb, ltb, set, Option, Some, None, Result, Ok, Err}
use Rattle.layer.specs.Words.{bit_at}
use Rattle.machine.specs.Machine.{places, place_of, Answer, pages, refused}
use Rattle.memory.specs.Memory.{Memory, at, sizes_of}
use Rattle.memory.specs.declared.Head.{Head}
use Rattle.pool.specs.Models.{newest_of, with_chain}
use Rattle.refusals.specs.Refusals.{number}
use Rattle.refusals.specs.declared.Refusal.{Refusal}
use Rattle.refusals.specs.declared.Refusal.TheVariants.{NoStart, Damaged}
use Rattle.laws.specs.Models.{check_of, Checked, page_inside, release_lengths}

-- ---- release

-- the words that a release of the region at a with n pages needs are where they may be
unfoldable pub cut_ok : Head → List ℕ → List ℕ → ℕ → ℕ → ℕ → Bool
cut_ok h table stack t a n =
    leb (a + n) t && ltb (at stack a) t && ltb (at table (at stack a)) h.frames && ltb (at stack (a + n - 1)) t && leb (h.many + n) h.frames

-- the region to give back, if it has pages
abbrev pub cut_if : ℕ → Bool → ℕ → Result (Option ℕ) Refusal
cut_if zero fits a = Ok None
cut_if (suc n) true a = Ok (Some a)
cut_if (suc n) false a = Err Damaged

-- the frame of the oldest page of the region at a
abbrev pub oldest_of : List ℕ → List ℕ → ℕ → ℕ
oldest_of table stack a = at table (at stack a)

-- the memory after the region at a is released: one count, one link
abbrev pub spliced : Memory → ℕ → Memory
spliced k a =
    let n = at k.count a in
    let h = k.head in
    record {
      head = with_chain h (newest_of k.table k.stack a n) n;
      index = k.index;
      count = set k.count a 0;
      table = k.table;
      helper = k.helper;
      stack = k.stack;
      cache = k.cache;
      link = set k.link (oldest_of k.table k.stack a) h.first;
      ram = k.ram;
    }

abbrev pub cut_says : Result (Option ℕ) Refusal → Memory → Answer
cut_says (Ok None) k = pages 0
cut_says (Ok (Some a)) k = pages (at k.count a)
cut_says (Err e) k = refused (number e)

abbrev pub cut_leaves : Result (Option ℕ) Refusal → Memory → Memory
cut_leaves (Ok None) k = k
cut_leaves (Ok (Some a)) k = spliced k a
cut_leaves (Err e) k = k

-- from whether the place is a start
abbrev pub cut_for : Bool → Head → List ℕ → List ℕ → List ℕ → ℕ → ℕ → Result (Option ℕ) Refusal
cut_for true h count table stack t a = cut_if (at count a) (cut_ok h table stack t a (at count a)) a
cut_for false h count table stack t a = Err NoStart

-- what is to be done about place a of a memory
abbrev pub cut_at : Memory → ℕ → Result (Option ℕ) Refusal
cut_at k a = cut_for (bit_at k.index a) k.head k.count k.table k.stack (places (sizes_of k.head)) a

pub record Releases (k : Memory) (a₀ : ℕ) (a : Answer) (k' : Memory) : Type 0 where
  pub answer_is : a ≡ cut_says (cut_at k a₀) k
  pub after_is : k' ≡ cut_leaves (cut_at k a₀) k

abbrev pub ReleaseDone : ℕ → ℕ → Memory → Answer → Memory → Type 0
ReleaseDone i b k a k' =
    Checked refused (check_of k.head (release_lengths k) i (page_inside k b)) (λ a k'. Releases k (place_of (sizes_of k.head) i b) a k') k a k'
