-- What doesn't look at the RAM: a machine with another RAM answers alike, but for the bytes that a read brings, and goes to the same state but for the RAM.
use Rattle.std.specs.Prelude.{◌≡◌, Bool, true, false, ◌||◌, leb, replicate}
use Rattle.std.proofs.Math.Path.{refl, ap, fun_ext}
use Rattle.std.proofs.Common.{sym, ◌∙◌}
use Rattle.std.proofs.Math.Bool.{cond}
use Rattle.std.proofs.Math.Option.{Option, none, some}
use mathlib.Core.List.{List, [], ◌∷◌, ◌++◌, map}
use Prim.Native.Nat.{ℕ, zero, suc, ◌+◌, ◌<◌}
use Rattle.std.proofs.Math.ListN.{length}
use Rattle.sequence.specs.Lists.{tabulate, length_tabulate}
use Rattle.sequence.specs.Sums.{sum}
use Rattle.words.specs.Words.{bytes_of}
use Rattle.machine.specs.declared.Region.{Region}
use Rattle.machine.specs.Machine.{State, Pair, Page, outside, unmapped, mapped, page_of, words_at, place_of, page_of_address, span_pages, is_start}
use Rattle.machine.specs.Machine.{region, Answer, bytes, Out, tell, unless_resident, mark_at, drop_at, release_at, touch_new, touch_page, touch_at, touch_all}
use Rattle.machine.specs.Machine.{absence, or_else, first_absence, span_absence, byte_at, read_if, is_outside, any_outside, is_unmapped, count_absent}
use Rattle.machine.specs.Machine.{with_ram, store_all, span_touched, span_outside, span_short, write_if, write_at, until_start, records, records_of}
use Rattle.machine.specs.Machine.{give_back_page, list_if, map_if}
use Rattle.machine.specs.Map.{Block, Part, body_words, file_words, block_of, blocks_of, pool_part, map_of}
use Rattle.machine.specs.Claims.{Address, blind}

-- ---- the parts of a call

module _ (ram : List ℕ) where
  pub absence_any : (m : State) (p k : ℕ) → first_absence (with_ram m ram) p k ≡ first_absence m p k
  unfolding first_absence
  absence_any m p zero = refl
  absence_any m p (suc k) = ap (or_else (absence (page_of m p))) (absence_any m (suc p) k)

  pub outside_any : (m : State) (p k : ℕ) → any_outside (with_ram m ram) p k ≡ any_outside m p k
  unfolding any_outside
  outside_any m p zero = refl
  outside_any m p (suc k) = ap (λ (b : Bool). is_outside (page_of m p) || b) (outside_any m (suc p) k)

  pub absent_any : (m : State) (p k : ℕ) → count_absent (with_ram m ram) p k ≡ count_absent m p k
  unfolding count_absent
  absent_any m p zero = refl
  absent_any m p (suc k) = ap (λ (j : ℕ). is_unmapped (page_of m p) + j) (absent_any m (suc p) k)

  records_any : (m : State) (lo b n : ℕ) → records (with_ram m ram) lo b n ≡ records m lo b n
  unfolding records
  records_any m lo b zero = refl
  records_any m lo b (suc n) =
      let p = lo + b in
      ap
      (λ (rest : List Region). cond (is_start m p)
      (record { start = b; length = suc (until_start (is_start m) (suc p) n); resident = length (region m p) } ∷ rest) rest)
      (records_any m lo (suc b) n)

  blocks_any : (m : State) (i : ℕ) → blocks_of (with_ram m ram) i ≡ blocks_of m i
  blocks_any m i = ap (map (block_of m (place_of m.sizes i 0))) (records_any m (place_of m.sizes i 0) 0 m.sizes.pages)

  pub map_any : (m : State) → map_of (with_ram m ram) ≡ map_of m
  map_any m =
      ap (λ (f : ℕ → Part). bytes_of (file_words m.sizes (tabulate f m.sizes.spaces ++ (pool_part m ∷ []))))
      (fun_ext (λ i. ap (λ (bs : List Block). record { words = body_words bs; count = sum (λ b. length b.entries) bs }) (blocks_any m i)))

-- ---- each call

-- the same answer, or the bytes of the same addresses
pub data Likewise (m m' : State) : Answer → Answer → Type 0 where
  same_answer : {a : Answer} → Likewise m m' a a
  same_addresses : (i x n : ℕ) → ((k : ℕ) → k < n → Address m'.sizes i (x + k)) → Likewise m m' (read_if m i x n 0) (read_if m' i x n 0)

-- as many bytes, whatever they are
pub likewise_blind : {m m' : State} {a a' : Answer} → Likewise m m' a a' → blind a ≡ blind a'
likewise_blind same_answer = refl
likewise_blind {m} {m'} (same_addresses i x n inside) =
    ap
    (λ (j : ℕ). bytes (replicate j 0))
    (length_tabulate (λ k. byte_at m i (x + k)) n ∙ sym (length_tabulate (λ k. byte_at m' i (x + k)) n))

-- what the machine m, with another RAM than m', did, and what m' did
pub record Alike (m m' : State) (o o' : Out) : Type 0 where
  pub answers : Likewise m m' o.answer o'.answer
  pub states : o.after ≡ with_ram o'.after o.after.ram

module _ (m : State) (ram : List ℕ) where
  pub told_alike : (a : Answer) → Alike (with_ram m ram) m (tell (with_ram m ram) a) (tell m a)
  told_alike a = record { answers = same_answer; states = refl }

  unless_resident_lem : (p : ℕ) (v : Bool) (xs : List Pair) → Alike (with_ram m ram) m (unless_resident (with_ram m ram) p v xs) (unless_resident m p v xs)
  unless_resident_lem p v [] = record { answers = same_answer; states = refl }
  unless_resident_lem p v (x ∷ xs) = told_alike _

  pub mark_alike : (p : ℕ) (cut : Option ℕ) (v : Bool) → Alike (with_ram m ram) m (mark_at (with_ram m ram) p cut v) (mark_at m p cut v)
  mark_alike p cut true = told_alike _
  mark_alike p none false = record { answers = same_answer; states = refl }
  mark_alike p (some a) false = unless_resident_lem p true (region m a)

  pub drop_alike : (p : ℕ) (v : Bool) → Alike (with_ram m ram) m (drop_at (with_ram m ram) p v) (drop_at m p v)
  drop_alike p false = told_alike _
  drop_alike p true = unless_resident_lem p false (region m p)

  taken : (a p w : ℕ) (pool : List ℕ) → Alike (with_ram m ram) m (touch_new (with_ram m ram) a p w pool) (touch_new m a p w pool)
  taken a p w [] = told_alike _
  taken a p w (f ∷ rest) = record { answers = same_answer; states = refl }

  pub touch_alike : (p w : ℕ) (x : Page) → Alike (with_ram m ram) m (touch_page (with_ram m ram) p w x) (touch_page m p w x)
  touch_alike p w outside = told_alike _
  touch_alike p w (unmapped a) = taken a p w m.pool
  touch_alike p w (mapped a f) = told_alike _

  pub release_alike : (a : ℕ) (v : Bool) → Alike (with_ram m ram) m (release_at (with_ram m ram) a v) (release_at m a v)
  release_alike a false = told_alike _
  release_alike a true = record { answers = same_answer; states = refl }

  pub give_alike : (p : ℕ) (x : Page) → Alike (with_ram m ram) m (give_back_page (with_ram m ram) p x) (give_back_page m p x)
  give_alike p outside = told_alike _
  give_alike p (unmapped a) = told_alike _
  give_alike p (mapped a f) = record { answers = same_answer; states = refl }

-- touching changes the RAM, and the rest alike
touched_any : (m : State) (ram : List ℕ) (p k : ℕ) → touch_all (with_ram m ram) p k ≡ with_ram (touch_all m p k) (touch_all (with_ram m ram) p k).ram
unfolding touch_all
touched_any m ram p zero = refl
touched_any m ram p (suc k) =
    let r = (touch_at (with_ram m ram) p).after.ram in
    let e = ap (λ (x : State). touch_all x (suc p) k) (touch_alike m ram p (words_at m p) (page_of m p)).states in
    e ∙ touched_any (touch_at m p).after r (suc p) k ∙ ap (λ (x : State). with_ram (touch_all m p (suc k)) x.ram) (sym e)

module _ (m : State) (ram : List ℕ) where
  written : (i x : ℕ) (vs : List ℕ) (a b : Bool) → Alike (with_ram m ram) m (write_if (with_ram m ram) i x vs a b) (write_if m i x vs a b)
  written i x vs true b = told_alike m ram _
  written i x vs false true = told_alike m ram _
  written i x vs false false =
      let m₁ = span_touched m i x (length vs) in
      let e = ap (λ (y : State). store_all y i x vs) (touched_any m ram (page_of_address m.sizes i x) (span_pages m.sizes x (length vs))) in
      record { answers = same_answer; states = e ∙ ap (with_ram m₁) (sym (ap (λ (y : State). y.ram) e)) }

  -- the pages of a span are found alike
  pub read_alike : (i x n : ℕ) → ((k : ℕ) → k < n → Address m.sizes i (x + k))
      → Alike (with_ram m ram) m (tell (with_ram m ram) (read_if (with_ram m ram) i x n (span_absence (with_ram m ram) i x n)))
      (tell m (read_if m i x n (span_absence m i x n)))
  read_alike i x n inside =
      rw (absence_any ram m (page_of_address m.sizes i x) (span_pages m.sizes x n)) (go (span_absence m i x n))
    where
      go : (k : ℕ) → Alike (with_ram m ram) m (tell (with_ram m ram) (read_if (with_ram m ram) i x n k)) (tell m (read_if m i x n k))
      go zero = record { answers = same_addresses i x n inside; states = refl }
      go (suc k) = told_alike m ram _

  pub write_alike : (i x : ℕ) (vs : List ℕ) → Alike (with_ram m ram) m (write_at (with_ram m ram) i x vs) (write_at m i x vs)
  write_alike i x vs =
      rw (
        outside_any ram m (page_of_address m.sizes i x) (span_pages m.sizes x (length vs)),
        absent_any ram m (page_of_address m.sizes i x) (span_pages m.sizes x (length vs)),
      )
      (written i x vs (span_outside m i x (length vs)) (span_short m i x (length vs)))

  pub list_alike : (i room : ℕ)
      → let rs = records_of (with_ram m ram) i in
      Alike (with_ram m ram) m (tell (with_ram m ram) (list_if rs (leb (length rs) room))) (tell m (list_if (records_of m i) (leb (length (records_of m i)) room)))
  list_alike i room = rw (records_any ram m (place_of m.sizes i 0) 0 m.sizes.pages) (told_alike m ram _)

  -- the map has nothing of the RAM
  pub map_alike : (room : ℕ)
      → let file = map_of (with_ram m ram) in
      Alike (with_ram m ram) m (tell (with_ram m ram) (map_if file (leb (length file) room))) (tell m (map_if (map_of m) (leb (length (map_of m)) room)))
  map_alike room = rw (map_any ram m) (told_alike m ram _)
