-- What a hand-back does, on lists.
use Rattle.std.specs.Prelude.{◌≡◌, Bool, true, false, ◌&&◌, ◌||◌, List, ℕ, ◌+◌, ◌-◌, leb, ltb, set, Result, Err}
use Rattle.machine.specs.Machine.{places, place_of, Answer, handed, refused}
use Rattle.memory.specs.Memory.{Memory, at, sizes_of}
use Rattle.memory.specs.declared.Head.{Head}
use Rattle.memory.specs.declared.Out.{Out}
use Rattle.refusals.specs.declared.Refusal.{Refusal}
use Rattle.lookup.specs.declared.Sight.{Sight}
use Rattle.lookup.specs.declared.Sight.TheVariants as sight_is
use Rattle.lookup.specs.Models.{SeenAt}
use Rattle.pool.specs.Models.{with_chain}
use Rattle.laws.specs.Models.{check_of, Checked, page_inside, table_lengths}

-- ---- the test

-- word w of the stack is a place whose page has a frame below f
unfoldable pub pair_ok : ℕ → List ℕ → List ℕ → ℕ → ℕ → Bool
pair_ok f table stack t w = ltb (at stack w) t && ltb (at table (at stack w)) f

-- the same of the younger neighbour of the page at position i of the region at a; the newest, at position n, has none
unfoldable pub neighbour_ok : ℕ → List ℕ → List ℕ → ℕ → ℕ → ℕ → ℕ → Bool
neighbour_ok f table stack t a i n = leb n i || pair_ok f table stack t (a + i + 1)

-- the words that a hand-back of the page at position i of the region at a needs are where they may be; n is the newest's position
unfoldable pub leave_ok_at : Head → List ℕ → List ℕ → ℕ → ℕ → ℕ → ℕ → Bool
leave_ok_at h table stack t a i n =
    ltb (a + n) t && pair_ok h.frames table stack t (a + n) && neighbour_ok h.frames table stack t a i n && ltb h.many h.frames

-- ---- the stores

-- the region's chain without frame f, whose younger neighbour has frame next; last is the newest's frame. Where f is that nothing
abbrev pub relinked : Bool → List ℕ → ℕ → ℕ → ℕ → List ℕ
relinked true link f next last = set (set link next last) last (at link f)
relinked false link f next last = link

-- the memory after the page at position i of the region at a leaves, frame f; the newest page stands at position n and has frame last
abbrev pub left_by : Memory → ℕ → ℕ → ℕ → ℕ → ℕ → ℕ → ℕ → Memory
left_by k a i n newest f next last =
    record {
      head = with_chain k.head f 1;
      index = k.index;
      count = set k.count a n;
      table = k.table;
      helper = set k.helper newest i;
      stack = set k.stack (a + i) newest;
      cache = k.cache;
      link = set (relinked (ltb i n) k.link f next last) f k.head.first;
      ram = k.ram;
    }

-- by the words that the tables have for the page at place p
abbrev pub left : Memory → ℕ → Memory
left k p =
    let a = at k.cache p in
    let i = at k.helper p in
    let n = at k.count a - 1 in
    let newest = at k.stack (a + n) in
    left_by k a i n newest (at k.table p) (at k.table (at k.stack (a + i + 1))) (at k.table newest)

-- ---- the call

abbrev pub refused_out : Head → Refusal → Out (Result (Unit {0}) Refusal)
refused_out h e = record { head = h; answer = Err e }

abbrev pub give_says : Sight → Bool → Answer
give_says (sight_is.Mapped f) true = handed
give_says (sight_is.Mapped f) false = refused 9
give_says (sight_is.Unmapped a c) ok = refused 10
give_says (sight_is.Outside c) ok = refused 4
give_says sight_is.Broken ok = refused 9

abbrev pub give_leaves : Sight → Bool → Memory → ℕ → Memory
give_leaves (sight_is.Mapped f) true k p = left k p
give_leaves (sight_is.Mapped f) false k p = k
give_leaves (sight_is.Unmapped a c) ok k p = k
give_leaves (sight_is.Outside c) ok k p = k
give_leaves sight_is.Broken ok k p = k

-- the test by the words that the tables have for the page at place p
abbrev pub leave_ok : Head → List ℕ → List ℕ → List ℕ → List ℕ → List ℕ → ℕ → ℕ → Bool
leave_ok h count table helper stack cache t p = let a = at cache p in leave_ok_at h table stack t a (at helper p) (at count a - 1)

abbrev pub leave_ok_in : Memory → ℕ → Bool
leave_ok_in k p = leave_ok k.head k.count k.table k.helper k.stack k.cache (places (sizes_of k.head)) p

pub record Gives (k : Memory) (i b : ℕ) (a : Answer) (k' : Memory) : Type 0 where
  pub sight : Sight
  pub seen : SeenAt k i b sight
  pub answer_is : a ≡ give_says sight (leave_ok_in k (place_of (sizes_of k.head) i b))
  pub after_is : k' ≡ give_leaves sight (leave_ok_in k (place_of (sizes_of k.head) i b)) k (place_of (sizes_of k.head) i b)

abbrev pub GiveDone : ℕ → ℕ → Memory → Answer → Memory → Type 0
GiveDone i b k a k' = Checked refused (check_of k.head (table_lengths k) i (page_inside k b)) (λ a k'. Gives k i b a k') k a k'
