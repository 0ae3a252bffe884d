-- What the steps of a hand-back may take for granted and do.
use Rattle.std.specs.Prelude.{◌≡◌, Bool, true, false, List, ℕ, ◌+◌, ◌-◌, ◌≤◌, ◌<◌, ltb, length, set, Result, Ok}
use Rattle.refusals.specs.declared.Refusal.TheVariants.{Damaged}
use Rattle.memory.specs.Memory.{at}
use Rattle.memory.specs.declared.Head.{Head}
use Rattle.memory.specs.declared.Out.{Out}
use Rattle.refusals.specs.declared.Refusal.{Refusal}
use Rattle.lookup.specs.Ready.{Tabled}
use Rattle.lookup.specs.Lookup.{Agrees}
use Rattle.pool.specs.Models.{with_chain}
use Rattle.giving.specs.Models.{leave_ok, relinked, refused_out}

-- the page at place p passed the test of a resident one, and its frame is one
pub record Seated (h : Head) (t p : ℕ) (count table helper stack cache link : List ℕ) : Type 0 where
  pub tabled : Tabled t p count helper stack cache
  pub table_long : t ≤ length table
  pub link_long : h.frames ≤ length link
  pub agrees : Agrees count stack t p (at cache p) (at helper p)
  pub frame : at table p < h.frames
  pub few : h.frames ≤ 65536

-- the chain can be mended: the words of the younger neighbour, where there is one
pub record Mendable (link table stack : List ℕ) (a i n f last : ℕ) : Type 0 where
  pub frame : f < length link
  pub newest : last < length link
  pub small : a + n < 262144
  pub on_stack : i < n → a + i + 1 < length stack
  pub neighbour : i < n → at stack (a + i + 1) < length table
  pub next : i < n → at table (at stack (a + i + 1)) < length link

-- the page at place p, at position i of the region at a, whose newest page stands at position n, can leave
pub record Leavable (h : Head) (count table helper stack link : List ℕ) (a i n p : ℕ) : Type 0 where
  pub in_table : p < length table
  pub start : a < length count
  pub position : i ≤ n
  pub top : a + n < length stack
  pub newest : at stack (a + n) < length table
  pub newest_helper : at stack (a + n) < length helper
  pub mends : Mendable link table stack a i n (at table p) (at table (at stack (a + n)))
  pub room : h.many + 1 ≤ 65536

-- it has left: r is the head with its frame
pub record Leaves (h : Head) (count table helper stack link : List ℕ) (a i n p : ℕ) (r : Head) (count' helper' stack' link' : List ℕ) : Type 0 where
  pub head_is : r ≡ with_chain h (at table p) 1
  pub count_is : count' ≡ set count a n
  pub helper_is : helper' ≡ set helper (at stack (a + n)) i
  pub stack_is : stack' ≡ set stack (a + i) (at stack (a + n))
  pub link_is : link' ≡ set
      (relinked (ltb i n) link (at table p) (at table (at stack (a + i + 1))) (at table (at stack (a + n))))
      (at table p) h.first

-- a hand-back refused: nothing changed
pub record Stays (h : Head) (count helper stack link : List ℕ) (r : Out (Result (Unit {0}) Refusal)) (count' helper' stack' link' : List ℕ) : Type 0 where
  pub out_is : r ≡ refused_out h Damaged
  pub count_is : count' ≡ count
  pub helper_is : helper' ≡ helper
  pub stack_is : stack' ≡ stack
  pub link_is : link' ≡ link

-- by the test: the page has left, or nothing changed
abbrev pub HandedIf : Bool → Head → List ℕ → List ℕ → List ℕ → List ℕ → List ℕ → List ℕ → ℕ → Out (Result (Unit {0}) Refusal) → List ℕ → List ℕ → List ℕ → List ℕ → Type 0
HandedIf true h count table helper stack cache link p r count' helper' stack' link' =
    (r.answer ≡ Ok tt) × Leaves h count table helper stack link (at cache p) (at helper p) (at count (at cache p) - 1) p r.head count' helper' stack' link'
HandedIf false h count table helper stack cache link p r count' helper' stack' link' = Stays h count helper stack link r count' helper' stack' link'

abbrev pub Handed : Head → List ℕ → List ℕ → List ℕ → List ℕ → List ℕ → List ℕ → ℕ → ℕ → Out (Result (Unit {0}) Refusal) → List ℕ → List ℕ → List ℕ → List ℕ → Type 0
Handed h count table helper stack cache link t p = HandedIf (leave_ok h count table helper stack cache t p) h count table helper stack cache link p
