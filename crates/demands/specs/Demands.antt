-- The three demands, clause by clause: in quotation marks the user's words, or, where it is said, document 01's. `Did` (crate promise) is what the
-- contract of every call states.
use Rattle.std.specs.Prelude.{◌≡◌, true, List, [], ◌∷◌, ◌++◌, map, ℕ, ◌+◌, ◌-◌, ◌≤◌, ◌<◌, length, get_or, Result, Err}
use Rattle.std.proofs.Math.Option.{some}
use Rattle.sequence.specs.Sums.{sum, sum_from}
use Rattle.machine.specs.declared.Region.{Region}
use Rattle.refusals.specs.declared.Refusal.{Refusal}
use Rattle.machine.specs.Machine.{Sizes, State, begun, Lent, Call, facts, release, free, translate, read, write, list, asked, ram_at, with_ram, records_of, Answer}
use Rattle.machine.specs.Machine.{done, at, bytes, frames, regions, answers, after, after_all}
use Rattle.machine.specs.Claims.{resident_pages, times_free, times_held, is_refused, Bare, Address, Same, Spared}
use Rattle.memory.specs.Memory.{Memory, sizes_of, lengths}
use Rattle.promise.specs.Holds.{Roomy}
use Rattle.promise.specs.Did.{Exactly, Tables, Did}
use Rattle.promise.specs.Filled.{ReadDid, ListDid}
use Rattle.demands.specs.History.{Event, played, calls, Beginning, Run}

-- ---- Demand 1. "For any sizes, numbers and buffers a call ends and does nothing undefined. It asks nothing of its caller." That is what it is for a
-- function to be proved that has no `requires`; so is "Memory our calls didn't leave may get a wrong answer, never an undefined step". The rest:
-- "A refusal gives its number from document 01 and changes neither lent memory nor the head record", of every call on any memory

pub record Demand1 (c : Lent → Call) (k : Memory) (a : Answer) (k' : Memory) : Type 0 where
  -- 1 to 3 where document 01 states them, and no number that isn't the call's
  pub numbers : Exactly (asked (sizes_of k.head) (c (lengths k))) (sizes_of k.head) (c (lengths k)) a
  -- k is the head and all that is lent
  pub refusals : is_refused a ≡ true → k' ≡ k

-- the read buffer and the record slice are lent too
abbrev pub Demand1Read : Type 0
Demand1Read =
    (i x : ℕ) (k : Memory) (r : Result (Unit {0}) Refusal) (buffer buffer' : List ℕ) → ReadDid i x k r buffer buffer' → (e : Refusal) → r ≡ Err e → buffer' ≡ buffer

abbrev pub Demand1List : Type 0
Demand1List = (i : ℕ) (k : Memory) (r : Result ℕ Refusal) (slice slice' : List ℕ) → ListDid i k r slice slice' → (e : Refusal) → r ≡ Err e → slice' ≡ slice

-- ---- "every sequence of calls .., and of refused starts, from an accepted start, whatever the lent memory held before it. Refused calls are included.
-- Each call gets the head, index, tables and RAM as the last one left them, and nobody else writes them." A later accepted start may stand in it too

-- document 01: the machine "begins with the accepted start and the RAM as it then stands, and gets the same calls with the lengths of the buffers lent to
-- them"
abbrev pub machine_at : State → Memory → List Event → State
machine_at m k es = after_all (with_ram m k.ram) (calls es)

-- nothing is known of k, not even that buffers are long enough that the start isn't lent
pub record Sequence (m : State) (k : Memory) (es : List Event) (k' : Memory) : Type 0 where
  pub started : Memory
  pub beginning : Beginning m k started
  pub run : Run started es k'

-- ---- Demand 2. "From an accepted start, on memory that only the pager's calls change, each call given the head the last one left, every answer is the
-- one the plain machine of document 01 gives for the same calls, refusals and frame numbers too, and no other, whatever the five unprepared tables held."

abbrev pub Demand2 : Type 0
Demand2 = (m : State) (k k' : Memory) (es : List Event) → Sequence m k es k' → map (λ e. e.answer) es ≡ answers (with_ram m k.ram) (calls es)

-- no page is resident in a state that a call among them begins: so with starts, and with the reading of a map without resident pages
unfoldable pub BeginBare : List Event → Type 0
BeginBare [] = Unit {0}
BeginBare (e ∷ es) = ((s : State) → (facts (played e)).begins ≡ some s → e.answer ≡ done → Bare s) × BeginBare es

-- W-201: "on memory as in demand 2, no answer since a start depends on the RAM's starting contents either". Two accepted starts with the same sizes, on
-- memories that held anything, and the same calls with the same lengths lent after each; later starts may stand among them, refused readings and written
-- maps too, but of accepted readings only those without resident pages: "a page resident in the file shows what stands there"
abbrev pub Demand2Ram : Type 0
Demand2Ram =
    (z : Sizes) (k k' l l' : Memory) (es fs : List Event) → Sequence (begun z []) k es k' → Sequence (begun z []) l fs l' → calls es ≡ calls fs
    → BeginBare es → map (λ e. e.answer) es ≡ map (λ e. e.answer) fs

-- ---- Demand 3. Document 01: "one claim about the whole sequence of calls, not one for each call"

-- "A byte stored through an address": by an accepted write, and neither "stored again" nor "its region is released" by a call after it, nor, W-205, its
-- page handed back
pub record StoredAt (m : State) (k : Memory) (es : List Event) (i x v : ℕ) : Type 0 where
  pub before : List Event
  pub later : List Event
  pub from : ℕ
  pub values : List ℕ
  pub lent : Lent
  pub is_history : es ≡ before ++ record { call = write i from values; lent = lent; answer = done } ∷ later
  pub low : from ≤ x
  pub high : x < from + length values
  pub value_is : get_or values (x - from) 0 ≡ v
  pub spared : Spared (after (machine_at m k before) (write i from values lent)) i x (calls later)

-- "After the sequence, with resident pages and pool as on the plain machine", m. Document 01: translate, free, read, list and release are "the pager's
-- own, called next with all of that memory as the sequence left it"
pub record Demand3 (begun : State) (k : Memory) (es : List Event) (k' : Memory) (m : State) : Type 0 where
  -- document 01: "translate answers each resident address with the machine's place, frame x P + offset"
  pub translated : (i x p : ℕ) → Address m.sizes i x → ram_at m i x ≡ some p → (a : Answer) (k'' : Memory) → Did (translate i x) k' a k'' → a ≡ at p
  -- "two different resident addresses, in one space or two, never translate to the same RAM byte"
  pub apart : (i x j y p : ℕ) (a b : Memory) → Did (translate i x) k' (at p) a → Did (translate j y) k' (at p) b → Same i x j y
  -- "Each frame is either once in the pool or held by exactly one resident page."
  pub held : (f : ℕ) → f < m.sizes.frames → times_free f m + times_held f m ≡ 1
  -- "Free's answer plus the resident pages of all spaces is F."
  pub counted : (a : Answer) (k'' : Memory) → Did (λ _. free) k' a k''
      → (n : ℕ) × (a ≡ frames n) × (n ≡ length m.pool) × (n + resident_pages m ≡ m.sizes.frames)
  -- document 01: "the records that list gives for all spaces, with room for every region, add up to the same"
  pub listed : (room : ℕ → ℕ) (a : ℕ → Answer) (k'' : ℕ → Memory)
      → ((i : ℕ) → i < m.sizes.spaces → (length (records_of m i) ≤ room i) × Did (list i (room i)) k' (a i) (k'' i))
      → (given : ℕ → List Region) × ((i : ℕ) → i < m.sizes.spaces → a i ≡ regions (given i))
      × (sum_from (λ i. sum (λ r. r.resident) (given i)) 0 m.sizes.spaces ≡ resident_pages m)
  -- "A byte stored through an address is read there until it is stored again or its region is released." W-205: "a byte now also ends with an accepted
  -- hand-back of its page". Document 01: "a read of that one byte is accepted and gives it", "every accepted read over the address has it at that place",
  -- "the RAM holds it where translate points"
  pub one_read : (i x v : ℕ) → StoredAt begun k es i x v → (a : Answer) (k'' : Memory) → Did (read i x 1) k' a k'' → a ≡ bytes (v ∷ [])
  pub every_read : (i x v : ℕ) → StoredAt begun k es i x v → (y n : ℕ) (vs : List ℕ) (k'' : Memory) → Did (read i y n) k' (bytes vs) k'' → y ≤ x → x < y + n
      → get_or vs (x - y) 0 ≡ v
  pub in_ram : (i x v : ℕ) → StoredAt begun k es i x v → (a : Answer) (k'' : Memory) → Did (translate i x) k' a k''
      → (p : ℕ) × (a ≡ at p) × (get_or k'.ram p 0 ≡ v)
  -- "A release made then changes at most two words of the lent tables, no index word and no RAM, however large the region."
  pub constant : (i b : ℕ) (a : Answer) (k'' : Memory) → Did (release i b) k' a k'' → Tables (sizes_of k'.head) 0 1 0 0 0 0 1 k' k''

-- document 01: "The memory is long enough for the accepted start's sizes"
abbrev pub Demand3For : Type 0
Demand3For =
    (m : State) (k k' : Memory) (es : List Event) → Sequence m k es k' → Roomy (machine_at m k es).sizes k' → Demand3 m k es k' (machine_at m k es)
