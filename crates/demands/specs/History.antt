-- A sequence of calls on one memory: each is lent a front part of every buffer that it is lent, or, refused with 1, too short a part from anywhere;
-- "the next call gets all of it again".
use Rattle.std.specs.Prelude.{◌≡◌, Bool, true, false, List, [], ◌∷◌, ◌++◌, map, ℕ, ◌≤◌, take, drop}
use Rattle.std.proofs.Math.Option.{some}
use Rattle.machine.specs.Machine.{State, Lent, Call, Uses, uses, Lending, lends_none, lends, facts, asked, Answer, done}
use Rattle.memory.specs.Memory.{Memory, memory, sizes_of, lengths}
use Rattle.promise.specs.Did.{Did}

-- ---- the part that is lent, and the memory put together again

abbrev pub front : Lent → Memory → Memory
front n k =
    memory k.head (take n.index k.index) (take n.count k.count) (take n.table k.table) (take n.helper k.helper)
    (take n.stack k.stack) (take n.cache k.cache) (take n.link k.link) (take n.ram k.ram)

abbrev pub rejoined : Lent → Memory → Memory → Memory
rejoined n part k =
    memory part.head (part.index ++ drop n.index k.index) (part.count ++ drop n.count k.count)
    (part.table ++ drop n.table k.table) (part.helper ++ drop n.helper k.helper) (part.stack ++ drop n.stack k.stack)
    (part.cache ++ drop n.cache k.cache) (part.link ++ drop n.link k.link) (part.ram ++ drop n.ram k.ram)

-- a front part of a buffer of so many entries; all of one that the call isn't lent
abbrev pub Lends : Bool → ℕ → ℕ → Type 0
Lends true part whole = part ≤ whole
Lends false part whole = part ≡ whole

pub record Parts (u : Uses) (n l : Lent) : Type 0 where
  pub index : Lends u.index n.index l.index
  pub count : Lends u.count n.count l.count
  pub table : Lends u.table n.table l.table
  pub helper : Lends u.helper n.helper l.helper
  pub stack : Lends u.stack n.stack l.stack
  pub cache : Lends u.cache n.cache l.cache
  pub link : Lends u.link n.link l.link
  pub ram : Lends u.ram n.ram l.ram

-- ---- a sequence

-- a call with its arguments, the lengths lent to it, and what it answered
pub record Event : Type 0 where
  pub call : Lent → Call
  pub lent : Lent
  pub answer : Answer

abbrev pub played : Event → Call
played e = e.call e.lent

-- the lengths that a call carries are those lent to it, if it is lent any
abbrev pub CarriesBy : Lending → Lent → Type 0
CarriesBy lends_none n = Unit {0}
CarriesBy (lends u l) n = l ≡ n

abbrev pub Carries : Call → Lent → Type 0
Carries c n = CarriesBy (facts c).lending n

-- one call lent a front part: the function's own promise on that part
pub record FrontStep (k : Memory) (e : Event) (k' : Memory) : Type 0 where
  pub parts : Parts (uses (played e)) e.lent (lengths k)
  pub carries : Carries (played e) e.lent
  pub part : Memory
  pub did : Did e.call (front e.lent k) e.answer part
  pub after_is : k' ≡ rejoined e.lent part k

-- one call "lent too short a part of that memory (refusal 1)", wherever the part lies in it: its promise on memory with the head and those lengths
pub record ShortStep (k : Memory) (e : Event) : Type 0 where
  pub part : Memory
  pub part' : Memory
  pub head_is : part.head ≡ k.head
  pub lengths_are : lengths part ≡ e.lent
  pub short : asked (sizes_of k.head) (played e) ≡ 1
  pub did : Did e.call part e.answer part'

pub data Step (k : Memory) (e : Event) : Memory → Type 0 where
  lent_front : {k' : Memory} → FrontStep k e k' → Step k e k'
  lent_short : ShortStep k e → Step k e k

pub data Run : Memory → List Event → Memory → Type 0 where
  none : {k : Memory} → Run k [] k
  next : {k k₁ k₂ : Memory} {e : Event} {es : List Event} → Step k e k₁ → Run k₁ es k₂ → Run k (e ∷ es) k₂

-- a call that was accepted and begins the state m, on memory that held anything
pub record Beginning (m : State) (k : Memory) (k' : Memory) : Type 0 where
  pub first : Event
  pub begins : (facts (played first)).begins ≡ some m
  pub accepted : first.answer ≡ done
  pub step : FrontStep k first k'

-- the same calls, with the same lengths
abbrev pub calls : List Event → List Call
calls es = map played es
