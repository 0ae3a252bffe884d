-- Bytes that reach the RAM from outside the calls, as when a radio fills a frame that a touch gave: what still holds then. Nobody but the calls
-- writes head, index or tables.
use Rattle.std.specs.Prelude.{◌≡◌, List, [], ◌∷◌, map, ℕ}
use Rattle.machine.specs.Machine.{State, translate, with_ram, Answer, at, answer, after, answers, after_all}
use Rattle.machine.specs.Claims.{blind, Same}
use Rattle.memory.specs.Memory.{Memory, with_bytes}
use Rattle.promise.specs.Holds.{Holds}
use Rattle.promise.specs.Did.{Did}
use Rattle.demands.specs.History.{Event, played, calls, Step, Beginning}

-- a call; or a write from outside, after which the RAM holds these bytes
pub data Turn : Type 0 where
  called : Event → Turn
  filled : (ram : List ℕ) → Turn

pub data Course : Memory → List Turn → Memory → Type 0 where
  none : {k : Memory} → Course k [] k
  call : {k k₁ k₂ : Memory} {e : Event} {ts : List Turn} → Step k e k₁ → Course k₁ ts k₂ → Course k (called e ∷ ts) k₂
  fill : {k k₂ : Memory} {ts : List Turn} (ram : List ℕ) → Course (with_bytes k ram) ts k₂ → Course k (filled ram ∷ ts) k₂

-- an accepted beginning on memory that held anything, then calls and writes from outside in any order
pub record FilledSequence (m : State) (k : Memory) (ts : List Turn) (k' : Memory) : Type 0 where
  pub started : Memory
  pub beginning : Beginning m k started
  pub course : Course started ts k'

-- the calls alone
unfoldable pub made : List Turn → List Event
made [] = []
made (called e ∷ ts) = e ∷ made ts
made (filled ram ∷ ts) = made ts

-- the plain machine, whose RAM the same bytes reach
unfoldable pub answers_in : State → List Turn → List Answer
answers_in m [] = []
answers_in m (called e ∷ ts) = answer m (played e) ∷ answers_in (after m (played e)) ts
answers_in m (filled ram ∷ ts) = answers_in (with_ram m ram) ts

unfoldable pub after_in : State → List Turn → State
after_in m [] = m
after_in m (called e ∷ ts) = after_in (after m (played e)) ts
after_in m (filled ram ∷ ts) = after_in (with_ram m ram) ts

pub record Outside (m : State) (ts : List Turn) (k' : Memory) : Type 0 where
  -- every answer is that of the plain machine whose RAM the same bytes reach; a read brings what stands in RAM
  pub answers_are : map (λ e. e.answer) (made ts) ≡ answers_in m ts
  pub holds : Holds (after_in m ts) k'
  -- but for the bytes that reads bring, all is as if nobody had written: every answer, and who holds which frame
  pub answers_alike : map (λ e. blind e.answer) (made ts) ≡ map blind (answers m (calls (made ts)))
  pub state_alike : after_in m ts ≡ with_ram (after_all m (calls (made ts))) k'.ram
  -- no two resident addresses share a byte
  pub apart : (i x j y p : ℕ) (a b : Memory) → Did (translate i x) k' (at p) a → Did (translate j y) k' (at p) b → Same i x j y

abbrev pub OutsideFor : Type 0
OutsideFor = (m : State) (k k' : Memory) (ts : List Turn) → FilledSequence m k ts k' → Outside (with_ram m k.ram) ts k'
