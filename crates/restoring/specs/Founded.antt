-- Memory just started with the sizes of a sound state, long enough for them, and the file of that state.
use Rattle.std.specs.Prelude.{◌≡◌, List, ℕ, length}
use Rattle.words.specs.Words.{words_in}
use Rattle.machine.specs.Machine.{State, begun, every_table}
use Rattle.machine.specs.Claims.{Sound}
use Rattle.machine.specs.Map.{map_words}
use Rattle.memory.specs.Memory.{Memory, lengths, sizes_of}
use Rattle.memory.specs.declared.Head.{Head}
use Rattle.promise.specs.Holds.{Holds}
use Rattle.laws.specs.Refusals.{Long}
use Rattle.walking.specs.Rows.{Bodied}

pub record Founded (m : State) (file : List ℕ) (k : Memory) : Type 0 where
  pub sound : Sound m
  pub words_are : words_in file ≡ map_words m
  pub bodied : Bodied (length file) (words_in file) m.sizes.spaces
  pub started : Holds (begun m.sizes m.ram) k
  pub lent : Long every_table m.sizes (lengths k)

-- the head of the sizes of h, with every frame linked, from frame x on
pub record AllLinked (h : Head) (x : ℕ) (r : Head) : Type 0 where
  pub sizes : sizes_of r ≡ sizes_of h
  pub first : r.first ≡ x
  pub many : r.many ≡ h.frames
  pub fresh : r.fresh ≡ r.frames
