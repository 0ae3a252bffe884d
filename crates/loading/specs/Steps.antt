-- What the filling of a judged file may take for granted, and what it leaves.
use Rattle.std.specs.Prelude.{◌≡◌, true, List, [], ℕ}
use Rattle.words.specs.Words.{words_in}
use Rattle.machine.specs.Machine.{every_table}
use Rattle.machine.specs.Map.{sizes_in, state_in}
use Rattle.machine.specs.MapRules.{file_ok}
use Rattle.memory.specs.Memory.{Memory, memory, sizes_of, lengths}
use Rattle.memory.specs.declared.Head.{Head}
use Rattle.promise.specs.Holds.{Holds}
use Rattle.promise.specs.Did.{Refills}
use Rattle.laws.specs.Refusals.{Long}
use Rattle.starting.specs.Steps.{Unused}

-- the file is a map of the head's sizes, and the tables are long enough for them
pub record Loadable (file : List ℕ) (h : Head) (index count table helper stack cache link : List ℕ) : Type 0 where
  pub whole : file_ok file ≡ true
  pub sizes : sizes_of h ≡ sizes_in (words_in file)
  pub unused : Unused h
  pub lent : Long every_table (sizes_of h) (lengths (memory h index count table helper stack cache link []))

-- the memory stands for the state in the file
pub record Loads (file : List ℕ) (k k' : Memory) : Type 0 where
  pub bounds : Refills (sizes_in (words_in file)) k k'
  pub holds : Holds (state_in k.ram (words_in file)) k'
