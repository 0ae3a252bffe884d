-- What the steps of start promise each other, in the terms of its model.
use Rattle.std.specs.Prelude.{◌≡◌, true, List, ℕ, ◌≤◌, length}
use Rattle.machine.specs.Machine.{places, sizes_ok, Answer}
use Rattle.memory.specs.Memory.{memory, sizes_of}
use Rattle.memory.specs.declared.Head.{Head}
use Rattle.starting.specs.Models.{Starts}

pub record Beginnable (h : Head) (count : List ℕ) : Type 0 where
  pub sizes_ok_lem : sizes_ok (sizes_of h) ≡ true
  pub count_long : places (sizes_of h) ≤ length count

-- whatever head and tables were there before
abbrev pub BeginsAs : Head → List ℕ → List ℕ → Head → Answer → List ℕ → List ℕ → Type 0
BeginsAs next ws count h' a ws' count' =
    (h : Head) (table helper stack cache link ram : List ℕ)
    → Starts next (memory h ws count table helper stack cache link ram) a (memory h' ws' count' table helper stack cache link ram)

-- no frame used yet
pub record Unused (h : Head) : Type 0 where
  pub first : h.first ≡ 0
  pub many : h.many ≡ 0
  pub fresh : h.fresh ≡ 0
