-- What a translate may take for granted once the checks for refusals 1 to 3 have passed.
use Rattle.std.specs.Prelude.{◌≡◌, true, List, ℕ}
use Rattle.machine.specs.Machine.{sizes_ok}
use Rattle.machine.specs.Claims.{Address}
use Rattle.memory.specs.Memory.{sizes_of}
use Rattle.memory.specs.declared.Head.{Head}
use Rattle.lookup.specs.Ready.{Lookable}

-- address x of space i lies in the space, and every page of it can be looked up
pub record Translatable (h : Head) (i x : ℕ) (index count table helper stack cache : List ℕ) : Type 0 where
  pub sizes_ok_lem : sizes_ok (sizes_of h) ≡ true
  pub here : Address (sizes_of h) i x
  pub pages : Lookable h i index count table helper stack cache
