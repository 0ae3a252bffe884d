-- The state begun, then filled.
use Rattle.loading.proofs.Loaded.{can_begin, founded, loaded}
use Rattle.memory.specs.Memory.{memory}
use mathlib.Core.Path.{refl}
use mathlib.Core.List.{[]}
use Rattle.loading.proofs.load.Goals as goal

pub begin-begun-requires : goal.begin-begun-requires
begin-begun-requires c = can_begin _ _ _ _ _ _ _ _ _ c.requires

pub restore-requires : goal.restore-requires
restore-requires c =
    (_, founded _ _ _ _ _ _ _ _ _ c.requires _ _ _ _ c.begin-begun.ensures [])

pub returns : goal.returns
returns c =
    λ ram. loaded _ _ _ _ _ _ _ _ _ c.requires _ _ _ _ c.begin-begun.ensures (λ ram. memory _ _ _ _ _ _ _ _ ram) c.restore.ensures ram refl
