-- A page of a space has a place below T, so nothing wraps.
use Rattle.memory.specs.Memory.{sizes_of}
use native.Mathlib.Omega.{arith}
use mathlib.Core.Path.{ap₂}
use Prim.Native.Nat.{◌+◌, ◌*◌}
use Rattle.machine.proofs.Laws.Sizes.{fit, place_below}
use Rattle.checks.proofs.place.Goals as goal

pub overflow_mul-result : goal.overflow_mul-result
overflow_mul-result c = omega (
  arith,
  ap₂ ◌*◌ c.wide.ensures c.wide-2.ensures,
  (fit _ c.requires.0).few_places,
  place_below
      (sizes_of c.args.h) _ _ c.requires.1 c.requires.2,
)

pub overflow_add-result : goal.overflow_add-result
overflow_add-result c = omega (
  arith,
  ap₂ ◌*◌ c.wide.ensures c.wide-2.ensures,
  c.wide-3.ensures,
  (fit _
      c.requires.0).few_places,
  place_below (sizes_of c.args.h) _ _ c.requires.1
      c.requires.2,
)

pub returns : goal.returns
returns c = ap₂ ◌+◌ (ap₂ ◌*◌ c.wide.ensures c.wide-2.ensures) c.wide-3.ensures
