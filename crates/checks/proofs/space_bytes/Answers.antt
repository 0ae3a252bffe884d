-- N x P is at most 2 ^ 34, so the shift loses no bit.
use native.Mathlib.Omega.{arith}
use Rattle.checks.specs.Shifts.{shift_fits, space_exact}
use Rattle.checks.proofs.space_bytes.Goals as goal

pub overflow_shl-result : goal.overflow_shl-result
overflow_shl-result c = omega (arith, shift_fits c.args.h c.requires)

pub returns : goal.returns
returns c = space_exact c.args.h _ c.requires c.wide.ensures
