-- F x P is at most 2 ^ 32, so the shift loses no bit.
use native.Mathlib.Omega.{arith}
use Rattle.checks.specs.Shifts.{shift_fits, ram_exact}
use Rattle.checks.proofs.ram_bytes.Goals as goal

pub overflow_shl-result : goal.overflow_shl-result
overflow_shl-result c = omega (arith, shift_fits c.args.h c.requires)

pub returns : goal.returns
returns c = ram_exact c.args.h _ c.requires c.wide.ensures
