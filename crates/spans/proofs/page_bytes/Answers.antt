-- One, shifted by a page size that is within its limits.
use native.Mathlib.Omega.{arith}
use Rattle.checks.specs.Shifts.{shift_fits}
use Rattle.spans.specs.Shifted.{page_shifted}
use Rattle.spans.proofs.page_bytes.Goals as goal

pub overflow_shl-result : goal.overflow_shl-result
overflow_shl-result c = omega (arith, shift_fits c.args.h c.requires)

pub returns : goal.returns
returns c = page_shifted c.args.h c.requires
