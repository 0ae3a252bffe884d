-- The offset is the remainder by the page's bytes.
use native.Mathlib.Omega.{arith}
use Prim.Native.Nat.{◌%◌}
use lib.Pow.{pow_pos}
use Rattle.places.specs.Laws.{one_shifted}
use Rattle.machine.proofs.PageSize.offset.Goals as goal

pub nonzero_rem-result-2 : goal.nonzero_rem-result-2
nonzero_rem-result-2 c = rw (one_shifted (c.args.self.shift % 64) (omega arith)) (pow_pos (c.args.self.shift % 64))

pub returns : goal.returns
returns c = rw (one_shifted (c.args.self.shift % 64) (omega arith))
