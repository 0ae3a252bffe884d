-- One number more.
use Rattle.std.proofs.Common.{arith}
use Rattle.digits.specs.Text.{numbers_text}
use Rattle.digits.specs.Laws.{added_none, added_more}
use Rattle.digits.proofs.Written.{numbers_more}
use Rattle.digits.proofs.Text.put_numbers.Goals as goal

pub loop-n-init : goal.loop-n-init
unfolding numbers_text
loop-n-init c = record { room = omega arith; added = added_none _ }

pub loop-n-preserved : goal.loop-n-preserved
loop-n-preserved c = record {
  room = omega arith;
  added =
      rw (numbers_more _ _ c.loop-n-test.true, ← c.from.ensures)
      (added_more c.loop-n.invariant.added c.put_pair.ensures.added);
}
