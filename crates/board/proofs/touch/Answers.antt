-- The three numbers that are stored make the head the answer's; where none is stored, nothing changed.
use Rattle.std.specs.Prelude.{refl}
use Rattle.std.proofs.Common.{ap}
use Rattle.machine.specs.Answers.{touched_says}
use Rattle.promise.specs.Did.{still}
use Rattle.board.proofs.Pooling.{pool_changes, head_stays}
use Rattle.board.proofs.touch.Goals as goal

pub returns-in-New : goal.returns-in-New
returns-in-New c = rw (pool_changes refl c.touch-touched.ensures) c.touch-touched.ensures

pub returns-in_default : goal.returns-in_default
returns-in_default c = head_stays c.touch-touched.ensures (ap (λ x. still (touched_says x)) c.in_default.is)

pub returns-in_default-answer : goal.returns-in_default-answer
returns-in_default-answer c =
    head_stays c.touch-touched.ensures (ap (λ x. still (touched_says x)) (rw c.in_default-answer.is at c.in-Ok.is))
