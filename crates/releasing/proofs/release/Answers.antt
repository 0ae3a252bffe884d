-- What is to be done, carried out.
use Rattle.releasing.proofs.Releases.{splice_ready, released, did_splice}
use Rattle.releasing.proofs.release.Goals as goal

pub returns-in-Ok-None-clause-by_index : goal.returns-in-Ok-None-clause-by_index
returns-in-Ok-None-clause-by_index c = released _ _ _ _ _ _ _ _ _ (rw c.in-Ok-None.field-0-is at c.in-Ok-None.ensures)

pub splice-done-requires : goal.splice-done-requires
splice-done-requires c = splice_ready _ _ _ _ _ _ _ _ _ (rw c.in-Ok-Some.field-0-is at c.in-Ok-Some.ensures)

pub returns-in-Ok-Some-clause-by_index : goal.returns-in-Ok-Some-clause-by_index
returns-in-Ok-Some-clause-by_index c =
    did_splice _ _ _ _ _ _ _ _ _ (rw c.in-Ok-Some.field-0-is at c.in-Ok-Some.ensures) _ _ _ c.splice-done.ensures

pub returns-in-Err-clause-by_index : goal.returns-in-Err-clause-by_index
returns-in-Err-clause-by_index c = released _ _ _ _ _ _ _ _ _ c.in-Err.ensures
