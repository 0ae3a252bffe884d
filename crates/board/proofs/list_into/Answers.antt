-- The regions told from the last to the first, each put before those that stand already; nothing where the survey refuses.
use Rattle.std.proofs.lemmas.Result.{err_from_is_err_and}
use Rattle.board.proofs.Storing.{one_stored, all_stored, none_kept}
use Rattle.board.proofs.list_into.Goals as goal

pub returns-in_err-regions : goal.returns-in_err-regions
returns-in_err-regions c =
    let p = err_from_is_err_and c.from_residual.result c.from_residual.ensures.1 in
    rw (p.1, p.2) (none_kept _ _ c.in_err-regions.ensures)

pub loop-rest-preserved : goal.loop-rest-preserved
loop-rest-preserved c =
    one_stored c.loop-rest.invariant c.last_region-told.ensures c.in_ok-regions.ensures.fits

pub returns : goal.returns
returns c = all_stored _ c.in_ok-regions.ensures c.loop-rest.invariant c.loop-rest-test.false
