-- The survey, then the records.
use Rattle.std.proofs.lemmas.Result.{err_from_is_err_and}
use Rattle.listing.proofs.Called.{filled, not_filled}
use Rattle.listing.proofs.list.Goals as goal

pub returns-in_err-regions : goal.returns-in_err-regions
returns-in_err-regions c =
    let p = err_from_is_err_and c.from_residual.result c.from_residual.ensures.1 in
    rw (p.1, p.2) (not_filled _ _ c.in_err-regions.ensures)

pub returns : goal.returns
returns c = filled _ c.in_ok-regions.ensures c.fill.ensures
