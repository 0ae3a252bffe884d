-- The check, then the start at its place.
use Rattle.std.proofs.Common.{sym, ◌∙◌}
use Rattle.std.proofs.lemmas.Result.{err_from_is_err_and}
use Rattle.refusals.proofs.Laws.{not_none}
use Rattle.marking.proofs.Pages.{drop_refused, searchable, dropped}
use Rattle.marking.proofs.drop.Goals as goal

pub returns-in_err-check : goal.returns-in_err-check
returns-in_err-check c =
    let p = err_from_is_err_and c.from_residual.result c.from_residual.ensures.1 in
    rw (p.1, p.2) (drop_refused _ _ _ _ _ _ c.lent-lengths.ensures _ c.in_err-check.ensures (λ e. not_none _ (c.in_err-check.ensures ∙ e)))

pub drop_at-requires : goal.drop_at-requires
drop_at-requires c =
    searchable _ _ _ _ _ _ c.lent-lengths.ensures (sym c.in_ok-check.ensures) _ _
    c.all_places.ensures c.place.ensures

pub returns : goal.returns
returns c =
    dropped _ _ _ _ _ _ c.lent-lengths.ensures (sym c.in_ok-check.ensures) _ _
    c.all_places.ensures c.place.ensures _ _ c.drop_at.ensures
