-- The check, then the start at its place.
use Rattle.std.proofs.Common.{sym, ◌∙◌}
use Rattle.std.proofs.lemmas.Result.{err_from_is_err_and}
use Rattle.refusals.proofs.Laws.{not_none}
use Rattle.marking.proofs.Pages.{mark_refused, searchable, marked}
use Rattle.marking.proofs.mark.Goals as goal

pub returns-in_err-check : goal.returns-in_err-check
returns-in_err-check c =
    let p = err_from_is_err_and c.from_residual.result c.from_residual.ensures.1 in
    rw (p.1, p.2) (mark_refused _ _ _ _ _ _ c.lent-lengths.ensures _ c.in_err-check.ensures (λ e. not_none _ (c.in_err-check.ensures ∙ e)))

pub mark_at-requires : goal.mark_at-requires
mark_at-requires c =
    searchable _ _ _ _ _ _ c.lent-lengths.ensures (sym c.in_ok-check.ensures) _ _
    c.all_places-t.ensures c.place-2.ensures

pub returns : goal.returns
returns c =
    marked _ _ _ _ _ _ c.lent-lengths.ensures (sym c.in_ok-check.ensures) _ _
    c.all_places-t.ensures c.place-2.ensures _ _ _ c.place.ensures c.mark_at.ensures
