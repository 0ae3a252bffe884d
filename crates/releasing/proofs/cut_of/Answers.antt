-- The check, then whether the page is a start, then the region.
use mathlib.Core.Path.{refl, sym}
use Rattle.std.proofs.lemmas.Result.{err_from_is_err_and}
use Rattle.laws.specs.Checking.{ready}
use Rattle.releasing.proofs.Releases.{page_known, tables_known, word_known, cut_refused, cut_asked}
use Rattle.releasing.proofs.cut_of.Goals as goal

pub returns-in_err-check : goal.returns-in_err-check
returns-in_err-check c =
    let p = err_from_is_err_and c.from_residual.result c.from_residual.ensures.1 in
    rw (p.1, p.2) (cut_refused _ _ _ _ _ _ _ _ _ refl _ c.in_err-check.ensures)

pub place-a-requires : goal.place-a-requires
place-a-requires c = page_known _ _ _ _ (ready _ _ _ _ (sym c.in_ok-check.ensures))

pub bit_at-requires : goal.bit_at-requires
bit_at-requires c =
    word_known _ _ _ _ (ready _ _ _ _ (sym c.in_ok-check.ensures)) _ c.place-a.ensures

pub cut_at-requires : goal.cut_at-requires
cut_at-requires c =
    tables_known _ _ _ _ (ready _ _ _ _ (sym c.in_ok-check.ensures)) _ _ c.all_places-t.ensures c.place-a.ensures

pub returns-then-bit_at : goal.returns-then-bit_at
returns-then-bit_at c =
    cut_asked _ _ _ _ _ _ _ _ _ refl (sym c.in_ok-check.ensures) _ _ _ c.all_places-t.ensures c.place-a.ensures
    (rw (← c.bit_at.ensures, c.if-bit_at.true) c.cut_at.ensures)

pub returns : goal.returns
returns c =
    cut_asked _ _ _ _ _ _ _ _ _ refl (sym c.in_ok-check.ensures) _ _ _ c.all_places-t.ensures c.place-a.ensures
    (rw (← c.bit_at.ensures, c.if-bit_at.false) refl)
