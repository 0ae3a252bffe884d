-- The check, then the look of a call that passed it.
use Rattle.std.specs.Prelude.{refl}
use Rattle.std.proofs.lemmas.Result.{err_from_is_err_and}
use Rattle.refusals.proofs.Laws.{not_none}
use Rattle.lookup.proofs.Sights.{look_ready, look_refused}
use Rattle.lookup.proofs.look.Goals as goal

pub look_checked-requires : goal.look_checked-requires
look_checked-requires c = look_ready _ _ _ _ _ _ _ _ _ c.in_ok-check.ensures refl

pub returns-in_err-check : goal.returns-in_err-check
returns-in_err-check c =
    let p = err_from_is_err_and c.from_residual.result c.from_residual.ensures.1 in
    rw (p.1, p.2) (look_refused _ _ _ _ _ _ _ _ _ c.in_err-check.ensures (not_none _))
