-- The page size, the check, then what begins.
use Rattle.std.specs.Prelude.{refl}
use Rattle.refusals.proofs.Laws.{not_none}
use Rattle.starting.proofs.Begins.{refused_so, start_no_size, start_refused, start_ready, start_begun}
use Rattle.starting.proofs.start.Goals as goal

pub returns-in_default : goal.returns-in_default
returns-in_default c = start_no_size _ _ _ _ _ _ _ _ c.of.ensures _ _ _ c.in_default.is (refused_so c.not_started.ensures)

pub returns-in-Err : goal.returns-in-Err
returns-in-Err c =
    start_refused _ _ _ _ _ _ _ _ c.of.ensures _ c.in-Ok.is _ _ c.lent.ensures c.in-Err.ensures _ _ (not_none _) (refused_so c.not_started-in-Err.ensures)

pub begin-requires : goal.begin-requires
begin-requires c = start_ready _ _ _ _ 0 c.lent.ensures c.in_default-check.ensures refl

pub returns : goal.returns
returns c =
    start_begun _ _ _ _ _ _ _ _ c.of.ensures _ c.in-Ok.is _ 0 c.lent.ensures c.in_default-check.ensures _ _ _ _ refl c.begin.ensures
