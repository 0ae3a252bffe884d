-- A number before the window or after it is left out.
use Rattle.distinct.specs.Laws.{saw_as, saw_nothing}
use Rattle.distinct.specs.Windows.{before_window, after_window, inside_window}
use Rattle.distinct.proofs.see_within.Goals as goal
use Rattle.distinct.proofs.see_within.Goals.{then-w-lo-via-then-w-lo, then-w-lo-via-else-w-lo+then-size-w}

pub returns-then-w-lo : goal.returns-then-w-lo
returns-then-w-lo c =
    let a = c.args in
    elim c.then-w-lo.branch [
      | then-w-lo-via-then-w-lo w ↦ saw_nothing (before_window a.lo a.size a.w w.if-w-lo.true)
      | then-w-lo-via-else-w-lo+then-size-w w ↦ saw_nothing (after_window a.lo a.size a.w w.if-w-lo.false w.if-size-w.true)
    ]

pub returns : goal.returns
returns c = let a = c.args in saw_as (inside_window a.lo a.size a.w c.if-w-lo.false c.if-size-w.false) c.see.ensures
