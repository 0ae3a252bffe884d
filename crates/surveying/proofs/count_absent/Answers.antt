-- One page more: absent or not.
use mathlib.Core.Path.{◌≡◌}
use native.Mathlib.Omega.{arith}
use Rattle.surveying.proofs.Counting.{counted_none, counted_resident, counted_absent}
use Rattle.surveying.proofs.count_absent.Goals as goal
use Rattle.surveying.proofs.count_absent.Goals.{then-head-frame, else-head-frame}

pub loop-page-init : goal.loop-page-init
loop-page-init c = (omega arith, counted_none _ _ _ _ _ _ _ _)

pub loop-page-preserved : goal.loop-page-preserved
loop-page-preserved c =
    let l = c.loop-page in
    let y = c.requires.3 l.page (omega arith) in
    elim c.if-head-frame.branch [
      | then-head-frame w ↦
          (omega arith, rw w.absent-is (counted_absent _ _ _ _ _ _ _ _ l.invariant.1 (omega arith) c.frame_of-frame.ensures w.if-head-frame.true))
      | else-head-frame w ↦
          (omega arith, rw w.absent-is (counted_resident _ _ _ _ _ _ _ _ l.invariant.1 (omega arith) c.frame_of-frame.ensures y.space y.page w.if-head-frame.false))
    ]

pub returns : goal.returns
returns c =
    let all : c.loop-page.page ≡ c.args.end = omega arith in
    rw all at c.loop-page.invariant.1
