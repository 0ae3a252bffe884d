-- One word after another: the frame before it is linked to it.
use Rattle.distinct.specs.Laws.{picked_next, picked_end}
use Rattle.founding.proofs.Laying.{all_linked, one_linked}
use Rattle.founding.proofs.lay.Goals as goal

pub loop-k-preserved : goal.loop-k-preserved
loop-k-preserved c =
    let w = c.word_at-end in
    rw c.wide-e.ensures (one_linked c.loop-k.invariant w.result _ (picked_next _ _ _ _ c.loop-k.k w.result c.loop-k-test.true w.ensures))

pub returns : goal.returns
returns c = all_linked c.loop-k.invariant (picked_end _ _ _ _ c.loop-k.k c.loop-k-test.false)
