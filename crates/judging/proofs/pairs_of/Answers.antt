-- Region after region, by its head.
use native.Mathlib.Omega.{arith}
use Prim.Native.Nat.{◌≤◌}
use lib.ListN.{length}
use Rattle.words.specs.Words.{words_in}
use Rattle.words.specs.Laws.{words_long}
use Rattle.judging.proofs.Counts.{all_counted, region_in, one_counted}
use Rattle.judging.proofs.pairs_of.Goals as goal
use Rattle.judging.proofs.pairs_of.Goals.{In-loop-at}

long : (c : In-loop-at) → c.args.body.to ≤ length (words_in c.args.bytes.now)
long c = words_long c.args.body.to c.args.bytes.now c.requires.1

pub index_at-n-requires : goal.index_at-n-requires
index_at-n-requires c =
    let h = long (goal.at.index_at-n-requires c).In-loop-at in
    omega (arith, region_in _ _ _ _ _ c.loop-at.invariant h c.loop-at-test.true, c.requires.1)

pub loop-at-preserved : goal.loop-at-preserved
loop-at-preserved c =
    let h = long (goal.at.loop-at-preserved c).In-loop-at in
    one_counted _ _ _ _ _ c.loop-at.invariant h c.loop-at-test.true c.index_at-n.result c.index_at-n.ensures.0

pub returns : goal.returns
returns c = all_counted _ _ _ _ _ c.loop-at.invariant c.loop-at-test.false
