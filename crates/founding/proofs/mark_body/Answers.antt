-- One region after another: its start goes into the index.
use native.Mathlib.Omega.{arith}
use Prim.Native.Nat.{◌≤◌}
use lib.ListN.{length}
use Rattle.words.specs.Words.{words_in}
use Rattle.words.specs.Laws.{words_long}
use Rattle.walking.specs.Regions.{walked_fits}
use Rattle.founding.proofs.Marking.{begin_marking, body_marked, region_marked}
use Rattle.founding.proofs.mark_body.Goals as goal
use Rattle.founding.proofs.mark_body.Goals.{In-loop-at}

long : (c : In-loop-at) → c.args.body.to ≤ length (words_in c.args.bytes.now)
long c = words_long c.args.body.to c.args.bytes.now c.requires.1

pub loop-at-init : goal.loop-at-init
loop-at-init c =
    let a = c.args in
    begin_marking a.t a.lo (words_in a.bytes.now) a.body.first a.body.to a.index.now c.requires.0 c.requires.3

pub index_at-n-requires : goal.index_at-n-requires
index_at-n-requires c =
    let h = long (goal.at.index_at-n-requires c).In-loop-at in
    omega (arith, walked_fits (words_in c.args.bytes.now) c.loop-at.invariant.walked h c.loop-at-test.true, c.requires.1)

pub loop-at-preserved : goal.loop-at-preserved
loop-at-preserved c =
    let start = c.index_at in
    let h = long (goal.at.loop-at-preserved c).In-loop-at in
    region_marked c.loop-at.invariant h c.loop-at-test.true start.result c.index_at-n.result start.ensures.0 c.index_at-n.ensures.0 c.set.ensures

pub returns : goal.returns
returns c = body_marked c.loop-at.invariant c.loop-at-test.false
