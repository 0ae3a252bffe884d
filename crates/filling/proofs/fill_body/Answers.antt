-- One region after another: its pages are mapped.
use Prim.Native.Nat.{◌≤◌}
use native.Mathlib.Omega.{arith}
use lib.ListN.{length}
use Rattle.words.specs.Words.{words_in}
use Rattle.words.specs.Laws.{words_long}
use Rattle.filling.proofs.Bodies.{begin_body, body_filled, fits, region_can, region_reach, region_filled}
use Rattle.filling.proofs.fill_body.Goals as goal
use Rattle.filling.proofs.fill_body.Goals.{In-loop-at}

long : (c : In-loop-at) → c.args.body.to ≤ length (words_in c.args.bytes.now)
long c = words_long c.args.body.to c.args.bytes.now c.requires.1

pub loop-at-init : goal.loop-at-init
loop-at-init c = begin_body (words_in c.args.bytes.now) c.args.body.first c.args.body.to c.requires.0 c.requires.3 c.requires.4

pub index_at-n-requires : goal.index_at-n-requires
index_at-n-requires c = omega (arith, fits c.loop-at.invariant (long (goal.at.index_at-n-requires c).In-loop-at) c.loop-at-test.true, c.requires.1)

pub fill_region-after-requires : goal.fill_region-after-requires
fill_region-after-requires c =
    let n = c.index_at-n in
    let s = c.index_at in
    let x = c.loop-at.invariant in
    let h = long (goal.at.fill_region-after-requires c).In-loop-at in (
      region_reach x h c.loop-at-test.true s.result n.result s.ensures.0 n.ensures.0 _ c.requires.1,
      region_can x h c.loop-at-test.true s.result n.result s.ensures.0 n.ensures.0,
    )

pub loop-at-preserved : goal.loop-at-preserved
loop-at-preserved c =
    let n = c.index_at-n in
    let s = c.index_at in
    let h = long (goal.at.loop-at-preserved c).In-loop-at in
    region_filled c.loop-at.invariant h c.loop-at-test.true s.result n.result s.ensures.0 n.ensures.0 c.fill_region-after.ensures

pub returns : goal.returns
returns c = body_filled c.loop-at.invariant c.loop-at-test.false
