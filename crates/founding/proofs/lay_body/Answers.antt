-- One region after another: its frames are linked behind those before them.
use Prim.Native.Nat.{◌≤◌}
use native.Mathlib.Omega.{arith}
use lib.ListN.{length}
use Rattle.words.specs.Words.{words_in}
use Rattle.words.specs.Laws.{words_long}
use Rattle.walking.specs.Regions.{walked_fits}
use Rattle.founding.proofs.Laying.{begin_framing, body_laid, region_low, region_reach, region_laid}
use Rattle.founding.proofs.lay_body.Goals as goal
use Rattle.founding.proofs.lay_body.Goals.{In-loop-at}

long : (c : In-loop-at) → c.args.body.to ≤ length (words_in c.args.bytes.now)
long c = words_long c.args.body.to c.args.bytes.now c.requires.1

pub loop-at-init : goal.loop-at-init
loop-at-init c =
    let a = c.args in
    begin_framing a.before (words_in a.bytes.now) a.body.first a.body.to a.link.now c.requires.0 c.requires.2 c.requires.3

pub index_at-n-requires : goal.index_at-n-requires
index_at-n-requires c =
    let h = long (goal.at.index_at-n-requires c).In-loop-at in
    omega (arith, walked_fits (words_in c.args.bytes.now) c.loop-at.invariant.walked h c.loop-at-test.true, c.requires.1)

pub lay_part-laid-requires : goal.lay_part-laid-requires
lay_part-laid-requires c =
    let n = c.index_at-n in
    let x = c.loop-at.invariant in
    let h = long (goal.at.lay_part-laid-requires c).In-loop-at in (
      region_reach x h c.loop-at-test.true n.result n.ensures.0 (length c.args.bytes.now) c.requires.1,
      omega arith,
      x.lays.low,
      region_low x h c.loop-at-test.true n.result n.ensures.0 c.requires.4,
    )

pub loop-at-preserved : goal.loop-at-preserved
loop-at-preserved c =
    let n = c.index_at-n in
    region_laid c.loop-at.invariant (long (goal.at.loop-at-preserved c).In-loop-at) c.loop-at-test.true n.result n.ensures.0 c.lay_part-laid.ensures

pub returns : goal.returns
returns c = body_laid c.loop-at.invariant c.loop-at-test.false
