-- One region after another, with the start, the length and the number of entries that its head has.
use mathlib.Core.Path.{sym, ◌∙◌}
use Prim.Native.Nat.{◌≤◌}
use native.Mathlib.Omega.{arith}
use lib.ListN.{length}
use Rattle.words.specs.Words.{words_in}
use Rattle.words.specs.Laws.{words_long}
use Rattle.walking.specs.Laws.{next_at}
use Rattle.bodies.proofs.Once.{all_left, none_left, next_fits, region_below, region_within, region_reach, region_good, region_bad}
use Rattle.bodies.proofs.pages_once.Goals as goal
use Rattle.bodies.proofs.pages_once.Goals.{After-index_at-n, In-loop-at}

long : (c : In-loop-at) → c.args.body.to ≤ length (words_in c.args.bytes.now)
long c = words_long c.args.body.to c.args.bytes.now c.requires.0.inside

fits : (c : In-loop-at) → next_at (words_in c.args.bytes.now) c.loop-at.at ≤ c.args.body.to
fits c = next_fits c.loop-at.invariant (long c) c.loop-at-test.true

pub loop-at-init : goal.loop-at-init
loop-at-init c = all_left c.requires.0

pub index_at-length-requires : goal.index_at-length-requires
index_at-length-requires c = omega (arith, fits (goal.at.index_at-length-requires c).In-loop-at, c.requires.0.inside)

pub index_at-n-requires : goal.index_at-n-requires
index_at-n-requires c = omega (arith, fits (goal.at.index_at-n-requires c).In-loop-at, c.requires.0.inside)

pub region_once-requires : goal.region_once-requires
region_once-requires c =
    let x = c.loop-at.invariant in
    let h = long (goal.at.region_once-requires c).In-loop-at in
    let some = c.loop-at-test.true in
    let lo = c.index_at-lo.ensures.0 in
    let l = c.index_at-length.ensures.0 in
    let n = c.index_at-n.ensures.0 in (
      region_reach x h some _ _ _ lo l n (length c.args.bytes.now) c.requires.0.inside,
      region_within x h some _ _ _ lo l n,
      omega arith,
    )

pub returns-then-not-region_once : goal.returns-then-not-region_once
returns-then-not-region_once c =
    let x = c.loop-at.invariant in
    let h = long (goal.at.returns-then-not-region_once c).In-loop-at in
    let some = c.loop-at-test.true in
    let lo = c.index_at-lo.ensures.0 in
    let l = c.index_at-length.ensures.0 in
    let n = c.index_at-n.ensures.0 in
    let twice = sym (c.region_once.ensures.0 c.args.pages (region_below x h some _ _ _ lo l n)) ∙ c.if-not-region_once.true in
    (sym (region_bad x h some _ _ _ lo l n twice), omega arith)

pub loop-at-preserved : goal.loop-at-preserved
loop-at-preserved c =
    let x = c.loop-at.invariant in
    let h = long (goal.at.loop-at-preserved c).In-loop-at in
    let some = c.loop-at-test.true in
    let lo = c.index_at-lo.ensures.0 in
    let l = c.index_at-length.ensures.0 in
    let n = c.index_at-n.ensures.0 in
    let new = sym (c.region_once.ensures.0 c.args.pages (region_below x h some _ _ _ lo l n)) ∙ c.if-not-region_once.false in
    region_good x h some _ _ _ lo l n new

pub returns : goal.returns
returns c = (sym (none_left c.loop-at.invariant c.loop-at-test.false), omega arith)
