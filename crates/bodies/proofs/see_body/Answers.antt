-- One region after another: its frames go into the set, up to the first that was seen.
use mathlib.Core.Path.{◌≡◌, ap, ◌∙◌}
use mathlib.Core.List.{List, ◌++◌}
use Prim.Native.Nat.{ℕ, ◌+◌, ◌*◌, ◌≤◌}
use native.Mathlib.Omega.{arith}
use lib.ListN.{length}
use lib.Seq.{slice}
use Rattle.extent.specs.Checks.{check_size}
use Rattle.words.specs.Words.{words_in}
use Rattle.words.specs.Laws.{words_long}
use Rattle.distinct.specs.Distinct.{picked}
use Rattle.distinct.specs.Laws.{all_seen, seen_more, seen_not}
use Rattle.walking.specs.Regions.{region_fits}
use Rattle.bodies.specs.Bodies.{body_frames}
use Rattle.bodies.proofs.Frames.{frames_end, region_ends, frames_next, rest_whole, frames_reach}
use Rattle.bodies.proofs.see_body.Goals as goal
use Rattle.bodies.proofs.see_body.Goals.{After-index_at-n, In-loop-at}

long : (c : In-loop-at) → c.args.body.to ≤ length (words_in c.args.bytes.now)
long c = words_long c.args.body.to c.args.bytes.now c.requires.0.inside

-- the frames of the region, and those after it
abbrev own : After-index_at-n → List ℕ
own c = picked (words_in c.args.bytes.now) (c.loop-at.at + 4) 2 c.index_at-n.result

abbrev later : After-index_at-n → List ℕ
later c = body_frames (slice (c.loop-at.at + (3 + 2 * c.index_at-n.result)) c.args.body.to (words_in c.args.bytes.now))

split : (c : After-index_at-n) → body_frames (slice c.loop-at.at c.args.body.to (words_in c.args.bytes.now)) ≡ own c ++ later c
split c =
    let body = c.args.body in
    frames_next _ c.loop-at.at body.to (words_long body.to c.args.bytes.now c.requires.0.inside) c.loop-at-test.true c.loop-at.invariant.2 _ c.index_at-n.ensures.0

pub index_at-n-requires : goal.index_at-n-requires
index_at-n-requires c =
    let h = long (goal.at.index_at-n-requires c).In-loop-at in
    omega (arith, region_fits _ c.loop-at.at c.args.body.to h c.loop-at-test.true c.loop-at.invariant.2, c.requires.0.inside)

pub all_new-requires : goal.all_new-requires
all_new-requires c =
    let l = c.loop-at in
    let h = long (goal.at.all_new-requires c).In-loop-at in (
      frames_reach _ l.at c.args.body.to h c.loop-at-test.true l.invariant.2 _ c.index_at-n.ensures.0 (length c.args.bytes.now) c.requires.0.inside,
      omega arith,
      ap (λ (n : ℕ). check_size n c.args.frames) l.invariant.0.size ∙ c.requires.1,
    )

pub returns-then-not-all_new : goal.returns-then-not-all_new
returns-then-not-all_new c =
    let s = (goal.at.returns-then-not-all_new c).After-index_at-n in
    seen_not c.loop-at.invariant.0 (own s) (later s) (split s) c.all_new.ensures c.if-not-all_new.true

pub loop-at-preserved : goal.loop-at-preserved
loop-at-preserved c =
    let l = c.loop-at in
    let s = (goal.at.loop-at-preserved c).After-index_at-n in
    let h = long (goal.at.loop-at-preserved c).In-loop-at in (
      seen_more l.invariant.0 (own s) (later s) (split s) c.all_new.ensures c.if-not-all_new.false,
      region_ends _ l.at c.args.body.to h c.loop-at-test.true l.invariant.2 _ c.index_at-n.ensures.0,
      rest_whole _ l.at c.args.body.to h c.loop-at-test.true l.invariant.2 _ c.index_at-n.ensures.0,
    )

pub returns : goal.returns
returns c =
    let l = c.loop-at in
    all_seen l.invariant.0 (frames_end (words_in c.args.bytes.now) l.at c.args.body.to l.invariant.1 c.loop-at-test.false)
