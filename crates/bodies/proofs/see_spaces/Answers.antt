-- One body after another: its frames go into the set, up to the first that was seen.
use mathlib.Core.Path.{◌≡◌}
use mathlib.Core.List.{List, ◌++◌}
use Prim.Native.Nat.{ℕ, ◌+◌, ◌-◌}
use lib.Seq.{slice}
use Rattle.words.specs.Words.{words_in}
use Rattle.machine.specs.MapRules.{held_frames}
use Rattle.distinct.specs.Laws.{all_seen, seen_more, seen_not}
use Rattle.bodies.specs.Bodies.{body_frames}
use Rattle.bodies.proofs.Frames.{held_end, row_next}
use Rattle.bodies.proofs.see_spaces.Goals as goal
use Rattle.bodies.proofs.see_spaces.Goals.{After-body_at-body}

-- the frames of the space, and those after it
abbrev own : After-body_at-body → List ℕ
own c = let b = c.body_at-body.result in body_frames (slice b.first b.to (words_in c.args.bytes.now))

abbrev later : After-body_at-body → List ℕ
later c = let i = c.loop-i.i in held_frames (words_in c.args.bytes.now) (i + 1) (c.args.spaces - (i + 1))

split : (c : After-body_at-body)
    → let i = c.loop-i.i in
    held_frames (words_in c.args.bytes.now) i (c.args.spaces - i) ≡ own c ++ later c
split c = row_next c.body_at-body.ensures c.args.spaces c.loop-i-test.true

pub returns-then-not-see_body : goal.returns-then-not-see_body
returns-then-not-see_body c =
    let s = (goal.at.returns-then-not-see_body c).After-body_at-body in
    seen_not c.loop-i.invariant (own s) (later s) (split s) c.see_body.ensures c.if-not-see_body.true

pub loop-i-preserved : goal.loop-i-preserved
loop-i-preserved c =
    let s = (goal.at.loop-i-preserved c).After-body_at-body in
    seen_more c.loop-i.invariant (own s) (later s) (split s) c.see_body.ensures c.if-not-see_body.false

pub returns : goal.returns
returns c =
    let l = c.loop-i in
    let a = c.args in
    all_seen l.invariant (held_end (words_in a.bytes.now) l.i a.spaces c.loop-i-test.false)
