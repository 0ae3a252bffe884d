use mathlib.Core.Path.{◌≡◌}
use mathlib.Core.Bool.{true}
use Prim.Native.Nat.{◌-◌, ◌≤◌}
use lib.Seq.{slice}
use Rattle.words.specs.Words.{words_in}
use Rattle.machine.specs.Map.{whole_from}
use Rattle.distinct.specs.Distinct.{Seeing}
use Rattle.bodies.specs.Bodies.{body_frames}
use Rattle.bodies.proofs.see_body.Given as goal

abbrev pub invariant-loop-at : goal.invariant-loop-at
invariant-loop-at l =
    Seeing l.frames (body_frames (slice l.body.first l.body.to (words_in l.bytes))) l.initial.seen l.seen (body_frames (slice l.at l.body.to (words_in l.bytes)))
    × (l.at ≤ l.body.to) × (whole_from 0 (slice l.at l.body.to (words_in l.bytes)) ≡ true)

abbrev pub decreases-loop-at : goal.decreases-loop-at
decreases-loop-at l = l.body.to - l.at
