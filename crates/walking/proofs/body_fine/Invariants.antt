use mathlib.Core.Path.{◌≡◌}
use Prim.Native.Nat.{◌-◌, ◌≤◌, ◌<◌}
use lib.Seq.{slice}
use Rattle.words.specs.Words.{words_in}
use Rattle.machine.specs.MapRules.{fine_from, fine_body}
use Rattle.walking.proofs.body_fine.Given as goal

abbrev pub invariant-loop-at : goal.invariant-loop-at
invariant-loop-at l =
    (l.at ≤ l.body.to)
    × (l.next < 4294967296)
    × (fine_body l.pages (slice l.body.first l.body.to (words_in l.bytes)) ≡ fine_from l.pages l.next (slice l.at l.body.to (words_in l.bytes)))

abbrev pub decreases-loop-at : goal.decreases-loop-at
decreases-loop-at l = l.body.to - l.at
