use Prim.Native.Nat.{◌-◌}
use lib.Seq.{slice}
use Rattle.words.specs.Words.{words_in}
use Rattle.machine.specs.Map.{blocks_in}
use Rattle.memory.specs.Memory.{memory}
use Rattle.filling.proofs.Bodies.{BodyFilling}
use Rattle.filling.proofs.fill_body.Given as goal

abbrev pub invariant-loop-at : goal.invariant-loop-at
invariant-loop-at l =
    BodyFilling l.lo (λ index ram. memory l.initial.after index l.initial.count l.initial.table l.initial.helper l.initial.stack l.initial.cache l.initial.link ram) (blocks_in (slice l.body.first l.body.to (words_in l.bytes)))
    (words_in l.bytes) l.at l.body.to (λ index ram. memory l.after index l.count l.table l.helper l.stack l.cache l.link ram)

abbrev pub decreases-loop-at : goal.decreases-loop-at
decreases-loop-at l = l.body.to - l.at
