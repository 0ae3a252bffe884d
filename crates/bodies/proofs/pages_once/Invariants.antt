use Prim.Native.Nat.{◌-◌}
use Rattle.words.specs.Words.{words_in}
use Rattle.bodies.proofs.Once.{Left}
use Rattle.bodies.proofs.pages_once.Given as goal

abbrev pub invariant-loop-at : goal.invariant-loop-at
invariant-loop-at l = Left l.pages (words_in l.bytes) l.body.first l.body.to l.at

abbrev pub decreases-loop-at : goal.decreases-loop-at
decreases-loop-at l = l.body.to - l.at
