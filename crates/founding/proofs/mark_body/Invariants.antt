use Prim.Native.Nat.{◌-◌}
use Rattle.words.specs.Words.{words_in}
use Rattle.founding.proofs.Marking.{Marking}
use Rattle.founding.proofs.mark_body.Given as goal

abbrev pub invariant-loop-at : goal.invariant-loop-at
invariant-loop-at l = Marking l.t l.lo (words_in l.bytes) l.body.first l.body.to l.initial.index l.at l.index

abbrev pub decreases-loop-at : goal.decreases-loop-at
decreases-loop-at l = l.body.to - l.at
