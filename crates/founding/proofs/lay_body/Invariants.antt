use Prim.Native.Nat.{◌-◌}
use Rattle.words.specs.Words.{words_in}
use Rattle.founding.proofs.Laying.{Framing}
use Rattle.founding.proofs.lay_body.Given as goal

abbrev pub invariant-loop-at : goal.invariant-loop-at
invariant-loop-at l = Framing l.initial.laid (words_in l.bytes) l.body.first l.body.to l.initial.link l.laid l.at l.link

abbrev pub decreases-loop-at : goal.decreases-loop-at
decreases-loop-at l = l.body.to - l.at
