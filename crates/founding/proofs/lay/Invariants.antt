use Rattle.words.specs.Words.{words_in}
use Rattle.distinct.specs.Distinct.{picked, picked_on}
use Rattle.founding.proofs.Laying.{Linking}
use Rattle.founding.proofs.lay.Given as goal

abbrev pub invariant-loop-k : goal.invariant-loop-k
invariant-loop-k l =
    Linking (picked (words_in l.bytes) l.from l.step l.n) l.last l.initial.link l.link (picked_on (words_in l.bytes) l.from l.step l.n l.k) l.end
