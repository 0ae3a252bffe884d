use Rattle.words.specs.Words.{words_in}
use Rattle.distinct.specs.Distinct.{picked, picked_on, Seeing}
use Rattle.distinct.proofs.all_new.Given as goal

abbrev pub invariant-loop-k : goal.invariant-loop-k
invariant-loop-k l =
    Seeing l.bound (picked (words_in l.bytes) l.from l.step l.n) l.initial.seen l.seen (picked_on (words_in l.bytes) l.from l.step l.n l.k)
