use Rattle.words.specs.Words.{words_in}
use Rattle.distinct.specs.Distinct.{picked, picked_on, in_window, Seeing}
use Rattle.distinct.proofs.see_window.Given as goal

abbrev pub invariant-loop-k : goal.invariant-loop-k
invariant-loop-k l =
    Seeing l.size (in_window l.lo l.size (picked (words_in l.bytes) l.from 2 l.n)) l.initial.seen l.seen (in_window l.lo l.size (picked_on (words_in l.bytes) l.from 2 l.n l.k))
