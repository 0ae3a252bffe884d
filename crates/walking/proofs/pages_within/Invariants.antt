use mathlib.Core.Path.{◌≡◌}
use Rattle.words.specs.Words.{words_in}
use Rattle.machine.specs.MapRules.{all_within}
use Rattle.distinct.specs.Distinct.{picked, picked_on}
use Rattle.walking.proofs.pages_within.Given as goal

abbrev pub invariant-loop-k : goal.invariant-loop-k
invariant-loop-k l =
    all_within l.lo l.hi (picked (words_in l.bytes) l.from 2 l.n) ≡ all_within l.lo l.hi (picked_on (words_in l.bytes) l.from 2 l.n l.k)
