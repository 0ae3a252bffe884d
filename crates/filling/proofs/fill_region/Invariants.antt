use Rattle.words.specs.Words.{words_in}
use Rattle.memory.specs.Memory.{memory}
use Rattle.distinct.specs.Distinct.{picked, picked_on}
use Rattle.filling.specs.Filling.{places_from}
use Rattle.filling.proofs.Pages.{Filling}
use Rattle.filling.proofs.fill_region.Given as goal

abbrev pub invariant-loop-k : goal.invariant-loop-k
invariant-loop-k l =
    Filling l.a (λ index ram. memory l.initial.after index l.initial.count l.initial.table l.initial.helper l.initial.stack l.initial.cache l.initial.link ram) (places_from l.lo (picked (words_in l.bytes) l.first 2 l.n))
    (λ index ram. memory l.after index l.count l.table l.helper l.stack l.cache l.link ram) (places_from l.lo (picked_on (words_in l.bytes) l.first 2 l.n l.k))
