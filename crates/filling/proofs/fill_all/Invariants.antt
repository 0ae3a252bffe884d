use Rattle.words.specs.Words.{words_in}
use Rattle.memory.specs.Memory.{memory}
use Rattle.filling.proofs.Bodies.{SpacesFilling}
use Rattle.filling.proofs.fill_all.Given as goal

abbrev pub invariant-loop-i : goal.invariant-loop-i
invariant-loop-i l =
    SpacesFilling l.pages (words_in l.bytes) l.spaces (λ index ram. memory l.initial.after index l.initial.count l.initial.table l.initial.helper l.initial.stack l.initial.cache l.initial.link ram)
    (λ index ram. memory l.after index l.count l.table l.helper l.stack l.cache l.link ram) l.i
