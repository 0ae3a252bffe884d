-- The first j codes are played.
use Rattle.memory.specs.Memory.{memory}
use Rattle.codes.proofs.Playing.{Playing}
use Rattle.codes.proofs.play.Given as goal

abbrev pub invariant-loop-j : goal.invariant-loop-j
invariant-loop-j l =
    Playing l.codes l.n
    (memory l.initial.next l.initial.index l.initial.count l.initial.table l.initial.helper l.initial.stack l.initial.cache l.initial.link l.initial.ram)
    (record { replies = l.initial.replies; bytes = l.initial.bytes; records = l.initial.records })
    (memory l.next l.index l.count l.table l.helper l.stack l.cache l.link l.ram) (record { replies = l.replies; bytes = l.bytes; records = l.records }) l.j
