-- The bodies from space i on are still to be stored.
use Rattle.machine.specs.Map.{bodies}
use Rattle.sequence.specs.Lists.{tabulate}
use Rattle.saving.specs.Saved.{space_from}
use Rattle.saving.specs.Storing.{Storing}
use Rattle.saving.proofs.Spaces.{bodies_left}
use Rattle.saving.proofs.put_bodies.Given as goal

abbrev pub invariant-loop-i : goal.invariant-loop-i
invariant-loop-i l =
    Storing l.initial.file l.word (bodies (tabulate (space_from l.index l.count l.table l.stack l.pages) l.spaces)) l.file l.to
    (bodies_left l.index l.count l.table l.stack l.pages l.spaces l.i)
