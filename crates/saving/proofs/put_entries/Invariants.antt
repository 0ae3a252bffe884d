-- The pages from number j on are still to be stored.
use Rattle.std.specs.Prelude.{◌+◌, ◌*◌}
use Rattle.machine.specs.Map.{entry_words}
use Rattle.saving.specs.Saved.{entries_from}
use Rattle.saving.specs.Storing.{Storing}
use Rattle.saving.specs.Steps.{entries_left}
use Rattle.saving.proofs.put_entries.Given as goal

abbrev pub invariant-loop-j : goal.invariant-loop-j
invariant-loop-j l =
    Storing l.initial.file l.word (entry_words (entries_from l.table l.stack l.lo l.a l.n)) l.file (l.word + 2 * l.j)
    (entries_left l.table l.stack l.lo (l.a + l.j) (l.a + l.n))
