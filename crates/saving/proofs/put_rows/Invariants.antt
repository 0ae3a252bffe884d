-- The rows from space i on are still to be stored.
use Rattle.saving.proofs.Spaces.{StoringRows}
use Rattle.saving.proofs.put_rows.Given as goal

abbrev pub invariant-loop-i : goal.invariant-loop-i
invariant-loop-i l = StoringRows l.index l.count l.pages l.spaces l.initial.file l.file l.i l.body
