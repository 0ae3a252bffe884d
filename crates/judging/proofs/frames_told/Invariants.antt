use Rattle.words.specs.Words.{words_in}
use Rattle.judging.proofs.Rows.{Telling}
use Rattle.judging.proofs.frames_told.Given as goal

abbrev pub invariant-loop-i : goal.invariant-loop-i
invariant-loop-i l = Telling (words_in l.bytes) l.spaces l.i l.told
