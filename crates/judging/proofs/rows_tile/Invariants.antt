use Rattle.words.specs.Words.{words_in}
use Rattle.judging.proofs.Rows.{Tiling}
use Rattle.judging.proofs.rows_tile.Given as goal

abbrev pub invariant-loop-i : goal.invariant-loop-i
invariant-loop-i l = Tiling (words_in l.bytes) l.spaces l.i l.at
