use mathlib.Core.Path.{◌≡◌}
use Prim.Native.Nat.{◌-◌}
use Rattle.words.specs.Words.{words_in}
use Rattle.judging.specs.Contents.{counts_from}
use Rattle.judging.proofs.counts_fine.Given as goal

abbrev pub invariant-loop-i : goal.invariant-loop-i
invariant-loop-i l = counts_from (words_in l.bytes) 0 l.spaces ≡ counts_from (words_in l.bytes) l.i (l.spaces - l.i)
