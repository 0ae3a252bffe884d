use Prim.Native.Nat.{◌*◌}
use Rattle.words.specs.Words.{words_in}
use Rattle.founding.specs.Founding.{starts_in, Marked}
use Rattle.founding.proofs.mark_all.Given as goal

abbrev pub invariant-loop-i : goal.invariant-loop-i
invariant-loop-i l = Marked (l.spaces * l.pages) (starts_in l.pages (words_in l.bytes) 0 l.i) l.initial.index l.index
