use Rattle.words.specs.Words.{words_in}
use Rattle.machine.specs.MapRules.{held_frames}
use Rattle.founding.specs.Founding.{Lays}
use Rattle.founding.proofs.lay_spaces.Given as goal

abbrev pub invariant-loop-i : goal.invariant-loop-i
invariant-loop-i l = Lays l.initial.laid l.initial.link (held_frames (words_in l.bytes) 0 l.i) l.laid l.link
