use Prim.Native.Nat.{◌-◌}
use Rattle.words.specs.Words.{words_in}
use Rattle.machine.specs.MapRules.{held_frames}
use Rattle.distinct.specs.Distinct.{Seeing}
use Rattle.bodies.proofs.see_spaces.Given as goal

abbrev pub invariant-loop-i : goal.invariant-loop-i
invariant-loop-i l =
    Seeing l.frames (held_frames (words_in l.bytes) 0 l.spaces) l.initial.seen l.seen (held_frames (words_in l.bytes) l.i (l.spaces - l.i))
