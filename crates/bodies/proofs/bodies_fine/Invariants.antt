use mathlib.Core.Path.{◌≡◌}
use Prim.Native.Nat.{◌-◌}
use Rattle.words.specs.Words.{words_in}
use Rattle.machine.specs.MapRules.{bodies_fine}
use Rattle.bodies.proofs.bodies_fine.Given as goal

abbrev pub invariant-loop-i : goal.invariant-loop-i
invariant-loop-i l = bodies_fine l.pages (words_in l.bytes) 0 l.spaces ≡ bodies_fine l.pages (words_in l.bytes) l.i (l.spaces - l.i)
