use Prim.Native.Nat.{◌-◌}
use Rattle.saving.proofs.Tallying.{Tallying}
use Rattle.saving.proofs.tally_between.Given as goal

abbrev pub invariant-loop-a : goal.invariant-loop-a
invariant-loop-a l = Tallying l.index l.count l.lo l.end l.regions l.pairs l.a

abbrev pub decreases-loop-a : goal.decreases-loop-a
decreases-loop-a l = l.end - l.a
