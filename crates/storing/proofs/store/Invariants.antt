use Prim.Native.Nat.{◌-◌}
use lib.ListN.{length}
use Rattle.storing.proofs.Storing.{Storing}
use Rattle.storing.proofs.store.Given as goal

abbrev pub invariant-loop-done : goal.invariant-loop-done
invariant-loop-done l = Storing l.head l.space l.address l.bytes l.table l.initial.ram l.ram l.done

abbrev pub decreases-loop-done : goal.decreases-loop-done
decreases-loop-done l = length l.bytes - l.done
