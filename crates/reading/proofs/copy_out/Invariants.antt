use Prim.Native.Nat.{◌-◌}
use Rattle.reading.proofs.Copies.{Copying}
use Rattle.reading.proofs.copy_out.Given as goal

abbrev pub invariant-loop-done : goal.invariant-loop-done
invariant-loop-done l = Copying l.head l.table l.ram l.space l.address l.n l.buffer l.done

abbrev pub decreases-loop-done : goal.decreases-loop-done
decreases-loop-done l = l.n - l.done
