use Prim.Native.Nat.{◌-◌}
use Rattle.memory.specs.Memory.{memory}
use Rattle.mapping.proofs.Touching.{SoFar}
use Rattle.mapping.proofs.touch_all.Given as goal

abbrev pub invariant-loop-done : goal.invariant-loop-done
invariant-loop-done l =
    SoFar l.space l.address l.n l.done (memory l.initial.after l.index l.initial.count l.initial.table l.initial.helper l.initial.stack l.initial.cache l.initial.link l.initial.ram)
    (memory l.after l.index l.count l.table l.helper l.stack l.cache l.link l.ram)

abbrev pub decreases-loop-done : goal.decreases-loop-done
decreases-loop-done l =
    l.n - l.done
