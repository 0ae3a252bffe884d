-- None of the sizes below the shift at hand is the one asked for.
use Rattle.machine.proofs.Laws.PageSizes.{NoneBelow}
use Rattle.machine.proofs.PageSize.of.Given as goal

abbrev pub invariant-loop-shift : goal.invariant-loop-shift
invariant-loop-shift l = NoneBelow l.bytes l.shift
