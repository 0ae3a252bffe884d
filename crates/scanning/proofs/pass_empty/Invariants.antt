-- The words from `from` to before w are 0.
use Rattle.scanning.specs.Starts.{Empty}
use Rattle.scanning.proofs.pass_empty.Given as goal

abbrev pub invariant-loop-w : goal.invariant-loop-w
invariant-loop-w l = Empty l.index l.from l.w
