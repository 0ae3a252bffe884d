-- No start from p to before q; what is left to the end is the measure.
use Rattle.std.specs.Prelude.{◌≤◌, ◌-◌}
use Rattle.layer.specs.Words.{bit_at}
use Rattle.scanning.specs.Starts.{NoneIn}
use Rattle.scanning.proofs.next_start.Given as goal

abbrev pub invariant-loop-q : goal.invariant-loop-q
invariant-loop-q l = (l.p ≤ l.q) × NoneIn (bit_at l.index) l.p l.q

abbrev pub decreases-loop-q : goal.decreases-loop-q
decreases-loop-q l = l.end - l.q
