-- The place never falls behind `from`, and a word begins before the last one's end.
use Rattle.std.proofs.Common.{◌-◌, ◌≤◌}
use Rattle.session_program.proofs.input.pass_words.Given as goal

abbrev pub invariant-loop-i : goal.invariant-loop-i
invariant-loop-i l = l.from ≤ l.i

abbrev pub decreases-loop-i : goal.decreases-loop-i
decreases-loop-i l = l.end - l.i
