-- Each turn takes a line.
use Rattle.std.proofs.Common.{◌-◌}
use Rattle.session_program.proofs.answering.answer_lines.Given as goal

abbrev pub decreases-loop-from : goal.decreases-loop-from
decreases-loop-from g l = l.n - l.from
