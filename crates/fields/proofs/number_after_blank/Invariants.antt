-- The bytes before the counter are a blank and the value's digits.
use Rattle.fields.proofs.Digits.{Digits}
use Rattle.fields.proofs.number_after_blank.Given as goal

abbrev pub invariant-loop-i : goal.invariant-loop-i
invariant-loop-i l = Digits l.line l.at l.value l.i
