-- A digit at a time.
use Rattle.std.proofs.Common.{arith}
use Rattle.fields.proofs.Digits.{none_short, none_other, none_digit, first_digit, value_fits, ends_here, stops_here, too_many, next_digit}
use Rattle.fields.proofs.number_after_blank.Goals as goal
use Rattle.fields.proofs.number_after_blank.Goals.{then-line-at-lt2-via-then-line-at-lt2, then-line-at-lt2-via-else-line-at-lt2+then-line-at-ne-BLANK}
use Rattle.fields.proofs.number_after_blank.Goals.{then-line-at-lt2-via-else-line-at-lt2+else-line-at-ne-BLANK+then-not-is_digit}

pub returns-then-line-at-lt2 : goal.returns-then-line-at-lt2
returns-then-line-at-lt2 c =
    let s = c.args in
    elim c.then-line-at-lt2.branch [
      | then-line-at-lt2-via-then-line-at-lt2 w ↦ none_short _ _ w.if-line-at-lt2.true
      | then-line-at-lt2-via-else-line-at-lt2+then-line-at-ne-BLANK w ↦ none_other s.line.now s.at (omega arith) w.if-line-at-ne-BLANK.true
      | then-line-at-lt2-via-else-line-at-lt2+else-line-at-ne-BLANK+then-not-is_digit w ↦ none_digit s.line.now s.at (omega arith) w.if-line-at-ne-BLANK.false (cc)
    ]

pub loop-i-init : goal.loop-i-init
loop-i-init c = rw c.from-value.ensures (first_digit c.args.line.now c.args.at (omega arith) c.if-line-at-ne-BLANK.false (cc))

pub returns-then-not-is_digit-2 : goal.returns-then-not-is_digit-2
returns-then-not-is_digit-2 c = (omega arith, stops_here c.loop-i.invariant c.loop-i-test.true (cc))

pub returns-then-i-at-gt-MOST_DIGITS : goal.returns-then-i-at-gt-MOST_DIGITS
returns-then-i-at-gt-MOST_DIGITS c = too_many c.loop-i.invariant c.loop-i-test.true (cc) (omega arith)

pub overflow_mul-value : goal.overflow_mul-value
overflow_mul-value c = omega (arith, value_fits c.loop-i.invariant (omega arith))

pub overflow_add-value : goal.overflow_add-value
overflow_add-value c = omega (arith, value_fits c.loop-i.invariant (omega arith))

pub loop-i-preserved : goal.loop-i-preserved
loop-i-preserved c = rw c.from.ensures (next_digit c.loop-i.invariant c.loop-i-test.true (cc) (omega arith) (omega arith))

pub returns : goal.returns
returns c = (omega arith, ends_here c.loop-i.invariant (omega arith))
