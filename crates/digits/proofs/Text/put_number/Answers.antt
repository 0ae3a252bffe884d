-- As many digits as the number has.
use Rattle.std.proofs.Common.{arith}
use Rattle.digits.proofs.Written.{decimal_is}
use Rattle.digits.proofs.Text.put_number.Goals as goal

pub returns-then-n-lt10-clause-added : goal.returns-then-n-lt10-clause-added
returns-then-n-lt10-clause-added c =
    rw (c.last_digit.ensures, decimal_is c.args.n 1 (omega arith, omega arith, λ h. absurd (omega arith))) at c.put.ensures

pub returns-then-n-lt100-clause-added : goal.returns-then-n-lt100-clause-added
returns-then-n-lt100-clause-added c =
    rw (
      c.last_digit-then-n-lt100.ensures,
      c.last_digit-then-n-lt100-2.ensures,
      decimal_is c.args.n 2 (omega arith, omega arith, λ _. omega arith),
    ) at c.put-then-n-lt100.ensures

pub returns-then-n-lt1000-clause-added : goal.returns-then-n-lt1000-clause-added
returns-then-n-lt1000-clause-added c =
    rw (
      c.last_digit-then-n-lt1000.ensures,
      c.last_digit-then-n-lt1000-2.ensures,
      c.last_digit-then-n-lt1000-3.ensures,
      decimal_is c.args.n 3 (omega arith, omega arith, λ _. omega arith),
    ) at c.put-then-n-lt1000.ensures
