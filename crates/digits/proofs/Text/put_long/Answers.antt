-- The digits of io, put as a word.
use Rattle.digits.proofs.Written.{decimal_is}
use Rattle.digits.proofs.Text.put_long.Goals as goal

pub returns-clause-added : goal.returns-clause-added
returns-clause-added c =
    let d = c.decimal-k.ensures in
    rw (d.digits, decimal_is _ _ d.len) at c.put.ensures
