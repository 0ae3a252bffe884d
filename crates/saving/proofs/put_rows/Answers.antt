-- The loop's invariant: the rows from space i on are still to be stored.
use Rattle.std.proofs.Common.{arith}
use Rattle.saving.proofs.Spaces.{row_asks, row_stored, rows_stored}
use Rattle.saving.proofs.put_rows.Goals as goal

pub put_row-body-requires : goal.put_row-body-requires
put_row-body-requires c =
    let pre = c.requires in
    row_asks c.loop-i.invariant c.loop-i-test.true pre.0 pre.2 pre.3

pub loop-i-preserved : goal.loop-i-preserved
loop-i-preserved c =
    let stored = c.put_row-body.ensures in
    row_stored c.loop-i.invariant c.loop-i-test.true stored.stored stored.value

pub returns : goal.returns
returns c =
    let all = rows_stored c.loop-i.invariant (omega arith) in
    record { stored = all.0; value = all.1 }
