-- The loop's invariant: the records from number `rest.left` on are told. The measure is how many are left.
use Rattle.listing.proofs.Filling.{one_filled, all_filled}
use Rattle.listing.proofs.fill.Goals as goal

pub loop-rest-preserved : goal.loop-rest-preserved
loop-rest-preserved c =
    rw c.put_record.ensures
    (one_filled c.loop-rest.invariant c.requires.1 c.last_region-told.ensures)

pub returns : goal.returns
returns c = all_filled c.loop-rest.invariant c.loop-rest-test.false
