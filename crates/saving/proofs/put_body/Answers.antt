-- The loop's invariant: the regions from place a on are still to be stored. The measure is what is left to the end.
use Rattle.saving.proofs.Regions.{regions_begun, region_asks, region_stored, regions_stored}
use Rattle.saving.proofs.put_body.Goals as goal

pub loop-a-init : goal.loop-a-init
loop-a-init c = regions_begun c.requires.0.low c.next_start-a.ensures

pub put_block-to-requires : goal.put_block-to-requires
put_block-to-requires c =
    let pre = c.requires in
    region_asks c.loop-a.invariant c.loop-a-test.true c.next_start-next.ensures pre.0 pre.1

pub loop-a-preserved : goal.loop-a-preserved
loop-a-preserved c =
    region_stored c.loop-a.invariant c.loop-a-test.true c.next_start-next.ensures c.put_block-to.ensures

pub returns : goal.returns
returns c = regions_stored c.loop-a.invariant c.loop-a-test.false
