-- The loop's invariant: what is counted and what lies from place a on are all there is. The measure is what is left to the end.
use native.Mathlib.Omega.{arith}
use Rattle.saving.proofs.Tallying.{tally_begun, one_tallied, tally_fits, tally_done}
use Rattle.saving.proofs.tally_between.Goals as goal

pub loop-a-init : goal.loop-a-init
loop-a-init c = tally_begun c.requires.low c.next_start-a.ensures

pub overflow_add-regions : goal.overflow_add-regions
overflow_add-regions c =
    omega (arith, (tally_fits c.loop-a.invariant c.requires c.type_inv.count).0)

pub overflow_add-pairs : goal.overflow_add-pairs
overflow_add-pairs c =
    omega (arith, (tally_fits c.loop-a.invariant c.requires c.type_inv.count).1, c.wide-pairs.ensures, c.type_inv.count c.loop-a.a)

pub loop-a-preserved : goal.loop-a-preserved
loop-a-preserved c =
    one_tallied c.loop-a.invariant c.loop-a-test.true c.wide-pairs.ensures c.next_start-a-in-loop-a.ensures

pub returns : goal.returns
returns c =
    tally_done c.loop-a.invariant c.requires c.type_inv.count c.loop-a-test.false
