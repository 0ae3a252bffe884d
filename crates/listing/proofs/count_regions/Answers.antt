-- The loop's invariant: n regions start from `last` on. The measure is `last`, which every start found is below.
use Rattle.listing.proofs.Counting.{one_more, all_counted}
use Rattle.listing.proofs.count_regions.Goals as goal

pub loop-a-preserved : goal.loop-a-preserved
loop-a-preserved c = one_more c.loop-a.invariant c.start_below.ensures c.in-Some.is

pub returns : goal.returns
returns c = all_counted c.loop-a.invariant c.start_below.ensures c.in_default.is
