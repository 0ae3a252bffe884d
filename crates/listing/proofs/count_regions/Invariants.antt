use Rattle.listing.proofs.Counting.{Counting}
use Rattle.listing.proofs.count_regions.Given as goal

abbrev pub invariant-loop-a : goal.invariant-loop-a
invariant-loop-a l = Counting l.t l.lo l.end l.index l.n l.last

abbrev pub decreases-loop-a : goal.decreases-loop-a
decreases-loop-a l = l.last
