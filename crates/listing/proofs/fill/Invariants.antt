use Rattle.listing.proofs.Filling.{Filling}
use Rattle.listing.proofs.fill.Given as goal

abbrev pub invariant-loop-rest : goal.invariant-loop-rest
invariant-loop-rest l = Filling l.initial.rest l.index l.count l.initial.records l.records l.rest

abbrev pub decreases-loop-rest : goal.decreases-loop-rest
decreases-loop-rest l = l.rest.left
