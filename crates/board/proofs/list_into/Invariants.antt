use Rattle.board.proofs.Storing.{Stored}
use Rattle.board.proofs.list_into.Given as goal

abbrev pub invariant-loop-rest : goal.invariant-loop-rest
invariant-loop-rest l = Stored l.regions l.index l.count l.initial.records l.rest l.records

abbrev pub decreases-loop-rest : goal.decreases-loop-rest
decreases-loop-rest l = l.rest.left
