-- The bytes of the digits so far are written.
use Rattle.hexing.proofs.Unhexing.{Unhexing}
use Rattle.hexing.proofs.unhex.Given as goal

abbrev pub invariant-loop-i : goal.invariant-loop-i
invariant-loop-i l = Unhexing l.digits l.initial.buffer l.buffer l.i
