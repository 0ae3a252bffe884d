-- The digits of the bytes so far are written.
use Rattle.std.proofs.Common.{◌+◌, ◌*◌, take}
use Rattle.digits.specs.Text.{hex_text}
use Rattle.digits.specs.Writing.{Wrote}
use Rattle.digits.proofs.write_hex.Given as goal

abbrev pub invariant-loop-i : goal.invariant-loop-i
invariant-loop-i l = Wrote l.at l.initial.out (hex_text (take l.i l.bytes)) (l.at + 2 * l.i) l.out
