-- Two digits more.
use Rattle.std.proofs.Common.{◌≡◌, ◌+◌, ◌*◌, arith, add-zero}
use Rattle.digits.specs.Text.{hex_text}
use Rattle.digits.specs.Laws.{wrote_none}
use Rattle.digits.proofs.Written.{wrote_next, hex_more}
use Rattle.digits.proofs.write_hex.Goals as goal

pub loop-i-init : goal.loop-i-init
unfolding hex_text
loop-i-init c = rw add-zero (wrote_none _ _)

pub loop-i-preserved : goal.loop-i-preserved
loop-i-preserved c =
    let a = c.args in
    let l = c.loop-i in
    let e : a.at + 2 * (l.i + 1) ≡ a.at + 2 * l.i + 1 + 1 = omega arith in
    rw (hex_more a.bytes.now l.i c.loop-i-test.true, e, ← c.hex_digit.ensures, ← c.hex_digit-in-loop-i.ensures)
    (wrote_next _ (wrote_next _ l.invariant (omega arith)) (omega arith))
