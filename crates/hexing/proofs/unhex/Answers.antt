-- Nothing, or a byte at a time.
use Rattle.std.proofs.Common.{arith}
use Rattle.hexing.proofs.Unhexing.{no_room, few_digits, not_hex, to_end, digits_in, one_written, all_unhexed}
use Rattle.hexing.proofs.unhex.Goals as goal
use Rattle.hexing.proofs.unhex.Goals.{then-buffer-n-via-then-buffer-n, then-buffer-n-via-else-buffer-n+then-line-n}

pub returns-then-buffer-n : goal.returns-then-buffer-n
returns-then-buffer-n c =
    elim c.then-buffer-n.branch [
      | then-buffer-n-via-then-buffer-n w ↦ no_room _ _ _ w.if-buffer-n.true
      | then-buffer-n-via-else-buffer-n+then-line-n w ↦ few_digits c.args.line.now c.args.n c.args.buffer.now (omega arith)
    ]

pub returns-then-not-all_hex : goal.returns-then-not-all_hex
returns-then-not-all_hex c = not_hex _ _ _ (rw (← to_end c.args.line.now c.args.n) (cc))

pub loop-i-preserved : goal.loop-i-preserved
loop-i-preserved c =
    let size = digits_in c.args.line.now c.args.n (omega arith) in
    one_written c.loop-i.invariant (omega arith) (omega arith) _ c.byte_of.ensures

pub returns : goal.returns
returns c = all_unhexed _ _ _ _ _ c.loop-i.invariant (omega arith) (omega arith) (omega arith) (cc)
