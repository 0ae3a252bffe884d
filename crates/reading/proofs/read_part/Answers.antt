-- The frame that the table has, and the bytes out of it.
use native.Mathlib.Omega.{arith}
use Rattle.reading.specs.Copies.{none_copied, frame_copied}
use Rattle.reading.proofs.read_part.Goals as goal

pub returns-then-frame-head : goal.returns-then-frame-head
returns-then-frame-head c =
    frame_copied _ _ _ _ _ _ c.requires.0 _ c.frame_at-frame.ensures c.if-frame-head.true _ c.copy_frame.ensures

pub returns-else-frame-head : goal.returns-else-frame-head
returns-else-frame-head c = none_copied _ _ _ _ _ _ c.requires.0 (omega (arith, c.frame_at-frame.ensures, c.if-frame-head.false)) _
