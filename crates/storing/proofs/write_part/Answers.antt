-- The frame that the table has, and the bytes into it.
use mathlib.Core.Path.{◌∙◌}
use native.Mathlib.Omega.{arith}
use Rattle.storing.specs.Stores.{none_stored, frame_stored}
use Rattle.storing.proofs.write_part.Goals as goal

pub returns-then-frame-head : goal.returns-then-frame-head
returns-then-frame-head c =
    let a = c.args in
    c.store_frame.ensures
    ∙ frame_stored a.head a.space a.x a.src.now a.table.now a.ram.now c.requires.0.fits _ c.frame_at-frame.ensures c.if-frame-head.true

pub returns-else-frame-head : goal.returns-else-frame-head
returns-else-frame-head c = let a = c.args in
    none_stored a.head a.space a.x a.src.now a.table.now a.ram.now c.requires.0.fits
    (omega (arith, c.frame_at-frame.ensures, c.if-frame-head.false))
