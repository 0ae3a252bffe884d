-- All of the frame.
use mathlib.Core.Path.{◌∙◌}
use native.Mathlib.Omega.{arith}
use Rattle.spans.specs.PartLaws.{frame_ends, frame_low}
use Rattle.clearing.proofs.Cleared.{frame_start, frame_cleared}
use Rattle.clearing.proofs.clear_frame.Goals as goal

pub overflow_add-from : goal.overflow_add-from
overflow_add-from c =
    let p = c.requires in
    omega (arith, frame_start p _ c.ram_place-from.ensures, c.page_bytes.ensures, frame_low p)

pub clear-requires : goal.clear-requires
clear-requires c =
    let p = c.requires in
    (omega arith, omega (arith, frame_start p _ c.ram_place-from.ensures, c.page_bytes.ensures, frame_ends p))

pub returns : goal.returns
returns c =
    c.clear.ensures ∙ frame_cleared c.requires _ _ c.ram_place-from.ensures c.page_bytes.ensures
