-- The frame's front, then its end.
use mathlib.Core.Path.{ap, ◌∙◌}
use mathlib.Core.List.{List}
use Prim.Native.Nat.{ℕ, ◌-◌, ◌+◌}
use native.Mathlib.Omega.{arith}
use lib.ListN.{length, replicate}
use lib.Seq.{sets, length-sets}
use Rattle.spans.specs.PartLaws.{frame_ends, frame_low}
use Rattle.clearing.proofs.Cleared.{frame_start, around_cleared}
use Rattle.clearing.proofs.clear_around.Goals as goal

pub overflow_add-end : goal.overflow_add-end
overflow_add-end c =
    let p = c.requires.0 in
    omega (arith, frame_start p _ c.ram_place-from.ensures, c.page_bytes.ensures, frame_low p)

pub clear-requires : goal.clear-requires
clear-requires c =
    let p = c.requires in
    let start = frame_start p.0 _ c.ram_place-from.ensures in
    (omega (arith, start, c.ram_place-first.ensures), omega (arith, start, c.ram_place-first.ensures, p.1, frame_ends p.0))

-- back from the first part
pub overflow_add-first : goal.overflow_add-first
overflow_add-first c =
    let p = c.requires in
    omega (arith, c.ram_place-first.ensures, p.1, frame_low p.0)

pub clear-requires-2 : goal.clear-requires-2
clear-requires-2 c =
    let p = c.requires in
    let from = c.ram_place-from.result in
    let first = c.ram_place-first.result in
    let start = frame_start p.0 from c.ram_place-from.ensures in
    let same = ap (λ (ws : List ℕ). length ws) c.clear.ensures in
    let long = length-sets c.args.ram.now from (replicate (first - from) 0) in (
      omega (arith, start, c.ram_place-first.ensures, c.page_bytes.ensures, p.1),
      omega (arith, start, c.page_bytes.ensures, frame_ends p.0, same, long),
    )

pub returns : goal.returns
returns c =
    let from = c.ram_place-from.result in
    let first = c.ram_place-first.result in
    let end = from + c.page_bytes.result in
    c.clear-2.ensures
    ∙ ap (λ (ws : List ℕ). sets ws (first + c.args.n) (replicate (end - (first + c.args.n)) 0)) c.clear.ensures
    ∙ around_cleared c.requires.0 c.args.x c.args.n from first end c.ram_place-from.ensures c.ram_place-first.ensures
    (ap (λ (n : ℕ). from + n) c.page_bytes.ensures)
