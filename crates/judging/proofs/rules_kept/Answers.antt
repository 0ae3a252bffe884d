-- Each test is one rule; those that were passed are kept.
use mathlib.Core.Path.{◌≡◌, sym, ◌∙◌}
use mathlib.Core.Bool.{true}
use Prim.Native.Nat.{ℕ}
use native.Mathlib.Omega.{arith}
use lib.ListN.{length-replicate}
use Rattle.words.specs.Words.{words_in}
use Rattle.machine.specs.MapRules.{bodies_fine}
use Rattle.judging.specs.Contents.{rows_tile, counts_from}
use Rattle.judging.specs.Tiles.{tiles_rowed}
use Rattle.judging.proofs.Judged.{rows_ready, few_pages, frames_within, rows_bad, bodies_bad, bodied, counts_bad, many_bad, frames_left_lem}
use Rattle.judging.proofs.rules_kept.Goals as goal
use Rattle.judging.proofs.rules_kept.Goals.{Else-not-bodies_fine, Else-not-counts_fine, Else-not-rows_tile}

-- ---- what the tests have shown
tile : (c : Else-not-rows_tile) → rows_tile (words_in c.args.bytes.now) c.args.spaces ≡ true
tile c = sym c.rows_tile.ensures ∙ c.if-not-rows_tile.false

fine : (c : Else-not-bodies_fine) → let s = c.args in bodies_fine s.pages (words_in s.bytes.now) 0 s.spaces ≡ true
fine c = sym c.bodies_fine.ensures.0 ∙ c.if-not-bodies_fine.false

counts : (c : Else-not-counts_fine) → let s = c.args in counts_from (words_in s.bytes.now) 0 s.spaces ≡ true
counts c = sym c.counts_fine.ensures ∙ c.if-not-counts_fine.false

-- ---- the tests
pub rows_tile-requires : goal.rows_tile-requires
rows_tile-requires c = rows_ready _ _ _ _ c.requires

pub returns-then-not-rows_tile : goal.returns-then-not-rows_tile
returns-then-not-rows_tile c = sym (rows_bad _ _ _ _ c.requires (sym c.rows_tile.ensures ∙ c.if-not-rows_tile.true))

pub bodies_fine-requires : goal.bodies_fine-requires
bodies_fine-requires c = (
  tiles_rowed c.args.bytes.now c.args.spaces (rows_ready _ _ _ _ c.requires).1 (tile (goal.at.bodies_fine-requires c).Else-not-rows_tile),
  few_pages _ _ _ _ c.requires,
  omega (arith, length-replicate {A = ℕ} 1041 0),
)

pub returns-then-not-bodies_fine : goal.returns-then-not-bodies_fine
returns-then-not-bodies_fine c =
    sym (bodies_bad _ _ _ _ c.requires (sym c.bodies_fine.ensures.0 ∙ c.if-not-bodies_fine.true))

pub counts_fine-requires : goal.counts_fine-requires
counts_fine-requires c = bodied _ _ _ _ c.requires (tile (goal.at.counts_fine-requires c).Else-not-rows_tile) (fine (goal.at.counts_fine-requires c).Else-not-bodies_fine)

pub returns-then-not-counts_fine : goal.returns-then-not-counts_fine
returns-then-not-counts_fine c =
    sym (counts_bad _ _ _ _ c.requires (tile (goal.at.returns-then-not-counts_fine c).Else-not-rows_tile) (fine (goal.at.returns-then-not-counts_fine c).Else-not-bodies_fine) (sym c.counts_fine.ensures ∙ c.if-not-counts_fine.true))

pub frames_told-requires : goal.frames_told-requires
frames_told-requires c = rows_ready _ _ _ _ c.requires

pub returns-then-frames_told-frames : goal.returns-then-frames_told-frames
returns-then-frames_told-frames c =
    let told = c.frames_told in
    sym (many_bad _ _ _ _ c.requires (tile (goal.at.returns-then-frames_told-frames c).Else-not-rows_tile) (fine (goal.at.returns-then-frames_told-frames c).Else-not-bodies_fine) (counts (goal.at.returns-then-frames_told-frames c).Else-not-counts_fine) told.result told.ensures c.if-frames_told-frames.true)

pub frames_fine-requires : goal.frames_fine-requires
frames_fine-requires c =
    let within = frames_within _ _ _ _ c.requires in (
      bodied _ _ _ _ c.requires (tile (goal.at.frames_fine-requires c).Else-not-rows_tile) (fine (goal.at.frames_fine-requires c).Else-not-bodies_fine),
      within.0,
      within.1,
      omega (arith, c.bodies_fine.ensures.1, length-replicate {A = ℕ} 1041 0),
    )

pub returns : goal.returns
returns c =
    let told = c.frames_told in
    c.frames_fine.ensures.0
    ∙ sym (frames_left_lem _ _ _ _ c.requires (tile (goal.at.returns c).Else-not-rows_tile) (fine (goal.at.returns c).Else-not-bodies_fine) (counts (goal.at.returns c).Else-not-counts_fine) told.result told.ensures c.if-frames_told-frames.false)
