-- The frames that are left to be seen: of a body from a region on, of the spaces from one on, and those of the pool.
use mathlib.Core.Path.{◌≡◌, sym, ap, ◌∙◌}
use mathlib.Core.Bool.{true}
use mathlib.Core.List.{List, [], ◌∷◌, ◌++◌, map-append}
use Prim.Native.Nat.{ℕ, suc, ◌+◌, ◌-◌, ◌*◌, ◌≤◌, ◌<◌}
use native.Mathlib.Omega.{arith}
use lib.ListN.{length}
use lib.Seq.{slice}
use Rattle.machine.specs.Map.{Entry, Block, part_in, whole_from}
use Rattle.machine.specs.MapRules.{entry_frames, entries_of, held_frames}
use Rattle.distinct.specs.Distinct.{picked, Reach}
use Rattle.distinct.specs.Laws.{picked_slice}
use Rattle.walking.specs.declared.Body.{Body}
use Rattle.walking.specs.Walking.{BodyAt}
use Rattle.walking.specs.Laws.{count_at, frames_picked}
use Rattle.walking.specs.Regions.{block_at, region_fits, blocks_next, blocks_end, whole_next}
use Rattle.bodies.specs.Bodies.{body_frames}

-- ---- a body's

pub frames_end : (ws : List ℕ) (at to : ℕ) → at ≤ to → to ≤ at → body_frames (slice at to ws) ≡ []
unfolding entries_of
frames_end ws at to l h = ap (λ (bs : List Block). entry_frames (entries_of bs)) (blocks_end ws at to l h)

frames_cons : (b : Block) (bs : List Block) → entry_frames (entries_of (b ∷ bs)) ≡ entry_frames b.entries ++ entry_frames (entries_of bs)
unfolding entries_of
frames_cons b bs = map-append (λ (x : Entry). x.frame) b.entries (entries_of bs)

module _ (ws : List ℕ) (at to : ℕ) (long : to ≤ length ws) (some : at < to) (whole : whole_from 0 (slice at to ws) ≡ true)
    (n : ℕ) (n_is : n ≡ count_at ws at) where
  pub region_ends : at + (3 + 2 * n) ≤ to
  region_ends = omega (arith, region_fits ws at to long some whole)

  pub frames_next : body_frames (slice at to ws) ≡ picked ws (at + 4) 2 n ++ body_frames (slice (at + (3 + 2 * n)) to ws)
  frames_next =
      let four : at + 3 + 1 ≡ at + 4 = omega arith in
      ap (λ (bs : List Block). entry_frames (entries_of bs)) (blocks_next ws at to long some whole)
      ∙ frames_cons (block_at ws at) _
      ∙ rw (frames_picked ws (at + 3) (count_at ws at), four, n_is)

  pub rest_whole : whole_from 0 (slice (at + (3 + 2 * n)) to ws) ≡ true
  rest_whole = ap (λ (x : ℕ). whole_from 0 (slice (at + (3 + 2 * x)) to ws)) n_is ∙ whole_next ws at to long some whole

  pub frames_reach : (bytes : ℕ) → 4 * to ≤ bytes → Reach bytes (at + 4) 2 n
  frames_reach bytes h k q = omega (arith, region_ends)

-- ---- those of the spaces from i on

module _ (ws : List ℕ) (i spaces : ℕ) where
  held_next : i < spaces → held_frames ws i (spaces - i) ≡ body_frames (part_in ws i) ++ held_frames ws (i + 1) (spaces - (i + 1))
  unfolding held_frames
  held_next h =
      let more : spaces - i ≡ suc (spaces - (i + 1)) = omega arith in
      let next : suc i ≡ i + 1 = omega arith in
      ap (held_frames ws i) more ∙ ap (λ (j : ℕ). body_frames (part_in ws i) ++ held_frames ws j (spaces - (i + 1))) next

  pub held_end : spaces ≤ i → held_frames ws i (spaces - i) ≡ []
  unfolding held_frames
  held_end h = let none : spaces - i ≡ 0 = omega arith in ap (held_frames ws i) none

-- ---- those of a row's body, and of the pool

module _ {bytes : ℕ} {ws : List ℕ} {i : ℕ} {b : Body} (at : BodyAt bytes ws i b) where
  pub row_next : (spaces : ℕ) → i < spaces
      → held_frames ws i (spaces - i) ≡ body_frames (slice b.first b.to ws) ++ held_frames ws (i + 1) (spaces - (i + 1))
  row_next spaces h = held_next ws i spaces h ∙ ap (λ (xs : List ℕ). body_frames xs ++ held_frames ws (i + 1) (spaces - (i + 1))) (sym at.part)

  pub pool_is : b.to ≤ length ws → picked ws b.first 1 (b.to - b.first) ≡ part_in ws i
  pool_is long =
      let end : b.first + (b.to - b.first) ≡ b.to = omega (arith, at.low) in
      picked_slice ws b.first (b.to - b.first) (omega (arith, at.low)) ∙ ap (λ (j : ℕ). slice b.first j ws) end ∙ at.part
