-- The frames that a sound state's file lists are 0, 1, .., F-1, each once.
use Rattle.std.specs.Prelude.{◌≡◌, true, false, length}
use Rattle.std.proofs.Math.Path.{refl, ap, ap₂}
use Rattle.std.proofs.Common.{◌∙◌, arith}
use mathlib.Core.List.{List, [], ◌∷◌, map, map-append}
use Prim.Native.Nat.{ℕ, zero, suc, ◌+◌, ◌*◌, ◌≤◌, ◌<◌}
use Rattle.sequence.specs.Lists.{tabulate, length_tabulate}
use Rattle.sequence.specs.Sums.{sum, sum_one, sum_append, sum_from}
use Rattle.places.specs.Places.{all_new}
use Rattle.places.specs.Distinct.{whole_new}
use Rattle.machine.specs.declared.Region.{Region}
use Rattle.machine.specs.State.{places, place_of, State, Pair, is_start, region, records_of}
use Rattle.machine.specs.Claims.{Sound, in_regions}
use Rattle.machine.specs.Map.{Entry, entry_of, block_of, blocks_of, map_words, file_words, blocks_in, part_in}
use Rattle.machine.specs.MapRules.{entry_frames, entries_of, held_frames, all_frames}
use Rattle.machine.proofs.Laws.Kept.{none_elsewhere}
use Rattle.machine.proofs.Laws.Records.{over_space, over_spaces}
use Rattle.machine.proofs.Laws.Map.Back.{blocks_of_lem, pool_back}

-- ---- the frames of some blocks, under a measure

module _ (g : ℕ → ℕ) where
  abbrev measure : List Pair → ℕ
  measure xs = sum (λ x. g x.frame) xs

  frames_entries : (lo : ℕ) (xs : List Pair) → sum g (entry_frames (map (entry_of lo) xs)) ≡ measure xs
  frames_entries lo [] = refl
  frames_entries lo (x ∷ xs) = ap (λ (n : ℕ). g x.frame + n) (frames_entries lo xs)

  frames_blocks : (m : State) (lo : ℕ) (rs : List Region)
      → sum g (entry_frames (entries_of (map (block_of m lo) rs))) ≡ sum (λ r. measure (region m (lo + r.start))) rs
  unfolding entries_of
  frames_blocks m lo [] = refl
  frames_blocks m lo (r ∷ rs) =
      let xs = map (entry_of lo) (region m (lo + r.start)) in
      let ys = entries_of (map (block_of m lo) rs) in
      ap (sum g) (map-append (λ (x : Entry). x.frame) xs ys)
      ∙ sum_append g (entry_frames xs) (entry_frames ys)
      ∙ ap₂ ◌+◌ (frames_entries lo (region m (lo + r.start))) (frames_blocks m lo rs)

  -- a state whose blocks are those of a file
  module _ (m : State) (ws : List ℕ) (long : length m.held ≡ places m.sizes) (elsewhere : (p : ℕ) → is_start m p ≡ false → region m p ≡ [])
      (blocks : (i : ℕ) → i < m.sizes.spaces → blocks_in (part_in ws i) ≡ blocks_of m i) where
    abbrev N : ℕ
    N = m.sizes.pages

    in_space : (i : ℕ) → sum g (entry_frames (entries_of (blocks_of m i))) ≡ sum_from (λ p. measure (region m p)) (i * N) N
    in_space i =
        let lo = place_of m.sizes i 0 in
        frames_blocks m lo (records_of m i)
        ∙ over_space m i (λ r. measure (region m (lo + r.start))) (λ p. measure (region m p)) (λ b n. refl) (λ p e. ap measure (elsewhere p e))

    held_from : (i n : ℕ) → i + n ≤ m.sizes.spaces → sum g (held_frames ws i n) ≡ sum_from (λ j. sum_from (λ p. measure (region m p)) (j * N) N) i n
    unfolding held_frames
    held_from i zero h = refl
    held_from i (suc n) h =
        sum_append g (entry_frames (entries_of (blocks_in (part_in ws i)))) (held_frames ws (suc i) n)
        ∙ ap₂ ◌+◌ (ap (λ bs. sum g (entry_frames (entries_of bs))) (blocks i (omega arith)) ∙ in_space i) (held_from (suc i) n (omega arith))

    pub held_sum : sum g (held_frames ws 0 m.sizes.spaces) ≡ in_regions (λ x. g x.frame) m
    held_sum = held_from 0 m.sizes.spaces (omega arith) ∙ over_spaces m long measure

-- ---- all frames

module _ (m : State) (s : Sound m) where
  pub frames_whole : (g : ℕ → ℕ) → sum g (all_frames (map_words m)) ≡ sum g (tabulate (λ f. f) m.sizes.frames)
  unfolding file_words
  frames_whole g =
      sum_append g (held_frames (map_words m) 0 m.sizes.spaces) (part_in (map_words m) m.sizes.spaces)
      ∙ omega (arith, held_sum g m (map_words m) s.held_are (none_elsewhere m s) (blocks_of_lem m s), ap (sum g) (pool_back m s), s.whole g)

  pub frames_new : all_new m.sizes.frames (λ _. false) (all_frames (map_words m)) ≡ true
  frames_new = whole_new m.sizes.frames (all_frames (map_words m)) frames_whole

  pub frames_many : length (all_frames (map_words m)) ≡ m.sizes.frames
  frames_many =
      let numbers : List ℕ = tabulate (λ f. f) m.sizes.frames in
      omega (arith, frames_whole (λ _. 1), sum_one (all_frames (map_words m)), sum_one numbers, length_tabulate (λ (f : ℕ). f) m.sizes.frames)
