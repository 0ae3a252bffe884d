-- The pool before the first pair is the file's frames in the order of the file: those of all bodies, then the pool's body.
use Rattle.std.specs.Prelude.{◌≡◌, Bool}
use Rattle.std.proofs.Math.Path.{refl, sym, ap, ap₂}
use Rattle.std.proofs.Common.{◌∙◌, add-zero, zero-add}
use Rattle.std.proofs.Math.Bool.{true, false}
use mathlib.Core.List.{List, [], ◌∷◌, ◌++◌, map, map-append, append_assoc}
use Prim.Native.Nat.{ℕ, zero, suc, ◌+◌, ◌-◌, ◌*◌, ◌≤◌, ◌<◌}
use Rattle.std.proofs.Math.Nat.{add-suc, suc-add, suc-mul, zero-mul}
use native.Mathlib.Omega.{arith}
use Rattle.machine.specs.Machine.{places, place_of, State, Pair, is_start, region, records, frames_of}
use Rattle.machine.specs.Claims.{Sound}
use Rattle.machine.specs.Map.{Entry, entry_of, block_of, map_words, file_words}
use Rattle.machine.specs.MapRules.{entry_frames, entries_of, held_frames, all_frames}
use Rattle.machine.proofs.Laws.Sizes.{fit, some_places}
use Rattle.machine.proofs.Laws.Kept.{none_elsewhere}
use Rattle.machine.proofs.Laws.Records.{records_start, records_none}
use Rattle.machine.proofs.Laws.Map.Back.{blocks_of_lem, pool_back}
use Rattle.filling.specs.Partial.{frames_after, pool_so}

module _ (m : State) where
  after_more : (b n k : ℕ) → frames_after m b (n + k) ≡ frames_after m b n ++ frames_after m (b + n) k
  unfolding frames_after
  after_more b zero k = rw (zero-add, add-zero)
  after_more b (suc n) k =
      rw (suc-add, add-suc, append_assoc)
      (ap (λ (xs : List ℕ). frames_of (region m b) ++ xs) (rw suc-add at (after_more (suc b) n k)))

  entry_frames_lem : (lo : ℕ) (xs : List Pair) → entry_frames (map (entry_of lo) xs) ≡ frames_of xs
  entry_frames_lem lo [] = refl
  entry_frames_lem lo (x ∷ xs) = ap (λ (fs : List ℕ). x.frame ∷ fs) (entry_frames_lem lo xs)

  module _ (elsewhere : (p : ℕ) → is_start m p ≡ false → region m p ≡ []) where
    abbrev frames_from : ℕ → ℕ → ℕ → List ℕ
    frames_from lo b n = entry_frames (entries_of (map (block_of m lo) (records m lo b n)))

    space_frames : (lo b n : ℕ) → frames_from lo b n ≡ frames_after m (lo + b) n
    unfolding records entries_of frames_after
    space_frames lo b zero = refl
    space_frames lo b (suc n) = go (is_start m (lo + b)) refl (rw add-suc at (space_frames lo (suc b) n))
      where
        go : (t : Bool) → is_start m (lo + b) ≡ t → frames_from lo (suc b) n ≡ frames_after m (suc (lo + b)) n
            → frames_from lo b (suc n) ≡ frames_of (region m (lo + b)) ++ frames_after m (suc (lo + b)) n
        go true e ih =
            ap (λ rs. entry_frames (entries_of (map (block_of m lo) rs))) (records_start m lo b n e)
            ∙ map-append (λ (x : Entry). x.frame) (map (entry_of lo) (region m (lo + b))) (entries_of (map (block_of m lo) (records m lo (suc b) n)))
            ∙ ap₂ (λ (xs ys : List ℕ). xs ++ ys) (entry_frames_lem lo (region m (lo + b))) ih
        go false e ih =
            ap (λ rs. entry_frames (entries_of (map (block_of m lo) rs))) (records_none m lo b n e)
            ∙ ih
            ∙ ap (λ (xs : List Pair). frames_of xs ++ frames_after m (suc (lo + b)) n) (sym (elsewhere (lo + b) e))

module _ (m : State) (s : Sound m) where
  abbrev N : ℕ
  N = m.sizes.pages

  held_frames_lem : (i n : ℕ) → i + n ≤ m.sizes.spaces → held_frames (map_words m) i n ≡ frames_after m (i * N) (n * N)
  unfolding held_frames frames_after
  held_frames_lem i zero h = rw (zero-mul m.sizes.pages)
  held_frames_lem i (suc n) h =
      let first : place_of m.sizes i 0 + 0 ≡ i * N = omega arith in
      let next : suc i * N ≡ i * N + N = suc-mul i N in
      let all : N + n * N ≡ suc n * N = omega (arith, suc-mul n N) in
      ap₂ (λ (xs ys : List ℕ). xs ++ ys)
      (ap (λ bs. entry_frames (entries_of bs)) (blocks_of_lem m s i (omega arith))
      ∙ space_frames m (none_elsewhere m s) (place_of m.sizes i 0) 0 N
      ∙ ap (λ (p : ℕ). frames_after m p N) first)
      (held_frames_lem (suc i) n (omega arith) ∙ ap (λ (p : ℕ). frames_after m p (n * N)) next)
      ∙ sym (after_more m (i * N) N (n * N))
      ∙ ap (frames_after m (i * N)) all

  pub file_order : all_frames (map_words m) ≡ pool_so m 0 0
  unfolding file_words frames_after
  file_order =
      let none_before : 0 * N ≡ 0 = zero-mul N in
      ap₂ (λ (xs ys : List ℕ). xs ++ ys)
      (held_frames_lem 0 m.sizes.spaces (omega arith) ∙ ap (λ (p : ℕ). frames_after m p (places m.sizes)) none_before) (pool_back m s)
      ∙ first (places m.sizes) (some_places m.sizes (fit m.sizes s.sizes_ok_lem))
    where
      first : (t : ℕ) → 0 < t → frames_after m 0 t ++ m.pool ≡ frames_of (region m 0) ++ (frames_after m 1 (t - 1) ++ m.pool)
      first zero h = absurd (omega arith)
      first (suc t) h = let e : suc t - 1 ≡ t = omega arith in rw e (append_assoc (frames_of (region m 0)) (frames_after m 1 t) m.pool)
