-- One region of a body: what its head and its pages say of the body from there on.
use Rattle.std.specs.Prelude.{◌≡◌, refl, Bool, true, false, ◌&&◌, eqb, leb, ltb, length}
use Rattle.std.proofs.Common.{sym, ap₂, ◌∙◌}
use Rattle.std.proofs.Math.Path.{ap}
use mathlib.Core.List.{List, [], ◌∷◌, ◌++◌}
use Prim.Native.Nat.{ℕ, zero, suc, ◌+◌, ◌*◌, ◌≤◌, ◌<◌}
use native.Mathlib.Omega.{arith}
use Rattle.std.proofs.Math.ListN.{get_or}
use Rattle.std.proofs.Math.Seq.{slice, slice-cons, length-slice}
use Rattle.machine.specs.Map.{Entry, entry_words, whole_from, rest_in, blocks_in}
use Rattle.machine.specs.MapRules.{all_within, entry_pages, entry_frames, tiled, fine_from}
use Rattle.machine.proofs.Laws.Map.Bodies.{entries_back, whole_entries}
use Rattle.distinct.specs.Distinct.{picked}

-- ---- entries

-- the entries that stand from word at on
unfoldable pub entries_from : List ℕ → ℕ → ℕ → List Entry
entries_from ws at zero = []
entries_from ws at (suc k) = record { page = get_or ws at 0; frame = get_or ws (at + 1) 0 } ∷ entries_from ws (at + 2) k

pub length_entries : (ws : List ℕ) (at k : ℕ) → length (entries_from ws at k) ≡ k
unfolding entries_from
length_entries ws at zero = refl
length_entries ws at (suc k) = ap suc (length_entries ws (at + 2) k)

pub pages_picked : (ws : List ℕ) (at k : ℕ) → entry_pages (entries_from ws at k) ≡ picked ws at 2 k
unfolding entries_from picked
pages_picked ws at zero = refl
pages_picked ws at (suc k) = ap (λ (xs : List ℕ). get_or ws at 0 ∷ xs) (pages_picked ws (at + 2) k)

pub frames_picked : (ws : List ℕ) (at k : ℕ) → entry_frames (entries_from ws at k) ≡ picked ws (at + 1) 2 k
unfolding entries_from picked
frames_picked ws at zero = refl
frames_picked ws at (suc k) =
    ap (λ (xs : List ℕ). get_or ws (at + 1) 0 ∷ xs) (frames_picked ws (at + 2) k ∙ ap (λ (i : ℕ). picked ws i 2 k) (omega arith))

-- ---- the words of a region

module _ (ws : List ℕ) (to : ℕ) (long : to ≤ length ws) where
  two : (at : ℕ) → at + 2 ≤ to → slice at to ws ≡ get_or ws at 0 ∷ get_or ws (at + 1) 0 ∷ slice (at + 2) to ws
  two at h =
      let one : suc at ≡ at + 1 = omega arith in
      let next : suc (suc at) ≡ at + 2 = omega arith in
      slice-cons at to ws 0 (omega arith) long
      ∙ ap (λ (xs : List ℕ). get_or ws at 0 ∷ xs)
      (slice-cons (suc at) to ws 0 (omega arith) long
      ∙ ap₂ (λ (i j : ℕ). get_or ws i 0 ∷ slice j to ws) one next)

  entries_slice : (at k : ℕ) → at + 2 * k ≤ to → slice at to ws ≡ entry_words (entries_from ws at k) ++ slice (at + 2 * k) to ws
  unfolding entry_words entries_from
  entries_slice at zero h = let same : at ≡ at + 2 * 0 = omega arith in ap (λ (i : ℕ). slice i to ws) same
  entries_slice at (suc k) h =
      let next : at + 2 + 2 * k ≡ at + 2 * suc k = omega arith in
      two at (omega arith)
      ∙ ap (λ (xs : List ℕ). get_or ws at 0 ∷ get_or ws (at + 1) 0 ∷ xs)
      (entries_slice (at + 2) k (omega arith)
      ∙ ap (λ (i : ℕ). entry_words (entries_from ws (at + 2) k) ++ slice i to ws) next)

  pub head_slice : (at : ℕ) → at + 3 ≤ to → slice at to ws ≡ get_or ws at 0 ∷ get_or ws (at + 1) 0 ∷ get_or ws (at + 2) 0 ∷ slice (at + 3) to ws
  head_slice at h =
      let next : suc (at + 2) ≡ at + 3 = omega arith in
      two at (omega arith)
      ∙ ap (λ (xs : List ℕ). get_or ws at 0 ∷ get_or ws (at + 1) 0 ∷ xs)
      (slice-cons (at + 2) to ws 0 (omega arith) long ∙ ap (λ (i : ℕ). get_or ws (at + 2) 0 ∷ slice i to ws) next)

-- ---- a cut body

-- words too few for the entries that a head tells of
pub whole_short : (k : ℕ) (ws : List ℕ) → length ws < 2 * k → whole_from k ws ≡ false
unfolding whole_from
whole_short zero ws h = absurd (omega arith)
whole_short (suc k) [] h = refl
whole_short (suc k) (p ∷ []) h = refl
whole_short (suc k) (p ∷ f ∷ ws) h = whole_short k ws (omega arith)

pub whole_cut : (ws : List ℕ) → 0 < length ws → length ws < 3 → whole_from 0 ws ≡ false
unfolding whole_from
whole_cut [] a b = absurd (omega arith)
whole_cut (x ∷ []) a b = refl
whole_cut (x ∷ y ∷ []) a b = refl
whole_cut (x ∷ y ∷ z ∷ ws) a b = absurd (omega arith)

module _ (n b : ℕ) (ws : List ℕ) (at to : ℕ) (long : to ≤ length ws) where
  pub fine_cut : at < to → to < at + 3 → fine_from n b (slice at to ws) ≡ false
  unfolding fine_from
  fine_cut h k =
      let words = length-slice at to ws long in
      rw (whole_cut (slice at to ws) (omega (arith, words)) (omega (arith, words)))

  pub fine_short : at + 3 ≤ to → to < at + (3 + 2 * get_or ws (at + 2) 0) → fine_from n b (slice at to ws) ≡ false
  unfolding fine_from whole_from
  fine_short h k =
      rw (head_slice ws to long at h, whole_short (get_or ws (at + 2) 0) (slice (at + 3) to ws) (omega (arith, length-slice (at + 3) to ws long)))

-- ---- a region that is there as a whole

-- a head, its entries xs, and words after them
fine_block : (n b a l : ℕ) (xs : List Entry) (ws : List ℕ)
    → fine_from n b (a ∷ l ∷ length xs ∷ (entry_words xs ++ ws))
    ≡ whole_from 0 ws && (eqb a b && ltb 0 l && leb (b + l) n && all_within b (b + l) (entry_pages xs) && tiled n (b + l) (blocks_in ws))
unfolding fine_from whole_from rest_in tiled
fine_block n b a l xs ws = rw (whole_entries xs ws, entries_back xs ws)

-- the region at word at: its start, its length, how many entries, and the word after it
module _ (ws : List ℕ) (at : ℕ) where
  abbrev pub start_at : ℕ
  start_at = get_or ws at 0

  abbrev pub length_at : ℕ
  length_at = get_or ws (at + 1) 0

  abbrev pub count_at : ℕ
  count_at = get_or ws (at + 2) 0

  abbrev pub next_at : ℕ
  next_at = at + (3 + 2 * count_at)

  abbrev pub entries_at : List Entry
  entries_at = entries_from ws (at + 3) count_at

  -- what the head must be, and its pages, where page b is the first of the region and n pages the space's
  abbrev pub head_ok : ℕ → ℕ → Bool
  head_ok n b = eqb start_at b && ltb 0 length_at && leb (b + length_at) n && all_within b (b + length_at) (picked ws (at + 3) 2 count_at)

module _ (ws : List ℕ) (at to : ℕ) (long : to ≤ length ws) (fits : next_at ws at ≤ to) where
  pub after_is : slice at to ws
      ≡ start_at ws at ∷ length_at ws at ∷ length (entries_at ws at) ∷ (entry_words (entries_at ws at) ++ slice (next_at ws at) to ws)
  after_is =
      let next : at + 3 + 2 * count_at ws at ≡ next_at ws at = omega arith in
      head_slice ws to long at (omega arith)
      ∙ ap₂ (λ (n : ℕ) (ys : List ℕ). start_at ws at ∷ length_at ws at ∷ n ∷ ys) (sym (length_entries ws (at + 3) (count_at ws at)))
      (entries_slice ws to long (at + 3) (count_at ws at) (omega arith) ∙ ap (λ (i : ℕ). entry_words (entries_at ws at) ++ slice i to ws) next)

  module _ (n b : ℕ) where
    abbrev rest : List ℕ
    rest = slice (next_at ws at) to ws

    fine_head : fine_from n b (slice at to ws) ≡ whole_from 0 rest && (head_ok ws at n b && tiled n (b + length_at ws at) (blocks_in rest))
    fine_head =
        ap (fine_from n b) after_is
        ∙ fine_block n b (start_at ws at) (length_at ws at) (entries_at ws at) rest
        ∙ rw (pages_picked ws (at + 3) (count_at ws at))

    pub fine_false : head_ok ws at n b ≡ false → fine_from n b (slice at to ws) ≡ false
    fine_false e = fine_head ∙ go (whole_from 0 rest) (head_ok ws at n b) e
      where
        go : (w h : Bool) → h ≡ false → w && (h && tiled n (b + length_at ws at) (blocks_in rest)) ≡ false
        go true h e = rw e
        go false h e = refl

    pub fine_next : head_ok ws at n b ≡ true → fine_from n b (slice at to ws) ≡ fine_from n (b + length_at ws at) (slice (next_at ws at) to ws)
    unfolding fine_from
    fine_next e = fine_head ∙ ap (λ (h : Bool). whole_from 0 rest && (h && tiled n (b + length_at ws at) (blocks_in rest))) e
