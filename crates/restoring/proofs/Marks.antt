-- The starts of a sound state's file, put one after another into an empty set, are the state's starts.
use mathlib.Core.Path.{◌≡◌, refl, sym, ap, ◌∙◌, subst}
use mathlib.Core.Bool.{Bool, true, false, cond}
use mathlib.Core.List.{List, [], ◌∷◌, map}
use Prim.Native.Nat.{ℕ, zero, suc, ◌+◌, ◌*◌, ◌≤◌, ◌<◌}
use native.Mathlib.Decide.{ℕ_discrete, dec_lt}
use native.Mathlib.Nat.{suc-mul, mul-le-mul_right}
use native.Mathlib.Omega.{arith}
use borrow.Author.Tests.{eq-eqb, ne_eqb, lt-ltb, le-ltb}
use lib.Dec.{ltb}
use lib.ListN.{length}
use Rattle.sequence.specs.Lists.{Each, each_one, each_append, get_or_same}
use Rattle.places.specs.Places.{put, adding}
use Rattle.extent.specs.Checks.{check_size}
use Rattle.index.specs.Words.{IndexOf}
use Rattle.index.specs.Laws.{index_ext}
use Rattle.machine.specs.Machine.{places, place_of, State, is_start, records, begun}
use Rattle.machine.specs.Claims.{Sound}
use Rattle.machine.specs.Map.{block_of, blocks_in, part_in, map_words}
use Rattle.machine.proofs.Laws.Records.{records_start, records_none}
use Rattle.machine.proofs.Laws.Map.Back.{blocks_of_lem}
use Rattle.distinct.specs.Laws.{adding_append}
use Rattle.founding.specs.Founding.{starts_of, starts_in, Marked}

-- the starts below place a
abbrev marks_so : State → ℕ → ℕ → Bool
marks_so m a q = cond (ltb q a) (is_start m q) false

module _ (m : State) where
  marks_low : (a q : ℕ) → q < a → marks_so m a q ≡ is_start m q
  marks_low a q l = rw (lt-ltb q a l) refl

  marks_high : (a q : ℕ) → a ≤ q → marks_so m a q ≡ false
  marks_high a q l = rw (le-ltb q a l) refl

  -- u is the set of the starts below place a
  abbrev Marks : (ℕ → Bool) → ℕ → Type 0
  Marks u a = (q : ℕ) → u q ≡ marks_so m a q

  mark_here : (a : ℕ) (u : ℕ → Bool) → Marks u a → is_start m a ≡ true → Marks (put u a true) (suc a)
  mark_here a u e t q = elim (ℕ_discrete q a) [
    | yes d ↦ rw (eq-eqb q a d) (sym (marks_low (suc a) q (omega arith) ∙ ap (is_start m) d ∙ t))
    | no d ↦ elim (dec_lt q a) [
      | yes l ↦ rw (ne_eqb q a d) (e q ∙ marks_low a q l ∙ sym (marks_low (suc a) q (omega arith)))
      | no l ↦ rw (ne_eqb q a d) (e q ∙ marks_high a q (omega arith) ∙ sym (marks_high (suc a) q (omega arith)))
    ]
  ]

  mark_none : (a : ℕ) (u : ℕ → Bool) → Marks u a → is_start m a ≡ false → Marks u (suc a)
  mark_none a u e t q = elim (ℕ_discrete q a) [
    | yes d ↦ e q ∙ marks_high a q (omega arith) ∙ sym (marks_low (suc a) q (omega arith) ∙ ap (is_start m) d ∙ t)
    | no d ↦ elim (dec_lt q a) [
      | yes l ↦ e q ∙ marks_low a q l ∙ sym (marks_low (suc a) q (omega arith))
      | no l ↦ e q ∙ marks_high a q (omega arith) ∙ sym (marks_high (suc a) q (omega arith))
    ]
  ]

  -- ---- one space

  module _ (lo : ℕ) where
    abbrev starts_from : ℕ → ℕ → List ℕ
    starts_from b n = starts_of lo (map (block_of m lo) (records m lo b n))

    first_start : (b n : ℕ) → is_start m (lo + b) ≡ true → starts_from b (suc n) ≡ (lo + b) ∷ starts_from (suc b) n
    first_start b n t = ap (λ rs. starts_of lo (map (block_of m lo) rs)) (records_start m lo b n t)

    no_start_lem : (b n : ℕ) → is_start m (lo + b) ≡ false → starts_from b (suc n) ≡ starts_from (suc b) n
    no_start_lem b n t = ap (λ rs. starts_of lo (map (block_of m lo) rs)) (records_none m lo b n t)

    records_marks : (n b : ℕ) (u : ℕ → Bool) → Marks u (lo + b) → Marks (adding u (starts_from b n)) (lo + b + n)
    unfolding adding records
    records_marks zero b u e q = let end : lo + b ≡ lo + b + 0 = omega arith in e q ∙ ap (λ (i : ℕ). marks_so m i q) end
    records_marks (suc n) b u e q = go (is_start m (lo + b)) refl (records_marks n (suc b))
      where
        next : suc (lo + b) ≡ lo + suc b
        next = omega arith

        last : lo + suc b + n ≡ lo + b + suc n
        last = omega arith

        go : (t : Bool) → is_start m (lo + b) ≡ t → ((v : ℕ → Bool) → Marks v (lo + suc b) → Marks (adding v (starts_from (suc b) n)) (lo + suc b + n))
            → adding u (starts_from b (suc n)) q ≡ marks_so m (lo + b + suc n) q
        go true t ih =
            ap (λ (xs : List ℕ). adding u xs q) (first_start b n t)
            ∙ ih (put u (lo + b) true) (λ x. mark_here (lo + b) u e t x ∙ ap (λ (i : ℕ). marks_so m i x) next) q
            ∙ ap (λ (i : ℕ). marks_so m i q) last
        go false t ih =
            ap (λ (xs : List ℕ). adding u xs q) (no_start_lem b n t)
            ∙ ih u (λ x. mark_none (lo + b) u e t x ∙ ap (λ (i : ℕ). marks_so m i x) next) q
            ∙ ap (λ (i : ℕ). marks_so m i q) last

    -- every start lies in the space
    records_low : (t n b : ℕ) → lo + b + n ≤ t → Each 0 (λ p. p < t) (starts_from b n)
    unfolding records
    records_low t zero b l = λ k h. absurd (omega arith)
    records_low t (suc n) b l = go (is_start m (lo + b)) refl (records_low t n (suc b) (omega arith))
      where
        go : (v : Bool) → is_start m (lo + b) ≡ v → Each 0 (λ p. p < t) (starts_from (suc b) n) → Each 0 (λ p. p < t) (starts_from b (suc n))
        go true v ih =
            subst (λ (xs : List ℕ). Each 0 (λ p. p < t) xs) (sym (first_start b n v))
            (each_append 0 (λ p. p < t) ((lo + b) ∷ []) (starts_from (suc b) n) (each_one 0 (λ p. p < t) (lo + b) (omega arith)) ih)
        go false v ih = subst (λ (xs : List ℕ). Each 0 (λ p. p < t) xs) (sym (no_start_lem b n v)) ih

-- ---- all spaces

module _ (m : State) (s : Sound m) where
  abbrev N : ℕ
  N = m.sizes.pages

  abbrev T : ℕ
  T = places m.sizes

  space_starts : (i : ℕ) → i < m.sizes.spaces → starts_of (i * N) (blocks_in (part_in (map_words m) i)) ≡ starts_from m (i * N) 0 N
  space_starts i l =
      let lo : place_of m.sizes i 0 ≡ i * N = omega arith in
      ap (starts_of (i * N)) (blocks_of_lem m s i l) ∙ ap (λ (j : ℕ). starts_of (i * N) (map (block_of m j) (records m j 0 N))) lo

  spaces_marks : (n i : ℕ) → i + n ≡ m.sizes.spaces → (u : ℕ → Bool) → Marks m u (i * N) → Marks m (adding u (starts_in N (map_words m) i n)) T
  unfolding adding starts_in
  spaces_marks zero i h u e q =
      let same : i ≡ m.sizes.spaces = omega arith in
      e q ∙ ap (λ (j : ℕ). marks_so m (j * N) q) same
  spaces_marks (suc n) i h u e q =
      let here-starts = starts_of (i * N) (blocks_in (part_in (map_words m) i)) in
      let begin : i * N ≡ i * N + 0 = omega arith in
      let end : i * N + 0 + N ≡ suc i * N = omega (arith, suc-mul i N) in
      ap (λ (v : ℕ → Bool). v q) (adding_append u here-starts (starts_in N (map_words m) (suc i) n))
      ∙ spaces_marks n (suc i) (omega arith) (adding u here-starts)
      (λ x.
      ap (λ (xs : List ℕ). adding u xs x) (space_starts i (omega arith))
      ∙ records_marks m (i * N) N 0 u (λ y. e y ∙ ap (λ (j : ℕ). marks_so m j y) begin) x
      ∙ ap (λ (j : ℕ). marks_so m j x) end)
      q

  spaces_low : (n i : ℕ) → i + n ≡ m.sizes.spaces → Each 0 (λ p. p < T) (starts_in N (map_words m) i n)
  unfolding starts_in
  spaces_low zero i h = λ k l. absurd (omega arith)
  spaces_low (suc n) i h =
      let l : suc i ≤ m.sizes.spaces = omega arith in
      let inside : i * N + 0 + N ≤ T = omega (arith, suc-mul i N, mul-le-mul_right N l) in
      each_append 0 (λ p. p < T) (starts_of (i * N) (blocks_in (part_in (map_words m) i))) (starts_in N (map_words m) (suc i) n)
      (subst (λ (xs : List ℕ). Each 0 (λ p. p < T) xs) (sym (space_starts i l)) (records_low m (i * N) T N 0 inside))
      (spaces_low n (suc i) (omega arith))

  pub marks_done : (ram index index' : List ℕ) → check_size (length index) (places m.sizes) ≡ 0
      → IndexOf (places m.sizes) (is_start (begun m.sizes ram)) index
      → Marked (places m.sizes) (starts_in m.sizes.pages (map_words m) 0 m.sizes.spaces) index index'
      → IndexOf (places m.sizes) (is_start m) index'
  unfolding IndexOf
  marks_done ram index index' room i k =
      let u = is_start (begun m.sizes ram) in
      let all = starts_in N (map_words m) 0 m.sizes.spaces in
      k.after room (spaces_low m.sizes.spaces 0 (omega arith)) u i
      ∙ index_ext T (adding u all) (is_start m)
      (λ q l. spaces_marks m.sizes.spaces 0 (omega arith) u (λ x. get_or_same T x false ∙ none x) q ∙ marks_low m T q l)
    where
      none : (x : ℕ) → false ≡ marks_so m (0 * N) x
      none x = let z : 0 * N ≡ 0 = omega arith in sym (ap (λ (j : ℕ). marks_so m j x) z ∙ marks_high m 0 x (omega arith))
