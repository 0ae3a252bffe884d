-- Numbers that are all new, a window of them at a time.
use Rattle.std.specs.Prelude.{◌≡◌, Bool, false, ℕ, ◌+◌, ◌-◌, ◌≤◌, ◌<◌, eqb, leb}
use Rattle.std.proofs.Math.Path.{refl, sym, ap, ap₂}
use Rattle.std.proofs.Common.{◌∙◌}
use Rattle.std.proofs.Math.Bool.{true, cond, not, ◌&&◌, and_assoc, and_comm}
use mathlib.Core.List.{List, [], ◌∷◌, ◌++◌}
use Rattle.std.proofs.Math.Decide.{ℕ_discrete, dec_lt}
use native.Mathlib.Omega.{arith}
use borrow.Author.Tests.{lt-ltb, le-ltb, le-leb, lt-leb, eq-eqb, ne_eqb}
use Rattle.std.proofs.Math.Dec.{ltb}
use Rattle.places.specs.Places.{put, all_new}
use Rattle.places.specs.Sets.{put_other}
use Rattle.distinct.specs.Distinct.{in_window, from_on}

-- ---- one number

module _ (lo n x : ℕ) where
  pub before_window : x < lo → in_window lo n (x ∷ []) ≡ []
  unfolding in_window
  before_window h = rw (lt-leb lo x h)

  pub after_window : lo ≤ x → n ≤ x - lo → in_window lo n (x ∷ []) ≡ []
  unfolding in_window
  after_window l h = rw (le-leb lo x l, le-ltb (x - lo) n h)

  pub inside_window : lo ≤ x → x - lo < n → in_window lo n (x ∷ []) ≡ (x - lo) ∷ []
  unfolding in_window
  inside_window l h = rw (le-leb lo x l, lt-ltb (x - lo) n h)

pub window_none : (lo n : ℕ) → in_window lo n [] ≡ []
unfolding in_window
window_none lo n = refl

pub window_first : (lo n x : ℕ) (xs : List ℕ) → in_window lo n (x ∷ xs) ≡ in_window lo n (x ∷ []) ++ in_window lo n xs
unfolding in_window
window_first lo n x xs = go (leb lo x && ltb (x - lo) n)
  where
    go : (t : Bool) → cond t ((x - lo) ∷ in_window lo n xs) (in_window lo n xs) ≡ cond t ((x - lo) ∷ []) [] ++ in_window lo n xs
    go true = refl
    go false = refl

module _ (lo x : ℕ) (xs : List ℕ) where
  pub from_skip : x < lo → from_on lo (x ∷ xs) ≡ from_on lo xs
  unfolding from_on
  from_skip h = rw (lt-leb lo x h)

  pub from_keep : lo ≤ x → from_on lo (x ∷ xs) ≡ x ∷ from_on lo xs
  unfolding from_on
  from_keep h = rw (le-leb lo x h)

-- ---- sets that agree where it counts

put_agree : (s r : ℕ → Bool) (x q : ℕ) → s q ≡ r q → put s x true q ≡ put r x true q
put_agree s r x q e = ap (λ (b : Bool). cond (eqb q x) true b) e

new_below : (t : ℕ) (s r : ℕ → Bool) (xs : List ℕ) → ((q : ℕ) → q < t → s q ≡ r q) → all_new t s xs ≡ all_new t r xs
unfolding all_new
new_below t s r [] a = refl
new_below t s r (x ∷ xs) a = elim (dec_lt x t) [
  | yes l ↦ ap₂ (λ (u v : Bool). ltb x t && not u && v) (a x l) (new_below t (put s x true) (put r x true) xs (λ q h. put_agree s r x q (a q h)))
  | no l ↦ rw (le-ltb x t (omega arith)) refl
]

new_from : (t lo : ℕ) (s r : ℕ → Bool) (xs : List ℕ) → ((q : ℕ) → lo ≤ q → s q ≡ r q) → all_new t s (from_on lo xs) ≡ all_new t r (from_on lo xs)
unfolding all_new from_on
new_from t lo s r [] a = refl
new_from t lo s r (x ∷ xs) a = elim (dec_lt x lo) [
  | yes l ↦ ap (all_new t s) (from_skip lo x xs l) ∙ new_from t lo s r xs a ∙ sym (ap (all_new t r) (from_skip lo x xs l))
  | no l ↦
      let h : lo ≤ x = omega arith in
      ap (all_new t s) (from_keep lo x xs h)
      ∙ ap₂ (λ (u v : Bool). ltb x t && not u && v) (a x h) (new_from t lo (put s x true) (put r x true) xs (λ q k. put_agree s r x q (a q k)))
      ∙ sym (ap (all_new t r) (from_keep lo x xs h))
]

-- ---- a window and what is after it

shifted : (lo x q : ℕ) → lo ≤ x → eqb (lo + q) x ≡ eqb q (x - lo)
shifted lo x q l = elim (ℕ_discrete q (x - lo)) [
  | yes e ↦ eq-eqb (lo + q) x (omega arith) ∙ sym (eq-eqb q (x - lo) e)
  | no d ↦ ne_eqb (lo + q) x (λ e. d (omega arith)) ∙ sym (ne_eqb q (x - lo) d)
]

middle : (g a b : Bool) → g && (a && b) ≡ a && (g && b)
middle g a b = sym (and_assoc g a b) ∙ ap (λ (t : Bool). t && b) (and_comm g a) ∙ and_assoc a g b

module _ (t lo n : ℕ) (fits : lo + n ≤ t) where
  -- those from lo on are all new, just if those in the window are, and those after it
  abbrev pub Split : (ℕ → Bool) → List ℕ → Type 0
  Split s xs = all_new t s (from_on lo xs) ≡ all_new n (λ q. s (lo + q)) (in_window lo n xs) && all_new t s (from_on (lo + n) xs)

  module _ (s : ℕ → Bool) (x : ℕ) (xs : List ℕ) where
    split_before : x < lo → Split s xs → Split s (x ∷ xs)
    split_before h others = rw (from_skip lo x xs h, window_first lo n x xs, before_window lo n x h, from_skip (lo + n) x xs (omega arith)) others

    split_inside : lo ≤ x → x < lo + n → Split (put s x true) xs → Split s (x ∷ xs)
    unfolding all_new
    split_inside l h others =
        let w = in_window lo n xs in
        let later = all_new t s (from_on (lo + n) xs) in
        let here : lo + (x - lo) ≡ x = omega arith in
        let shift : (q : ℕ) → put s x true (lo + q) ≡ put (λ q. s (lo + q)) (x - lo) true q = λ q.
        ap (λ (b : Bool). cond b true (s (lo + q))) (shifted lo x q l) in
        let own = new_below n (λ q. put s x true (lo + q)) (put (λ q. s (lo + q)) (x - lo) true) w (λ q m. shift q) in
        let rest = new_from t (lo + n) (put s x true) s xs (λ q m. put_other s x true q (λ e. omega arith)) in
        rw (from_keep lo x xs l, window_first lo n x xs, inside_window lo n x l (omega arith), from_skip (lo + n) x xs h)
        (rw (lt-ltb x t (omega arith), lt-ltb (x - lo) n (omega arith), here)
        (ap (λ (b : Bool). not (s x) && b) (others ∙ ap₂ ◌&&◌ own rest)
        ∙ sym (and_assoc (not (s x)) (all_new n (put (λ q. s (lo + q)) (x - lo) true) w) later)))

    split_after : lo + n ≤ x → Split (put s x true) xs → Split s (x ∷ xs)
    unfolding all_new
    split_after h others =
        let w = in_window lo n xs in
        let later = all_new t (put s x true) (from_on (lo + n) xs) in
        let own = new_below n (λ q. put s x true (lo + q)) (λ q. s (lo + q)) w (λ q m. put_other s x true (lo + q) (λ e. omega arith)) in
        rw (from_keep lo x xs (omega arith), window_first lo n x xs, after_window lo n x (omega arith) (omega arith), from_keep (lo + n) x xs h)
        (ap (λ (b : Bool). ltb x t && not (s x) && b) (others ∙ ap (λ (b : Bool). b && later) own)
        ∙ middle (ltb x t && not (s x)) (all_new n (λ q. s (lo + q)) w) later)

  pub window_split : (s : ℕ → Bool) (xs : List ℕ) → Split s xs
  unfolding all_new from_on in_window
  window_split s [] = refl
  window_split s (x ∷ xs) = elim (dec_lt x lo) [
    | yes l ↦ split_before s x xs l (window_split s xs)
    | no l ↦ elim (dec_lt x (lo + n)) [
      | yes k ↦ split_inside s x xs (omega arith) k (window_split (put s x true) xs)
      | no k ↦ split_after s x xs (omega arith) (window_split (put s x true) xs)
    ]
  ]
