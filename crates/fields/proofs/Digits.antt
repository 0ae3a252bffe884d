-- A number read a digit at a time.
use mathlib.Core.Path.{◌≡◌, refl, ◌∙◌}
use mathlib.Core.Bool.{Bool, true, false, cond}
use mathlib.Core.List.{List, [], ◌∷◌}
use Prim.Native.Nat.{ℕ, zero, suc, ◌+◌, ◌-◌, ◌*◌, ◌≤◌, ◌<◌}
use native.Mathlib.Omega.{arith}
use borrow.Author.Tests.{eq-eqb, ne_eqb}
use lib.Dec.{eqb}
use lib.ListN.{length, drop, get_or, length-drop}
use Rattle.std.specs.Prelude.{Some, None}
use Rattle.fields.specs.Fields.{FieldTaken, is_digit, digits_after, field_at}
use Rattle.fields.specs.Laws.{here, over}
use Rattle.fields.proofs.Reading.{digit_range}

-- ---- where there is no number

too_short : (cs : List ℕ) → length cs < 2 → field_at cs ≡ None
too_short [] h = refl
too_short (c ∷ []) h = go (eqb c 32)
  where
    go : (b : Bool) → cond {A = FieldTaken} b None None ≡ None
    go true = refl
    go false = refl
too_short (c ∷ d ∷ cs) h = absurd (omega arith)

module _ (line : List ℕ) (at : ℕ) where
  pub none_short : length line - at < 2 → field_at (drop at line) ≡ None
  none_short h = too_short (drop at line) (rw length-drop h)

  pub none_other : at < length line → (get_or line at 0 ≡ 32 → ⊥) → field_at (drop at line) ≡ None
  none_other h e = rw (here line at h, ne_eqb (get_or line at 0) 32 e)

  pub none_digit : at + 1 < length line → get_or line at 0 ≡ 32 → is_digit (get_or line (at + 1) 0) ≡ false → field_at (drop at line) ≡ None
  none_digit h blank e = rw (here line at (omega arith), eq-eqb (get_or line at 0) 32 blank, here line (at + 1) h, e)

-- ---- digits

-- the largest number of k digits
abbrev most : ℕ → ℕ
most zero = 0
most (suc k) = 10 * most k + 9

rises : (k m : ℕ) → k ≤ m → most k ≤ most m
rises zero m h = omega arith
rises (suc k) zero h = absurd (omega arith)
rises (suc k) (suc m) h = omega (arith, rises k m (omega arith))

digits_end : (line : List ℕ) (k v i : ℕ) → length line ≤ i → digits_after k v (drop i line) ≡ Some (v, drop i line)
unfolding digits_after
digits_end line k v i h = rw (over line i h)

stops : (k v c : ℕ) (cs : List ℕ) → is_digit c ≡ false → digits_after k v (c ∷ cs) ≡ Some (v, c ∷ cs)
unfolding digits_after
stops zero v c cs e = rw e
stops (suc k) v c cs e = rw e

goes_on : (k v c : ℕ) (cs : List ℕ) → 0 < k → is_digit c ≡ true → digits_after k v (c ∷ cs) ≡ digits_after (k - 1) (10 * v + (c - 48)) cs
unfolding digits_after
goes_on zero v c cs h e = absurd (omega arith)
goes_on (suc k) v c cs h e =
    let less : suc k - 1 ≡ k = omega arith in
    rw (e, less)

module _ (line : List ℕ) (i : ℕ) (h : i < length line) where
  digits_stop : (k v : ℕ) → is_digit (get_or line i 0) ≡ false → digits_after k v (drop i line) ≡ Some (v, drop i line)
  digits_stop k v e = rw (here line i h) (stops k v _ _ e)

  digits_many : (v : ℕ) → is_digit (get_or line i 0) ≡ true → digits_after 0 v (drop i line) ≡ None
  unfolding digits_after
  digits_many v e = rw (here line i h, e)

  digits_more : (k v : ℕ) → 0 < k → is_digit (get_or line i 0) ≡ true
      → digits_after k v (drop i line) ≡ digits_after (k - 1) (10 * v + (get_or line i 0 - 48)) (drop (i + 1) line)
  digits_more k v p e = rw (here line i h) (goes_on k v _ _ p e)

-- from at + 1 to before i stand the digits of the value
pub record Digits (line : List ℕ) (at value i : ℕ) : Type 0 where
  pub few : i ≤ at + 10
  pub small : value ≤ most (i - at - 1)
  pub same : field_at (drop at line) ≡ digits_after (at + 10 - i) value (drop i line)

pub first_digit : (line : List ℕ) (at : ℕ) → at + 1 < length line → get_or line at 0 ≡ 32
    → is_digit (get_or line (at + 1) 0) ≡ true → Digits line at (get_or line (at + 1) 0 - 48) (at + 2)
first_digit line at h blank e =
    let two : at + 1 + 1 ≡ at + 2 = omega arith in
    let one : at + 2 - at - 1 ≡ 1 = omega arith in
    let eight : at + 10 - (at + 2) ≡ 8 = omega arith in
    record {
      few = omega arith;
      small = rw one (omega (arith, digit_range (get_or line (at + 1) 0) e));
      same = rw (eight, here line at (omega arith), eq-eqb (get_or line at 0) 32 blank, here line (at + 1) h, e, two);
    }

module _ {line : List ℕ} {at value i : ℕ} (d : Digits line at value i) where
  pub value_fits : i < at + 10 → value ≤ 99999999
  value_fits h = omega (arith, d.small, rises (i - at - 1) 8 (omega arith))

  pub ends_here : i ≡ length line → field_at (drop at line) ≡ Some (value, drop (length line) line)
  ends_here e = rw (← e) (d.same ∙ digits_end line (at + 10 - i) value i (omega arith))

  module _ (h : i < length line) where
    pub stops_here : is_digit (get_or line i 0) ≡ false → field_at (drop at line) ≡ Some (value, drop i line)
    stops_here e = d.same ∙ digits_stop line i h _ value e

    pub too_many : is_digit (get_or line i 0) ≡ true → at + 10 ≤ i → field_at (drop at line) ≡ None
    too_many e z =
        let none : at + 10 - i ≡ 0 = omega arith in
        d.same ∙ rw none (digits_many line i h value e)

    pub next_digit : is_digit (get_or line i 0) ≡ true → at < i → i < at + 10 → Digits line at (10 * value + (get_or line i 0 - 48)) (i + 1)
    next_digit e after before =
        let more : i + 1 - at - 1 ≡ suc (i - at - 1) = omega arith in
        let less : at + 10 - (i + 1) ≡ at + 10 - i - 1 = omega arith in
        record {
          few = omega arith;
          small = rw more (omega (arith, d.small, digit_range (get_or line i 0) e));
          same = rw less (d.same ∙ digits_more line i h (at + 10 - i) value (omega arith) e);
        }
