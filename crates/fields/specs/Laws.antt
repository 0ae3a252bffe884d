-- What a field says of the line: what was read there, and that what it leaves is the line's end.
use Rattle.std.specs.Prelude.{◌≡◌, refl, Bool, true, false, cond, ◌&&◌, eqb, leb, length, drop, get_or, Option, Some, None}
use mathlib.Core.List.{List, [], ◌∷◌}
use Prim.Native.Nat.{ℕ, zero, suc, ◌+◌, ◌-◌, ◌*◌, ◌≤◌, ◌<◌}
use Rattle.std.proofs.Common.{add-one, ap, arith, leb-true, length-append, drop_of_length-le, drop-cons, drop-drop}
use Rattle.std.proofs.lemmas.Bool.Decides.{Decides-eqb}
use Rattle.std.proofs.lemmas.Slice.Eq.{starts_is}
use Rattle.machine.proofs.Laws.Sizes.{both}
use Rattle.fields.specs.Fields.{begins, is_digit, FieldTaken, digits_after, number_at, field_at, Takes}

-- ---- a place in a line

pub here : (l : List ℕ) (i : ℕ) → i < length l → drop i l ≡ get_or l i 0 ∷ drop (i + 1) l
here l i h = rw (add-one, drop-cons l i 0)

pub over : (l : List ℕ) (i : ℕ) → length l ≤ i → drop i l ≡ []
over l i h = drop_of_length-le l h

pub end_here : (l : List ℕ) (i : ℕ) → i ≡ length l → drop i l ≡ []
end_here l i e = over l i (omega arith)

pub more_here : (l : List ℕ) (i : ℕ) → i ≤ length l → (i ≡ length l → ⊥) → drop i l ≡ get_or l i 0 ∷ drop (i + 1) l
more_here l i h e = here l i (omega arith)

-- ---- what was read

pub between : (a c b : ℕ) → leb a c && leb c b ≡ true → (a ≤ c) × (c ≤ b)
between a c b h =
    let p = both (leb a c) (leb c b) h in
    (leb-true a c p.0, leb-true c b p.1)

pub begins_long : (word line : List ℕ) → begins word line ≡ true → length word ≤ length line
unfolding begins
begins_long word line h =
    let front = (starts_is Decides-eqb line word _ refl).0 h in
    omega (arith, ap length front, length-append word (drop (length word) line))

module _ (line : List ℕ) (at : ℕ) {r : Option (ℕ × ℕ)} (t : Takes line at r) where
  pub took : {v next : ℕ} → r ≡ Some (v, next) → (next ≤ length line) × (field_at (drop at line) ≡ Some (v, drop next line))
  took e = rw e at t

  pub took_none : r ≡ None → field_at (drop at line) ≡ None
  took_none e = rw e at t

-- ---- what is left

-- what holds of both branches, of the first where the test is true, holds of the choice
pub either : {A : Type 0} (P : A → Type 0) (t : Bool) (x y : A) → (t ≡ true → P x) → P y → P (cond t x y)
either P true x y f g = f refl
either P false x y f g = g

module _ (line : List ℕ) where
  -- what is left of the line is its end
  pub record Ends (cs : List ℕ) : Type 0 where
    pub short : length cs ≤ length line
    pub end : drop (length line - length cs) line ≡ cs

  -- what a number leaves
  abbrev pub Left : FieldTaken → Type 0
  Left None = Unit
  Left (Some (v, rest)) = Ends rest

  -- an end's end is one
  pub tail : (c : ℕ) (cs : List ℕ) → Ends (c ∷ cs) → Ends cs
  tail c cs e =
      let more : length line - length cs ≡ length line - length (c ∷ cs) + 1 = omega (arith, e.short) in
      record { short = omega (arith, e.short); end = rw (more, ← drop-drop, e.end) }

  dropped : (k : ℕ) (cs : List ℕ) → Ends cs → Ends (drop k cs)
  dropped zero cs e = e
  dropped (suc k) [] e = e
  dropped (suc k) (c ∷ cs) e = dropped k cs (tail c cs e)

  pub after : (k : ℕ) → Ends (drop k line)
  after k = dropped k line (record { short = omega arith; end = let z : length line - length line ≡ 0 = omega arith in rw z })

  -- a number leaves an end of the line
  digits_left : (k v : ℕ) (cs : List ℕ) → Ends cs → Left (digits_after k v cs)
  unfolding digits_after
  digits_left k v [] e = e
  digits_left zero v (c ∷ cs) e = either Left (is_digit c) _ _ (λ _. tt) e
  digits_left (suc k) v (c ∷ cs) e = either Left (is_digit c) _ _ (λ _. digits_left k (10 * v + (c - 48)) cs (tail c cs e)) e

  number_left : (cs : List ℕ) → Ends cs → Left (number_at cs)
  number_left [] e = tt
  number_left (c ∷ cs) e = either Left (is_digit c) _ _ (λ _. digits_left 8 (c - 48) cs (tail c cs e)) tt

  pub field_left : (cs : List ℕ) → Ends cs → Left (field_at cs)
  field_left [] e = tt
  field_left (c ∷ cs) e = either Left (eqb c 32) _ _ (λ _. number_left cs (tail c cs e)) tt
