-- The first start from a place on: the places passed before it, and what one word of the index tells of them.
use Rattle.std.specs.Prelude.{◌≡◌, Bool, List, get_or, min}
use Rattle.std.proofs.Math.Path.{refl, ap}
use Rattle.std.proofs.Common.{sym, ◌∙◌, true≢false, div-le_self, lt_of_le_of_lt}
use Rattle.std.proofs.Math.Bool.{true, false, cond}
use Prim.Native.Nat.{ℕ, zero, suc, ◌+◌, ◌-◌, ◌*◌, ◌/◌, ◌%◌, ◌^◌, ◌≤◌, ◌<◌}
use Rattle.std.proofs.Math.Nat.{add-zero}
use Rattle.std.proofs.Math.Decide.{dec_lt}
use native.Mathlib.Omega.{arith}
use Rattle.std.specs.Int.Count.{count_trailing_zeros}
use Rattle.sequence.specs.Lists.{suc_across}
use Rattle.places.specs.Laws.{First}
use Rattle.layer.specs.Words.{bit, bit_at}
use Rattle.layer.specs.Packed.{bit_high, bit_zero}
use Rattle.layer.specs.Counts.{lowest_bit, bit_shifted}
use Rattle.machine.specs.State.{until_start}

-- no start from place p to before place q
abbrev pub NoneIn : (ℕ → Bool) → ℕ → ℕ → Type 0
NoneIn s p q = (i : ℕ) → p ≤ i → i < q → s i ≡ false

-- no start in words a to b of the lowest layer
abbrev pub Empty : List ℕ → ℕ → ℕ → Type 0
Empty ws a b = (w : ℕ) → a ≤ w → w < b → get_or ws w 0 ≡ 0

pub empty_more : (ws : List ℕ) (a b : ℕ) → Empty ws a b → get_or ws b 0 ≡ 0 → Empty ws a (b + 1)
empty_more ws a b e none w from to = elim (dec_lt w b) [
  | yes l ↦ e w from l
  | no l ↦ ap (λ (i : ℕ). get_or ws i 0) (omega arith) ∙ none
]

pub empty_none : (ws : List ℕ) (a b : ℕ) → Empty ws a b → NoneIn (bit_at ws) (a * 64) (64 * b)
unfolding bit_at
empty_none ws a b e i from to = ap (λ (w : ℕ). bit w (i % 64)) (e (i / 64) (omega arith) (omega arith)) ∙ bit_zero (i % 64)

module _ (s : ℕ → Bool) where
  pub none_more : {p q r : ℕ} → NoneIn s p q → NoneIn s q r → NoneIn s p r
  none_more {p} {q} {r} f g i a b = elim (dec_lt i q) [
    | yes l ↦ f i a l
    | no l ↦ g i (omega arith) b
  ]

  -- k of n places are passed: none of them is a start, and the next one is, if there is one
  pub until_is : (p n k : ℕ) → k ≤ n → NoneIn s p (p + k) → (k < n → s (p + k) ≡ true) → until_start s p n ≡ k
  unfolding until_start
  until_is p zero k few clear start = omega arith
  until_is p (suc n) zero few clear start = rw (rw add-zero at (start (omega arith)))
  until_is p (suc n) (suc k) few clear start =
      rw (clear p (omega arith) (omega arith))
      (ap suc
      (until_is (suc p) n k (omega arith) (λ i a b. clear i (omega arith) (omega arith))
      (λ l. ap s (suc_across p k) ∙ start (omega arith))))

  -- the same by places
  pub next_is : (p q end : ℕ) → p ≤ q → q ≤ end → NoneIn s p q → (q < end → s q ≡ true) → q ≡ p + until_start s p (end - p)
  next_is p q end from few clear start =
      let here : p + (q - p) ≡ q = omega arith in
      omega (
        arith,
        until_is p (end - p) (q - p) (omega arith) (λ i a b. clear i a (omega arith)) (λ l. ap s here ∙ start (omega arith)),
      )

  until_few : (p n : ℕ) → until_start s p n ≤ n
  unfolding until_start
  until_few p zero = omega arith
  until_few p (suc n) = go (s p) (until_few (suc p) n)
    where
      go : (b : Bool) → until_start s (suc p) n ≤ n → cond b 0 (suc (until_start s (suc p) n)) ≤ suc n
      go true few = omega arith
      go false few = omega arith

  until_start_lem : (p n : ℕ) → until_start s p n < n → s (p + until_start s p n) ≡ true
  unfolding until_start
  until_start_lem p zero h = absurd (omega arith)
  until_start_lem p (suc n) h = go (s p) refl h (until_start_lem (suc p) n)
    where
      go : (b : Bool) → s p ≡ b → cond b 0 (suc (until_start s (suc p) n)) < suc n
          → (until_start s (suc p) n < n → s (suc p + until_start s (suc p) n) ≡ true)
          → s (p + cond b 0 (suc (until_start s (suc p) n))) ≡ true
      go true e h later = ap s (add-zero p) ∙ e
      go false e h later = ap s (sym (suc_across p (until_start s (suc p) n))) ∙ later (omega arith)

  -- what the first start a from p on is, of the places before `end`
  pub record Next (p end a : ℕ) : Type 0 where
    pub from : p ≤ a
    pub to : a ≤ end
    pub start : a < end → s a ≡ true

  pub next_told : (p end a : ℕ) → p ≤ end → a ≡ p + until_start s p (end - p) → Next p end a
  next_told p end a h e =
      let few = until_few p (end - p) in
      record { from = omega arith; to = omega arith; start = λ l. ap s e ∙ until_start_lem p (end - p) (omega arith) }

-- sets that agree on the places looked at
pub until_ext : (s r : ℕ → Bool) (p n : ℕ) → ((q : ℕ) → p ≤ q → q < p + n → s q ≡ r q) → until_start s p n ≡ until_start r p n
unfolding until_start
until_ext s r p zero same = refl
until_ext s r p (suc n) same =
    rw (same p (omega arith) (omega arith), until_ext s r (suc p) n (λ q a b. same q (omega arith) (omega arith)))

-- ---- the bits of a word from that of place q on

module _ (ws : List ℕ) (q : ℕ) where
  abbrev pub rest : ℕ
  rest = get_or ws (q / 64) 0 / 2 ^ (q % 64)

  rest_bit : (i : ℕ) → q ≤ i → i < (q / 64 + 1) * 64 → bit_at ws i ≡ bit rest (i - q)
  unfolding bit_at
  rest_bit i a b =
      let word : i / 64 ≡ q / 64 = omega arith in
      let place : i % 64 ≡ q % 64 + (i - q) = omega arith in
      rw (word, place) (sym (bit_shifted (get_or ws (q / 64) 0) (q % 64) (i - q)))

  pub none_left : rest ≡ 0 → NoneIn (bit_at ws) q ((q / 64 + 1) * 64)
  none_left e i a b = rest_bit i a b ∙ ap (λ (w : ℕ). bit w (i - q)) e ∙ bit_zero (i - q)

  module _ (fits : get_or ws (q / 64) 0 < 2 ^ 64) (some : rest ≡ 0 → ⊥) where
    lowest : First (bit rest) 0 (count_trailing_zeros 64 rest)
    lowest = lowest_bit 64 rest (omega arith) (lt_of_le_of_lt (div-le_self _ _) fits)

    inside : q % 64 + count_trailing_zeros 64 rest < 64
    inside = elim (dec_lt (q % 64 + count_trailing_zeros 64 rest) 64) [
      | yes l ↦ l
      | no l ↦
          absurd
          (true≢false
          (sym lowest.accepted ∙ bit_shifted _ (q % 64) (count_trailing_zeros 64 rest) ∙ bit_high _ 64 _ fits (omega arith)))
    ]

    pub found_clear : NoneIn (bit_at ws) q (q + count_trailing_zeros 64 rest)
    found_clear i a b = rest_bit i a (omega (arith, inside)) ∙ lowest.refused (i - q) (omega arith) (omega arith)

    pub found_start : bit_at ws (q + count_trailing_zeros 64 rest) ≡ true
    found_start =
        let back : q + count_trailing_zeros 64 rest - q ≡ count_trailing_zeros 64 rest = omega arith in
        rest_bit _ (omega arith) (omega (arith, inside)) ∙ ap (bit rest) back ∙ lowest.accepted

    -- cut at `end`, it is the first start from place p on, if none is before q
    pub found_is : (p end : ℕ) → p ≤ q → q ≤ end → NoneIn (bit_at ws) p q
        → min end (q + count_trailing_zeros 64 rest) ≡ p + until_start (bit_at ws) p (end - p)
    found_is p end from to clear =
        let a = q + count_trailing_zeros 64 rest in
        let passed = none_more (bit_at ws) clear found_clear in
        next_is (bit_at ws) p (min end a) end (omega arith) (omega arith) (λ i x y. passed i x (omega arith))
        (λ h.
        let here : min end a ≡ a = omega arith in
        ap (bit_at ws) here ∙ found_start)
