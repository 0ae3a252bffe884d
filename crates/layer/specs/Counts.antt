-- The processor's counts of zeros: 63 less the leading ones is the place of the highest bit set, and the trailing ones are the place of the lowest.
use Rattle.std.specs.Prelude.{◌≡◌, refl, true, false, ℕ, zero, suc, ◌+◌, ◌-◌, ◌*◌, ◌/◌, ◌%◌, ◌^◌, ◌≤◌, ◌<◌, eqb}
use Rattle.std.proofs.Common.{sym, ap, ◌∙◌, div-one, lt_of_lt_of_le, mod-eq_of_lt, mod-lt, arith, eq-eqb, ne_eqb, pow_mono, pow_pos, shr-shr}
use Rattle.std.proofs.Math.Option.{none, some}
use Rattle.std.proofs.Math.Nat.{div-div-eq-div-mul, div-eq_of_lt-le, pow-succ'}
use Rattle.std.specs.Int.Bits.{bit_and}
use Rattle.std.proofs.lemmas.Nat.{and_mask, leading_top}
use Rattle.std.specs.Int.Count.{count_leading_zeros, count_trailing_zeros, under}
use Rattle.places.specs.Places.{last_below}
use Rattle.places.specs.Laws.{First, one_shifted, below_ext, below_is, below_no, below_skip}
use Rattle.layer.specs.Words.{bit}
use Rattle.layer.specs.Packed.{bit_high, bit_zero, bit_pack, pack_bits}

top_set : (w j : ℕ) → 2 ^ j ≤ w → w < 2 ^ suc j → bit w j ≡ true
unfolding bit
top_set w j lo hi = let e : w / 2 ^ j ≡ 1 = div-eq_of_lt-le (2 ^ j) (omega arith) (omega arith) in rw e

-- "Say once for all words but 0: 63 less the count is the place of the highest bit set."
pub highest_bit : (w : ℕ) → 0 < w → w < 2 ^ 64 → last_below (bit w) 64 ≡ some (63 - count_leading_zeros 64 w)
highest_bit w pos fits =
    let t = leading_top 64 w pos fits in
    let j = t.0 in
    let made = t.1 in
    let e : 63 - count_leading_zeros 64 w ≡ j = omega arith in
    rw e (below_is (bit w) 64 j (record { low = omega arith; member = top_set w j t.2 t.3; clear = λ i x _. bit_high w (suc j) i t.3 x }))

-- a word but 0 has at most 63 leading zeros
count_low : (w : ℕ) → 0 < w → w < 2 ^ 64 → count_leading_zeros 64 w ≤ 63
count_low w pos fits =
    let t = leading_top 64 w pos fits in
    let made = t.1 in
    omega arith

-- ---- the bits below n by themselves, as the code makes them

pub whole_word : (w n : ℕ) → w < 2 ^ 64 → n ≡ 64 → w ≡ w % 2 ^ n
whole_word w n l e = rw e (sym (mod-eq_of_lt l))

module _ (n : ℕ) (h : n ≤ 64) (d : n ≡ 64 → ⊥) where
  shifted : 1 * 2 ^ n % 2 ^ 64 ≡ 2 ^ n
  shifted = one_shifted n (omega arith)

  pub shifted_some : 1 ≤ 1 * 2 ^ n % 2 ^ 64
  shifted_some = rw shifted (pow_pos n)

  pub masked_word : (w : ℕ) → bit_and w (1 * 2 ^ n % 2 ^ 64 - 1) ≡ w % 2 ^ n
  masked_word w = rw shifted (and_mask w n)

-- ---- the highest of them

module _ (w n low : ℕ) (is : low ≡ w % 2 ^ n) where
  bit_low : (j : ℕ) → j < n → bit w j ≡ bit low j
  bit_low j l = sym (ap (λ (x : ℕ). bit x j) (is ∙ sym (pack_bits w n)) ∙ bit_pack (bit w) n j l)

  low_lt : low < 2 ^ n
  low_lt = rw is (mod-lt w (pow_pos n))

  pub none_below : low ≡ 0 → none ≡ last_below (bit w) n
  none_below e = sym (below_no (bit w) n (λ j l. bit_low j l ∙ ap (λ (x : ℕ). bit x j) e ∙ bit_zero j))

  module _ (h : n ≤ 64) (d : low ≡ 0 → ⊥) where
    word_lt : low < 2 ^ 64
    word_lt = lt_of_lt_of_le low_lt (pow_mono h)

    pub count_below : count_leading_zeros 64 low ≤ 63
    count_below = count_low low (omega arith) word_lt

    pub some_below : some (63 - count_leading_zeros 64 low) ≡ last_below (bit w) n
    some_below =
        sym
        (below_ext (bit w) (bit low) n bit_low
        ∙ sym (below_skip (bit low) n 64 h (λ j x _. bit_high low n j low_lt x))
        ∙ highest_bit low (omega arith) word_lt)

-- ---- the lowest bit

bit_half : (w i : ℕ) → bit w (suc i) ≡ bit (w / 2) i
unfolding bit
bit_half w i = ap (λ (x : ℕ). eqb (x % 2) 1) (ap (λ (x : ℕ). w / x) (pow-succ' 2 i) ∙ sym (div-div-eq-div-mul w 2 (2 ^ i)))

bit_least : (w : ℕ) → bit w 0 ≡ eqb (w % 2) 1
unfolding bit
bit_least w = ap (λ (x : ℕ). eqb (x % 2) 1) (div-one w)

-- for all words but 0: the count of trailing zeros is the place of the lowest bit set
pub lowest_bit : (k w : ℕ) → 0 < w → w < 2 ^ k → First (bit w) 0 (count_trailing_zeros k w)
unfolding count_trailing_zeros
lowest_bit zero w pos fits = absurd (omega arith)
lowest_bit (suc k) w pos fits = go (w % 2) refl (λ e. lowest_bit k (w / 2) (omega arith) (omega arith))
  where
    go : (r : ℕ) → w % 2 ≡ r → (w % 2 ≡ 0 → First (bit (w / 2)) 0 (count_trailing_zeros k (w / 2)))
        → First (bit w) 0 (under r (count_trailing_zeros k (w / 2)))
    go zero e rest =
        let half = rest e in
        record { from = omega arith; accepted = bit_half w (count_trailing_zeros k (w / 2)) ∙ half.accepted; refused = λ i _ l. clear i l }
      where
        clear : (i : ℕ) → i < suc (count_trailing_zeros k (w / 2)) → bit w i ≡ false
        clear zero l = bit_least w ∙ ne_eqb (w % 2) 1 (λ q. omega arith)
        clear (suc i) l = bit_half w i ∙ (rest e).refused i (omega arith) (omega arith)
    go (suc r) e rest =
        record { from = omega arith; accepted = bit_least w ∙ eq-eqb (w % 2) 1 (omega arith); refused = λ i _ l. absurd (omega arith) }

-- the bits from n on by themselves, as a shift makes them
pub bit_shifted : (w n i : ℕ) → bit (w / 2 ^ n) i ≡ bit w (n + i)
unfolding bit
bit_shifted w n i = ap (λ (x : ℕ). eqb (x % 2) 1) (shr-shr w n i)
