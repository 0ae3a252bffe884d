-- One store more, one byte or number more, and the digits of a number.
use mathlib.Core.Path.{◌≡◌, refl, sym, ap}
use mathlib.Core.List.{List, [], ◌∷◌, ◌++◌, append_assoc, append-nil}
use Prim.Native.Nat.{ℕ, zero, suc, ◌+◌, ◌/◌, ◌%◌, ◌^◌, ◌≤◌, ◌<◌}
use native.Mathlib.Nat.{mod-eq_of_lt, pow-suc}
use native.Mathlib.Numerals.{add-one, unary_clauses}
use native.Mathlib.Omega.{arith}
use borrow.Author.Tests.{lt-ltb, le-ltb}
use lib.ListN.{length, take, set, get_or, length-set}
use lib.Seq.{take-suc, set_split}
use Rattle.io.specs.Digits.{hex_digit_ascii, last_digits, IsDigitCount}
use Rattle.digits.specs.Text.{decimal, decimal_with, hex_text, numbers_text, blank}
use Rattle.digits.specs.Writing.{Wrote}
use Rattle.digits.specs.Laws.{wrote_more}

-- ---- writing

-- one store
pub wrote_one : (at c : ℕ) (out : List ℕ) → at < length out → Wrote at out (c ∷ []) (at + 1) (set out at c)
wrote_one at c out h = record { long = length-set out at c; end_is = refl; out_is = rw add-one (set_split out at c h) }

-- one store more
pub wrote_next : {at e : ℕ} {out cs out₁ : List ℕ} (c : ℕ) → Wrote at out cs e out₁ → e < length out → Wrote at out (cs ++ (c ∷ [])) (e + 1) (set out₁ e c)
wrote_next {at} {e} {out} {cs} {out₁} c a h = wrote_more a (wrote_one e c out₁ (omega (arith, a.long)))

-- ---- one more of a list

pub take_more : (xs : List ℕ) (i : ℕ) → i < length xs → take (i + 1) xs ≡ take i xs ++ (get_or xs i 0 ∷ [])
take_more xs i h = rw add-one (take-suc xs i 0 h)

hex_append : (xs ys : List ℕ) → hex_text (xs ++ ys) ≡ hex_text xs ++ hex_text ys
unfolding hex_text
hex_append [] ys = refl
hex_append (v ∷ xs) ys = ap (λ (l : List ℕ). hex_digit_ascii (v / 16) ∷ hex_digit_ascii (v % 16) ∷ l) (hex_append xs ys)

pub hex_more : (xs : List ℕ) (i : ℕ) → i < length xs
    → hex_text (take (i + 1) xs) ≡ (hex_text (take i xs) ++ (hex_digit_ascii (get_or xs i 0 / 16) ∷ [])) ++ (hex_digit_ascii (get_or xs i 0 % 16) ∷ [])
unfolding hex_text
hex_more xs i h = rw (take_more xs i h, hex_append, append_assoc)

numbers_append : (xs ys : List ℕ) → numbers_text (xs ++ ys) ≡ numbers_text xs ++ numbers_text ys
unfolding numbers_text
numbers_append [] ys = refl
numbers_append (n ∷ xs) ys = rw (numbers_append xs ys, append_assoc (decimal n) (numbers_text xs) (numbers_text ys))

pub numbers_more : (xs : List ℕ) (i : ℕ) → i < length xs → numbers_text (take (i + 1) xs) ≡ numbers_text (take i xs) ++ (blank ++ decimal (get_or xs i 0))
unfolding numbers_text
numbers_more xs i h = rw (take_more xs i h, numbers_append, append-nil)

-- ---- decimal digits

small_pow : (m : ℕ) → m < 10 ^ m
small_pow zero = omega arith
small_pow (suc m) = rw pow-suc (omega (arith, small_pow m))

-- given fuel, as many digits as hold n and no fewer
fueled : (k f n : ℕ) → k < f → n < 10 ^ suc k → (0 < k → 10 ^ k ≤ n) → decimal_with f n ≡ last_digits 10 (suc k) n
unfolding decimal_with
fueled k zero n h small big = absurd (omega arith)
fueled zero (suc f) n h small big =
    let s : n < 10 = omega arith in
    rw (mod-eq_of_lt s, lt-ltb n 10 s)
fueled (suc k) (suc f) n h small big =
    let b = big (omega arith) in
    let p = pow-suc 10 k in
    let q = pow-suc 10 (suc k) in
    let r = small_pow k in
    rw (le-ltb n 10 (omega arith), fueled k f (n / 10) (omega arith) (omega arith) (λ _. omega arith))

enough : (k n : ℕ) → (0 < k → 10 ^ k ≤ n) → k < suc n
enough zero n big = omega arith
enough (suc k) n big = omega (arith, big (omega arith), small_pow (suc k))

pub decimal_is : (n k : ℕ) → IsDigitCount 10 1 n k → last_digits 10 k n ≡ decimal n
decimal_is n zero h = absurd (omega arith)
decimal_is n (suc k) h =
    let big : 0 < k → 10 ^ k ≤ n = λ p. simp unary_clauses at (h.2 (omega arith)) in
    sym (fueled k (suc n) n (enough k n big) h.1 big)
