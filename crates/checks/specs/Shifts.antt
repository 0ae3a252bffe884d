-- The page size as a power of two: which powers are page sizes, and that the RAM's bytes fit a word; the number of pages by that of places.
use Rattle.std.specs.Prelude.{◌≡◌, refl, Bool, true, false, ◌&&◌, ℕ, ◌+◌, ◌-◌, ◌*◌, ◌%◌, ◌^◌, ◌≤◌, ◌<◌, eqb, leb}
use Rattle.std.proofs.Common.{sym, ◌∙◌, subst, lt_irrefl, mul-zero, mul-le-mul_right, arith, le-leb, eq-eqb, ne_eqb, leb-true, shl_exact}
use Rattle.std.proofs.Math.Decide.{dec_le, dec_lt}
use Rattle.std.proofs.lemmas.Bool.{lt-leb}
use Rattle.std.proofs.Math.Pow.{pow-lt}
use Rattle.places.specs.Laws.{any_holds, any_clear}
use Rattle.machine.specs.Machine.{is_page_size, between, sizes_ok}
use Rattle.machine.proofs.Laws.Sizes.{both, fit}
use Rattle.memory.specs.Memory.{sizes_of}
use Rattle.memory.specs.declared.Head.{Head}

pub pow_injective : (a b : ℕ) → 2 ^ a ≡ 2 ^ b → a ≡ b
pow_injective a b e = go (dec_lt a b) (dec_lt b a)
  where
    go : Dec (a < b) → Dec (b < a) → a ≡ b
    go (yes l) d = absurd (lt_irrefl (2 ^ a) (subst (λ (x : ℕ). 2 ^ a < x) (sym e) (pow-lt l)))
    go (no l) (yes g) = absurd (lt_irrefl (2 ^ b) (subst (λ (x : ℕ). 2 ^ b < x) e (pow-lt g)))
    go (no l) (no g) = omega arith

pub page_shift : (s : ℕ) → between 8 16 s ≡ is_page_size (2 ^ s)
unfolding is_page_size
page_shift s = go (dec_le 8 s) (dec_le s 16)
  where
    none : ((k : ℕ) → 8 ≤ k → k < 17 → s ≡ k → ⊥) → is_page_size (2 ^ s) ≡ false
    none d = any_clear (λ k. eqb (2 ^ s) (2 ^ k)) 8 9 (λ k l h. ne_eqb (2 ^ s) (2 ^ k) (λ e. d k l (omega arith) (pow_injective s k e)))

    go : Dec (8 ≤ s) → Dec (s ≤ 16) → between 8 16 s ≡ is_page_size (2 ^ s)
    go (yes l) (yes h) =
        rw (le-leb 8 s l, le-leb s 16 h)
        (sym (any_holds (λ k. eqb (2 ^ s) (2 ^ k)) 8 9 (record { place = s; from = l; low = omega arith; member = eq-eqb (2 ^ s) (2 ^ s) refl })))
    go (yes l) (no h) = rw (le-leb 8 s l, lt-leb s 16 (omega arith)) (sym (none (λ k a b e. omega arith)))
    go (no l) d = rw (lt-leb 8 s (omega arith)) (sym (none (λ k a b e. omega arith)))

pub shift_fits : (h : Head) → sizes_ok (sizes_of h) ≡ true → h.page.shift ≤ 16
shift_fits h e =
    let f = fit (sizes_of h) e in
    omega (arith, pow_injective h.page.shift f.shift f.page_is, f.greatest_shift)

pub ram_exact : (h : Head) (n : ℕ) → sizes_ok (sizes_of h) ≡ true → n ≡ h.frames → n * 2 ^ h.page.shift % 2 ^ 64 ≡ h.frames * 2 ^ h.page.shift
ram_exact h n e q =
    rw q (shl_exact 17 h.page.shift 64 (omega (arith, (fit (sizes_of h) e).few_frames)) (omega (arith, shift_fits h e)))

-- spaces within their limits, and places within theirs, leave no other number of pages than one within its own
pub pages_by_places : (s n : ℕ) → between 1 64 s ≡ true → between 1 262144 (s * n) ≡ (between 1 262144 n && leb (s * n) 262144)
pages_by_places s n e = go (dec_le 1 n) (dec_le (s * n) 262144)
  where
    some : 1 * n ≤ s * n
    some = mul-le-mul_right n (leb-true 1 s (both (leb 1 s) _ e).0)

    none : (b : Bool) → b && false ≡ false
    none true = refl
    none false = refl

    go : Dec (1 ≤ n) → Dec (s * n ≤ 262144) → between 1 262144 (s * n) ≡ (between 1 262144 n && leb (s * n) 262144)
    go (yes l) (yes h) =
        rw (le-leb 1 (s * n) (omega (arith, some)), le-leb (s * n) 262144 h, le-leb 1 n l, le-leb n 262144 (omega (arith, some))) refl
    go (yes l) (no h) = rw (lt-leb (s * n) 262144 (omega arith)) (none (leb 1 (s * n)) ∙ sym (none (between 1 262144 n)))
    go (no l) d = let zero : n ≡ 0 = omega arith in rw (zero, mul-zero) refl

pub space_exact : (h : Head) (n : ℕ) → sizes_ok (sizes_of h) ≡ true → n ≡ h.pages → n * 2 ^ h.page.shift % 2 ^ 64 ≡ h.pages * 2 ^ h.page.shift
space_exact h n e q =
    rw q (shl_exact 19 h.page.shift 64 (omega (arith, (fit (sizes_of h) e).few_pages)) (omega (arith, shift_fits h e)))

-- a span ends in a space of `total` bytes, tested without the sum
pub span_long : (x n all total : ℕ) → all ≡ total → all < n → false ≡ leb (x + n) total
span_long x n all total e h = rw (← e) (sym (lt-leb (x + n) all (omega arith)))

pub span_fits : (x n all total : ℕ) → all ≡ total → n ≤ all → leb x (all - n) ≡ leb (x + n) total
span_fits x n all total e h = rw (← e) (go (dec_le x (all - n)))
  where
    go : Dec (x ≤ all - n) → leb x (all - n) ≡ leb (x + n) all
    go (yes l) = le-leb x (all - n) l ∙ sym (le-leb (x + n) all (omega arith))
    go (no l) = lt-leb x (all - n) (omega arith) ∙ sym (lt-leb (x + n) all (omega arith))
