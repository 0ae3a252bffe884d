-- Shifts by the page size as products and quotients, and the pages of a span.
use Rattle.std.specs.Prelude.{◌≡◌, refl, true, ℕ, zero, suc, ◌+◌, ◌-◌, ◌*◌, ◌/◌, ◌%◌, ◌^◌, ◌≤◌, ◌<◌}
use Rattle.std.proofs.Common.{ap, ◌∙◌, mod-eq_of_lt, mod-lt, div-le_self, mul-le-mul_right, mul-le-mul_left, arith, pow_mono, shl_exact}
use Rattle.places.specs.Laws.{div_mono, one_shifted}
use Rattle.machine.specs.Machine.{sizes_ok, space_bytes, span_pages}
use Rattle.machine.specs.Answers.{size_of}
use Rattle.machine.proofs.Laws.Sizes.{fit, some_bytes}
use Rattle.memory.specs.Memory.{sizes_of}
use Rattle.memory.specs.declared.Head.{Head}
use Rattle.checks.specs.Shifts.{shift_fits}

module _ (h : Head) (ok : sizes_ok (sizes_of h) ≡ true) where
  pub size_exact : size_of h.page ≡ (sizes_of h).page
  size_exact = ap (λ (k : ℕ). 2 ^ k) (mod-eq_of_lt (let s = shift_fits h ok in let l : h.page.shift < 64 = omega arith in l))

  pub some_page : 0 < (sizes_of h).page
  some_page = some_bytes (sizes_of h) (fit (sizes_of h) ok)

  pub page_small : (sizes_of h).page ≤ 65536
  page_small = pow_mono {j = 16} (shift_fits h ok)

  pub page_shifted : 1 * 2 ^ h.page.shift % 2 ^ 64 ≡ (sizes_of h).page
  page_shifted = one_shifted h.page.shift (omega (arith, shift_fits h ok))

  -- ---- parts of a page

  pub offset_exact : (x o : ℕ) → o ≡ x % size_of h.page → o ≡ x % (sizes_of h).page
  offset_exact x o e = e ∙ ap (λ (p : ℕ). x % p) size_exact

  pub offset_low : (x o : ℕ) → o ≡ x % size_of h.page → o < (sizes_of h).page
  offset_low x o e = omega (arith, offset_exact x o e, mod-lt x some_page)

  -- ---- the pages of a span

  pub space_small : space_bytes (sizes_of h) ≤ 17179869184
  space_small =
      omega (arith, mul-le-mul_right (sizes_of h).page (fit (sizes_of h) ok).few_pages, mul-le-mul_left 262144 page_small)

  pub pages_are : (x n a b : ℕ) → (n ≡ 0 → ⊥) → a ≡ (x + (n - 1)) / (sizes_of h).page → b ≡ x / (sizes_of h).page
      → (b ≤ a) × (a - b + 1 ≡ span_pages (sizes_of h) x n)
  pages_are x zero a b d ea eb = absurd (d refl)
  pages_are x (suc n) a b d ea eb =
      let m : suc n - 1 ≡ n = omega arith in
      let ea' : a ≡ (x + n) / (sizes_of h).page = ea ∙ ap (λ (k : ℕ). (x + k) / (sizes_of h).page) m in
      (omega (arith, div_mono {a = x} {b = x + n} some_page (omega arith)), omega arith)

  pub page_low : (x n a : ℕ) → a ≡ (x + (n - 1)) / (sizes_of h).page → x + n ≤ space_bytes (sizes_of h) → a ≤ 17179869184
  page_low x n a e l = omega (arith, div-le_self (x + (n - 1)) (sizes_of h).page, space_small)

  -- ---- places in RAM

  pub frame_shifted : (f w : ℕ) → f < 2 ^ 32 → w ≡ f → w * 2 ^ h.page.shift % 2 ^ 64 ≡ f * (sizes_of h).page
  frame_shifted f w l e = rw e (shl_exact 32 h.page.shift 64 l (omega (arith, shift_fits h ok)))

  pub frame_small : (f : ℕ) → f < 2 ^ 32 → f * (sizes_of h).page ≤ 281474976710656
  frame_small f l = omega (arith, mul-le-mul_right (sizes_of h).page (let k : f ≤ 4294967296 = omega arith in k), mul-le-mul_left 4294967296 page_small)
