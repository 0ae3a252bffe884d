-- What a check that passed says of a span.
use mathlib.Core.Path.{◌≡◌, refl, sym, ◌∙◌}
use mathlib.Core.Bool.{true}
use mathlib.Core.List.{List}
use Prim.Native.Nat.{ℕ, zero, suc, ◌+◌, ◌/◌, ◌≤◌, ◌<◌}
use native.Mathlib.Nat.{div-le_self}
use native.Mathlib.Omega.{arith}
use borrow.Author.Tests.{leb-true}
use lib.ListN.{length}
use Rattle.machine.specs.Machine.{sizes_ok, space_bytes, span_pages}
use Rattle.machine.proofs.Laws.Sizes.{both, fit}
use Rattle.memory.specs.Memory.{sizes_of}
use Rattle.memory.specs.declared.Head.{Head}
use Rattle.memory.specs.declared.Lengths.{Lengths}
use Rattle.laws.specs.Models.{check_of}
use Rattle.laws.specs.Checking.{CheckPassed, ready}
use Rattle.laws.specs.Spans.{span_inside}
use Rattle.laws.specs.SpanChecks.{span_page}
use Rattle.spans.specs.Shifted.{space_small}
use Rattle.spans.specs.Parts.{Span}

-- a page's number fits
pub page_fits : (h : Head) (b : ℕ) → sizes_ok (sizes_of h) ≡ true → b < h.pages → b < 262144
page_fits h b ok l = omega (arith, (fit (sizes_of h) ok).few_pages)

module _ (h : Head) (l : Lengths) (i x n : ℕ) (r : ℕ) (checked : r ≡ check_of h l i (span_inside h x n)) (passed : r ≡ 0) where
  pub span_ready : CheckPassed h l i (span_inside h x n)
  span_ready = ready h l i (span_inside h x n) (sym checked ∙ passed)

  span_ends : x + n ≤ space_bytes (sizes_of h)
  unfolding span_inside
  span_ends = leb-true (x + n) (space_bytes (sizes_of h)) (both (sizes_ok (sizes_of h)) _ span_ready.is_inside).1

  pub span_is : (ram : List ℕ) → l.ram ≡ length ram → Span h i x n ram
  span_is ram e =
      record { sizes_ok_lem = span_ready.sizes_ok_lem; space = span_ready.space; ends = span_ends; ram_long = omega (arith, span_ready.lent.ram refl) }

-- the pages of a span
pub pages_low : (h : Head) (x n : ℕ) → sizes_ok (sizes_of h) ≡ true → x + n ≤ space_bytes (sizes_of h)
    → x / (sizes_of h).page + span_pages (sizes_of h) x n ≤ 68719476736
pages_low h x zero ok l = omega (arith, space_small h ok, div-le_self x (sizes_of h).page)
pages_low h x (suc n) ok l = omega (arith, space_small h ok, div-le_self x (sizes_of h).page, div-le_self (x + n) (sizes_of h).page)

-- the page looked up next lies in the space
pub next_page : (h : Head) (x n first count page : ℕ) → sizes_ok (sizes_of h) ≡ true → x + n ≤ space_bytes (sizes_of h) → first ≡ x / (sizes_of h).page
    → count ≡ span_pages (sizes_of h) x n
    → first ≤ page → page < first + count → page < h.pages
next_page h x n first count page ok ends f c l t = span_page (sizes_of h) x n page ok ends (omega arith) (omega arith)
