-- The pages of a span touched, one turn of the loop after another.
use Rattle.std.specs.Prelude.{Result, Ok}
use Rattle.machine.specs.declared.RefusedAfter.{RefusedAfter}
use mathlib.Core.Path.{◌≡◌, refl, sym, ap, ◌∙◌, subst}
use mathlib.Core.List.{List}
use Prim.Native.Nat.{ℕ, ◌+◌, ◌-◌, ◌*◌, ◌/◌, ◌%◌, ◌≤◌, ◌<◌, min}
use native.Mathlib.Nat.{add-zero}
use native.Mathlib.Omega.{arith}
use lib.ListN.{length}
use Rattle.machine.specs.declared.Touched.{Touched}
use Rattle.machine.specs.declared.Touched.TheVariants as touched_is
use Rattle.machine.specs.Answers.{touched_says}
use Rattle.machine.specs.Machine.{Sizes, Lent, places, place_of, touch}
use Rattle.machine.proofs.Laws.Sizes.{fit, page_below, place_below}
use Rattle.memory.specs.Memory.{Memory, with_bytes, sizes_of}
use Rattle.memory.specs.declared.Head.{Head}
use Rattle.promise.specs.Did.{Did}
use Rattle.laws.specs.Spans.{none_touched, one_touched}
use Rattle.spans.specs.Parts.{Span, Part, Frame}
use Rattle.spans.specs.Shifted.{some_page}
use Rattle.spans.specs.PartLaws.{next_fits, PagesDone, pages_none, pages_before, one_page_more, pages_more}
use Rattle.paging.specs.Models.{cleared_for, tabled_for}
use Rattle.paging.specs.Fits.{Touchable, RamLong}
use Rattle.paging.proofs.Touches.{still_touchable, new_below}
use Rattle.mapping.specs.Spans.{around_for, SpanTouched, span_sizes, span_lengths, span_ram, OneTouched, alike_more}

-- the page of an address of a span lies in the space
pub in_span : {h : Head} {i x n : ℕ} {ram : List ℕ} → Span h i x n ram → (y b : ℕ) → y < x + n → b ≡ y / (sizes_of h).page → b < h.pages
in_span {h} g y b l e = omega (arith, e, page_below (sizes_of h) y (fit _ g.sizes_ok_lem) (omega (arith, g.ends)))

-- the pages of the first `done` bytes
pub record SoFar (i x n done : ℕ) (k k' : Memory) : Type 0 where
  pub pages : PagesDone (sizes_of k.head) x n done
  pub span : SpanTouched i x done k k'

pub touched_none : (i x n : ℕ) (k : Memory) → 0 < (sizes_of k.head).page → SoFar i x n 0 k k
touched_none i x n k pos =
    record {
      pages = pages_none (sizes_of k.head) x n pos;
      span = record { zeros = k.ram; touched = none_touched; alike = record { long = refl; same = λ p d. refl } };
    }

module _ {i x n done : ℕ} {k k₁ : Memory} (s : SoFar i x n done k k₁) where
  pub touched_all : n ≤ done → SpanTouched i x n k k₁
  touched_all l =
      let same : done ≡ n = omega (arith, s.pages.within) in
      subst (λ (d : ℕ). SpanTouched i x d k k₁) same s.span

  -- what the checks showed stays, since a touch changes no size and no length
  pub still : {b : ℕ} → Touchable k.head i b k.index k.count k.table k.helper k.stack k.cache k.link
      → Touchable k₁.head i b k₁.index k₁.count k₁.table k₁.helper k₁.stack k₁.cache k₁.link
  still can = still_touchable k (with_bytes k₁ s.span.zeros) (span_sizes s.span) (span_lengths s.span) can

  module _ (g : Span k.head i x n k.ram) where
    pub zeros_long : RamLong k₁.head s.span.zeros
    zeros_long =
        omega (arith, g.ram_long, ap (λ (z : Sizes). z.frames * z.page) (span_sizes s.span), ap (λ (l : Lent). l.ram) (span_lengths s.span))

    -- that of a new page
    pub new_frame : {b : ℕ} {a : Result Touched RefusedAfter} {k₂ : Memory} → Did (touch i b) (with_bytes k₁ s.span.zeros) (touched_says a) k₂ → (f w : ℕ)
        → a ≡ Ok (touched_is.New f w) → Frame k.head f k₁.ram
    new_frame d f w is =
        record {
          sizes_ok_lem = g.sizes_ok_lem;
          below = omega (arith, new_below _ _ _ _ _ d f w is, ap (λ (z : Sizes). z.frames) (span_sizes s.span));
          ram_long = omega (arith, g.ram_long, span_ram s.span);
        }

    module _ (low : done < n) (size : ℕ) (is : size ≡ min ((sizes_of k.head).page - (x + done) % (sizes_of k.head).page) (n - done)) (b : ℕ)
        (page_is : b ≡ (x + done) / (sizes_of k.head).page) where
      abbrev z : Sizes
      z = sizes_of k.head

      pos : 0 < z.page
      pos = some_page k.head g.sizes_ok_lem

      pub touched_more : (a : Result Touched RefusedAfter) (k₂ : Memory)
          → Did (touch i b) (with_bytes k₁ s.span.zeros) (touched_says a) (with_bytes k₂ (cleared_for k₁.head a s.span.zeros))
          → k₂.table ≡ tabled_for k₁.head i b a k₁.table → k₂.ram ≡ around_for k.head a (x + done) size k₁.ram
          → places (sizes_of k.head) ≤ length k.table
          → SoFar i x n (done + size) k k₂
      touched_more a k₂ d table_is ram_is table_long =
          let next = s.pages.next_page low in
          let t = s.span in
          let inside : place_of z i b < length k₁.table = omega (
            arith,
            table_long,
            place_below z i b g.space (in_span g (x + done) b (omega arith) page_is),
            ap (λ (l : Lent). l.table) (span_lengths t),
          ) in
          record {
            pages = pages_more z x n pos done size s.pages low is;
            span =
                record {
                  zeros = cleared_for k₁.head a t.zeros;
                  touched =
                      rw (one_page_more z x n pos done size s.pages low is)
                      (one_touched t.touched
                      (subst (λ (c : ℕ). Did (touch i c) (with_bytes k₁ t.zeros) (touched_says a) (with_bytes k₂ (cleared_for k₁.head a t.zeros)))
                      (page_is ∙ sym next) d));
                  alike =
                      rw (table_is, ram_is)
                      (alike_more k.head k₁.head (span_sizes t) i x done size b pos page_is (next_fits z x n done size pos low is)
                      (pages_before z x n pos done s.pages low)
                      k₁.table t.zeros
                      k₁.ram inside a (λ f w e. (new_frame d f w e).below) t.alike);
                };
          }

-- a span of one page: the first turn is the last
pub one_span : (i x n : ℕ) (k : Memory) → Part k.head i x n k.ram → (b : ℕ) → b ≡ x / (sizes_of k.head).page → (a : Result Touched RefusedAfter) (k₂ : Memory)
    → Did (touch i b) k (touched_says a) (with_bytes k₂ (cleared_for k.head a k.ram)) → k₂.table ≡ tabled_for k.head i b a k.table
    → k₂.ram ≡ around_for k.head a x n k.ram → places (sizes_of k.head) ≤ length k.table → OneTouched i x n k a k₂
unfolding touched_none
one_span i x n k part b page_is a k₂ d table_is ram_is table_long =
    let pos = some_page k.head part.span.sizes_ok_lem in
    let whole : n ≡ min ((sizes_of k.head).page - (x + 0) % (sizes_of k.head).page) (n - 0) = rw add-zero (omega (arith, part.fits)) in
    record {
      did = subst (λ (c : ℕ). Did (touch i c) k (touched_says a) (with_bytes k₂ (cleared_for k.head a k.ram))) page_is d;
      ram_is = ram_is;
      span =
          touched_all
          (touched_more (touched_none i x n k pos) part.span part.some_bytes n whole b (rw add-zero page_is) a k₂ d table_is (rw add-zero ram_is) table_long)
          (omega arith);
    }
