-- The pages of a span mapped, and new frames cleared where the span's bytes don't cover them.
use Rattle.std.specs.Prelude.{Result, Ok, Err}
use Rattle.machine.specs.declared.RefusedAfter.{RefusedAfter}
use Rattle.std.specs.Prelude.{◌≡◌, refl, ◌≢◌, cond, List, ℕ, ◌+◌, ◌-◌, ◌*◌, ◌/◌, ◌%◌, ◌≤◌, ◌<◌, ltb, length, get_or, set}
use Rattle.std.proofs.Common.{sym, ap, ◌∙◌, inl, inr, mod-lt, add_assoc, div-add-mod', arith, lt-ltb, get_or-set_same, get_or-set_other}
use Rattle.std.proofs.Math.Option.{none, some}
use Rattle.std.proofs.Math.Decide.{ℕ_discrete, dec_lt}
use Rattle.machine.specs.declared.Touched.{Touched}
use Rattle.machine.specs.declared.Touched.TheVariants as touched_is
use Rattle.machine.specs.Answers.{touched_says}
use Rattle.machine.specs.Machine.{Sizes, place_of, span_pages, Lent, touch, zeroed}
use Rattle.machine.proofs.Laws.Zeroed.{length_zeroed, zeroed_in, zeroed_else}
use Rattle.memory.specs.Memory.{Memory, with_bytes, at, sizes_of, place_in, place_by, lengths}
use Rattle.memory.specs.declared.Head.{Head}
use Rattle.promise.specs.Did.{Did}
use Rattle.laws.specs.Parts.{same_page}
use Rattle.laws.specs.Spans.{AllTouched}
use Rattle.paging.specs.Models.{cleared_for, tabled_for}
use Rattle.clearing.specs.Clears.{zeroed_around}
use Rattle.mapping.specs.Touches.{all_sizes, touched_lengths}
use Rattle.clearing.specs.Around.{around_long, around_zero, around_else}

-- the RAM after an answer, of a new page's frame the bytes cleared that lie around n bytes from address x on
abbrev pub around_for : Head → Result Touched RefusedAfter → ℕ → ℕ → List ℕ → List ℕ
around_for h (Ok (touched_is.Old f)) x n ram = ram
around_for h (Ok (touched_is.New f w)) x n ram = zeroed_around (sizes_of h) f x n ram
around_for h (Err e) x n ram = ram

-- r differs from the RAM only where the first n bytes from address x on are to be stored, by the page table
pub record AlikeBut (h : Head) (i x n : ℕ) (table ram r : List ℕ) : Type 0 where
  pub long : length r ≡ length ram
  pub same : (p : ℕ) → ((j : ℕ) → j < n → place_by h i table (x + j) ≡ some p → ⊥) → get_or r p 0 ≡ get_or ram p 0

-- every page of the span was touched, but the RAM is only alike: bytes that the span's will be stored over need not be cleared
pub record SpanTouched (i x n : ℕ) (k k' : Memory) : Type 0 where
  pub zeros : List ℕ
  pub touched : AllTouched i (x / (sizes_of k.head).page) k (span_pages (sizes_of k.head) x n) (with_bytes k' zeros)
  pub alike : AlikeBut k.head i x n k'.table zeros k'.ram

-- no touch changes sizes or lengths
module _ {i x n : ℕ} {k k₁ : Memory} (t : SpanTouched i x n k k₁) where
  pub span_sizes : sizes_of k₁.head ≡ sizes_of k.head
  span_sizes = all_sizes t.touched

  pub span_lengths : lengths (with_bytes k₁ t.zeros) ≡ lengths k
  span_lengths = touched_lengths t.touched

  pub span_ram : length k₁.ram ≡ length k.ram
  span_ram = t.alike.long ∙ ap (λ (l : Lent). l.ram) span_lengths

-- the same of a span of one page, with what its touch answered
pub record OneTouched (i x n : ℕ) (k : Memory) (a : Result Touched RefusedAfter) (k' : Memory) : Type 0 where
  pub did : Did (touch i (x / (sizes_of k.head).page)) k (touched_says a) (with_bytes k' (cleared_for k.head a k.ram))
  pub ram_is : k'.ram ≡ around_for k.head a x n k.ram
  pub span : SpanTouched i x n k k'

-- ---- one page more

module _ (h : Head) (i x done s b : ℕ) (pos : 0 < (sizes_of h).page) (page_is : b ≡ (x + done) / (sizes_of h).page)
    (fits : (x + done) % (sizes_of h).page + s ≤ (sizes_of h).page)
    (before : (j : ℕ) → j < done → (x + j) / (sizes_of h).page < (x + done) / (sizes_of h).page) (table zeros r : List ℕ) where
  old_more : AlikeBut h i x done table zeros r → AlikeBut h i x (done + s) table zeros r
  old_more a = record { long = a.long; same = λ p d. a.same p (λ j l e. d j (omega arith) e) }

  module _ (f : ℕ) (below : f < h.frames) (inside : place_of (sizes_of h) i b < length table) (a : AlikeBut h i x done table zeros r) where
    abbrev P : ℕ
    P = (sizes_of h).page

    abbrev q : ℕ
    q = (x + done) % P

    abbrev table' : List ℕ
    table' = set table (place_of (sizes_of h) i b) f

    -- the bytes of the page lie in the new frame
    placed : (t : ℕ) → q + t < P → place_by h i table' (x + (done + t)) ≡ some (f * P + (q + t))
    placed t l =
        let w = same_page P (x + done) t l in
        let word : at table' (place_of (sizes_of h) i ((x + done + t) / P)) ≡ f =
        ap (λ (c : ℕ). at table' (place_of (sizes_of h) i c)) (w.0 ∙ sym page_is) ∙ get_or-set_same table (place_of (sizes_of h) i b) f 0 inside in
        ap (place_by h i table') (sym (add_assoc x done t))
        ∙ ap (λ (g : ℕ). cond (ltb g h.frames) (some (place_in h g (x + done + t))) none) word
        ∙ rw (lt-ltb f h.frames below) (ap (λ (o : ℕ). some (f * P + o)) w.1)

    -- those of earlier pages where they lay
    as_before : (j : ℕ) → j < done → place_by h i table' (x + j) ≡ place_by h i table (x + j)
    as_before j l =
        let other : place_of (sizes_of h) i ((x + j) / P) ≢ place_of (sizes_of h) i b = λ e. absurd (omega (arith, before j l)) in
        ap (λ (g : ℕ). cond (ltb g h.frames) (some (place_in h g (x + j))) none) (get_or-set_other table (place_of (sizes_of h) i b) _ f 0 other)

    -- a byte of the new frame
    in_frame : (o : ℕ) → o < P → ((j : ℕ) → j < done + s → place_by h i table' (x + j) ≡ some (f * P + o) → ⊥)
        → get_or (zeroed_around (sizes_of h) f (x + done) s r) (f * P + o) 0 ≡ get_or (zeroed (sizes_of h) f zeros) (f * P + o) 0
    in_frame o l d = elim (dec_lt o q) [
      | yes g ↦ around_zero (sizes_of h) f (x + done) s r fits o l (inl g) ∙ sym (zeroed_in (sizes_of h) f zeros o l)
      | no g ↦ elim (dec_lt o (q + s)) [
        | yes k ↦
            let back : q + (o - q) ≡ o = omega arith in
            absurd (d (done + (o - q)) (omega arith) (placed (o - q) (omega arith) ∙ ap (λ (c : ℕ). some (f * P + c)) back))
        | no k ↦ around_zero (sizes_of h) f (x + done) s r fits o l (inr (omega arith)) ∙ sym (zeroed_in (sizes_of h) f zeros o l)
      ]
    ]

    new_more : AlikeBut h i x (done + s) (set table (place_of (sizes_of h) i b) f) (zeroed (sizes_of h) f zeros) (zeroed_around (sizes_of h) f (x + done) s r)
    new_more =
        record {
          long = around_long (sizes_of h) f (x + done) s r fits ∙ a.long ∙ sym (length_zeroed (sizes_of h) f zeros);
          same = λ p d. elim (ℕ_discrete (p / P) f) [
            | yes e ↦
                let is : f * P + p % P ≡ p = omega (arith, div-add-mod' p P, ap (λ (c : ℕ). c * P) e) in
                rw is at (in_frame (p % P) (mod-lt p pos) (rw is d))
            | no n ↦
                around_else (sizes_of h) f (x + done) s r fits p pos n
                ∙ a.same p (λ j l e. d j (omega arith) (as_before j l ∙ e))
                ∙ sym (zeroed_else (sizes_of h) f zeros p pos n)
          ];
        }

-- whatever the answer
pub alike_more : (h h' : Head) → sizes_of h' ≡ sizes_of h → (i x done s b : ℕ) → 0 < (sizes_of h).page → b ≡ (x + done) / (sizes_of h).page
    → (x + done) % (sizes_of h).page + s ≤ (sizes_of h).page → ((j : ℕ) → j < done → (x + j) / (sizes_of h).page < (x + done) / (sizes_of h).page)
    → (table zeros r : List ℕ) → place_of (sizes_of h) i b < length table → (a : Result Touched RefusedAfter) → ((f w : ℕ) → a ≡ Ok (touched_is.New f w) → f < h.frames)
    → AlikeBut h i x done table zeros r → AlikeBut h i x (done + s) (tabled_for h' i b a table) (cleared_for h' a zeros) (around_for h a (x + done) s r)
alike_more h h' e i x done s b pos page_is fits before table zeros r inside (Ok (touched_is.Old f)) below so_far =
    old_more h i x done s b pos page_is fits before table zeros r so_far
alike_more h h' e i x done s b pos page_is fits before table zeros r inside (Ok (touched_is.New f w)) below so_far =
    rw (ap (λ (z : Sizes). place_of z i b) e, e)
    (new_more h i x done s b pos page_is fits before table zeros r f (below f w refl) inside so_far)
alike_more h h' e i x done s b pos page_is fits before table zeros r inside (Err y) below so_far =
    old_more h i x done s b pos page_is fits before table zeros r so_far
