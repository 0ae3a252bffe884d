-- The bytes are stored over all that was not cleared, and a write that its one touch settles.
use Rattle.std.specs.Prelude.{Result, Ok, Err}
use Rattle.machine.specs.declared.RefusedAfter.{RefusedAfter}
use Rattle.std.specs.Prelude.{◌≡◌, refl, true, List, [], ◌∷◌, ℕ, ◌+◌, ◌*◌, ◌/◌, ◌≤◌, ◌<◌, ltb, length}
use Rattle.std.proofs.Common.{sym, ◌∙◌, arith}
use Rattle.std.proofs.Math.Path.{ap, ap₂, subst}
use Rattle.machine.specs.Machine.{Sizes, sizes_ok, space_bytes, places, place_of, page_of_address, span_pages, State, Lent, any_outside, count_absent, stored_at}
use Rattle.machine.specs.Machine.{words_at, Out, touch, write, asked, accepted, done, refused}
use Rattle.machine.specs.declared.PageCall.TheVariants.{Touch}
use Rattle.machine.specs.declared.Touched.{Touched}
use Rattle.machine.specs.declared.Touched.TheVariants as touched_is
use Rattle.machine.specs.Answers.{touched_says}
use Rattle.machine.proofs.Laws.Sizes.{fit}
use Rattle.machine.proofs.Laws.Storing.{stored_alike}
use Rattle.memory.specs.Memory.{Memory, with_bytes, sizes_of, lengths, place_by}
use Rattle.promise.specs.Holds.{Holds}
use Rattle.promise.specs.Did.{Among, Exactly, Did}
use Rattle.laws.specs.Spans.{AllTouched}
use Rattle.laws.specs.Refusals.{passed_step}
use Rattle.laws.specs.Passing.{page_passes}
use Rattle.spans.specs.Parts.{Span}
use Rattle.surveying.specs.Surveys.{write_refusal}
use Rattle.mapping.specs.Spans.{SpanTouched, span_sizes, span_lengths, span_ram, OneTouched}
use Rattle.faulting.proofs.Writing.{SpanAdmitted, span_pages_inside, span_refusal, touch_settles}
use Rattle.faulting.specs.Writing.{refused_with}
use Rattle.faulting.specs.Written.{Spanned}
use Rattle.faulting.proofs.Written.{Decided, place_by_sizes}

module _ {k : Memory} {i x : ℕ} {vs : List ℕ} {first pages : ℕ} (s : Spanned k i x vs first pages) where
  abbrev z : Sizes
  z = sizes_of k.head

  -- what was shown of the span, under its own names
  admitted : SpanAdmitted (sizes_of k.head) i x vs (lengths k)
  admitted = Rattle.faulting.proofs.Written.admitted s

  table_there : places (sizes_of k.head) ≤ length k.table
  table_there = Rattle.faulting.proofs.Written.table_there s

  refused_short : {short : ℕ} → Decided k i x vs short → (short ≡ 0 → ⊥) → Did (write i x vs) k (refused short) k
  refused_short = Rattle.faulting.proofs.Written.refused_short s

  written : {short : ℕ} → Decided k i x vs short → short ≡ 0 → {k₁ : Memory}
      → AllTouched i (x / (sizes_of k.head).page) k (span_pages (sizes_of k.head) x (length vs)) k₁
      → {ram : List ℕ} → ram ≡ stored_at (place_by k₁.head i k₁.table) x vs k₁.ram → Did (write i x vs) k done (with_bytes k₁ ram)
  written = Rattle.faulting.proofs.Written.written s

  module _ {k₁ : Memory} (t : SpanTouched i x (length vs) k k₁) where
    pub next_span : Span k₁.head i x (length vs) k₁.ram
    next_span =
        let back = sym (span_sizes t) in
        record {
          sizes_ok_lem = subst (λ (y : Sizes). sizes_ok y ≡ true) back admitted.sizes_ok_lem;
          space = subst (λ (y : Sizes). i < y.spaces) back admitted.space;
          ends = subst (λ (y : Sizes). x + length vs ≤ space_bytes y) back admitted.fits;
          ram_long = omega (arith, admitted.lent.ram refl, span_ram t, ap (λ (y : Sizes). y.frames * y.page) (span_sizes t));
        }

    pub next_table : places (sizes_of k₁.head) ≤ length k₁.table
    next_table = omega (arith, table_there, ap places (span_sizes t), ap (λ (l : Lent). l.table) (span_lengths t))

    -- the bytes are stored over all that wasn't cleared
    pub written_over : {short : ℕ} → Decided k i x vs short → short ≡ 0 → {ram : List ℕ} → ram ≡ stored_at (place_by k₁.head i k₁.table) x vs k₁.ram
        → Did (write i x vs) k done (with_bytes k₁ ram)
    written_over d is_none stores =
        written d is_none t.touched
        (stores
        ∙ stored_alike (place_by k₁.head i k₁.table) x vs t.zeros k₁.ram t.alike.long
        (λ p free. t.alike.same p (λ j l e. free j l (place_by_sizes k₁.head k.head (span_sizes t) i k₁.table (x + j) ∙ e))))

  -- ---- a span of one page, settled by its touch

  module _ (one : span_pages (sizes_of k.head) x (length vs) ≡ 1) {a : Result Touched RefusedAfter} {k₁ : Memory} (t : OneTouched i x (length vs) k a k₁) where
    abbrev b : ℕ
    b = x / z.page

    touch_asked : asked z (touch i b (lengths k)) ≡ 0
    touch_asked =
        page_passes z Touch i b (lengths k) admitted.sizes_ok_lem admitted.space
        (omega (arith, one, span_pages_inside z (fit z admitted.sizes_ok_lem) x (length vs) admitted.fits)) admitted.lent

    one_settled : (m : State) → Holds m k → refused_with a ≡ span_refusal m i x (length vs)
    unfolding accepted
    one_settled m H =
        let back = H.sizes_are in
        let c = touch i b (lengths k) in
        let p = place_of m.sizes i b in
        let same = passed_step m c (subst (λ (y : Sizes). asked y c ≡ 0) back touch_asked) in
        let here : page_of_address m.sizes i x ≡ p = ap (λ (y : Sizes). place_of m.sizes i (x / y.page)) (sym back) in
        let many : span_pages m.sizes x (length vs) ≡ 1 = subst (λ (y : Sizes). span_pages y x (length vs) ≡ 1) back one in
        touch_settles m p (words_at m p) a ((t.did.honest m H).answer_is ∙ ap (λ (o : Out). o.answer) same)
        ∙ ap₂ (λ (q n : ℕ). write_refusal (any_outside m q n) (ltb (length m.pool) (count_absent m q n))) (sym here) (sym many)

    late : (a : Result Touched RefusedAfter) → Exactly (asked z (touch i b (lengths k))) z (touch i b (lengths k)) (touched_says a) → (refused_with a ≡ 0 → ⊥)
        → Among (4 ∷ 8 ∷ 9 ∷ []) (refused_with a)
    late (Ok t) e d = absurd (d refl)
    late (Err y) e d =
        (subst (λ (j : ℕ). Exactly j z (touch i b (lengths k)) (touched_says (Err y))) touch_asked e).0

    one_decided : Decided k i x vs (refused_with a)
    one_decided = record { late = late a t.did.asks; is = one_settled }

    -- a touch that is refused leaves all as it is
    same_memory : (a : Result Touched RefusedAfter) → OneTouched i x (length vs) k a k₁ → (refused_with a ≡ 0 → ⊥) → k₁ ≡ k
    same_memory (Ok o) t d = absurd (d refl)
    same_memory (Err y) t d = ap (with_bytes k₁) t.ram_is ∙ t.did.stays refl

    pub one_refused : (refused_with a ≡ 0 → ⊥) → Did (write i x vs) k (refused (refused_with a)) k₁
    one_refused d = subst (Did (write i x vs) k (refused (refused_with a))) (sym (same_memory a t d)) (refused_short one_decided d)

    pub one_done : refused_with a ≡ 0 → {ram : List ℕ} → ram ≡ stored_at (place_by k₁.head i k₁.table) x vs k₁.ram
        → Did (write i x vs) k done (with_bytes k₁ ram)
    one_done is_none stores = written_over t.span one_decided is_none stores
