-- From the check, the survey, the touches and the stores to a write's promise.
use Rattle.std.specs.Prelude.{◌≡◌, refl, Bool, false, cond, List, [], ◌∷◌, ℕ, zero, suc, ◌+◌, ◌-◌, ◌*◌, ◌/◌, ◌%◌, ◌≤◌, ◌<◌, ltb, length}
use Rattle.std.proofs.Common.{sym, ◌∙◌, zero-le, arith, le-ltb}
use Rattle.std.proofs.Math.Path.{ap, ap₂, subst}
use Rattle.std.proofs.Math.Option.{none, some}
use Rattle.std.proofs.Math.Nat.{add-sub_cancel_left}
use Rattle.std.proofs.lemmas.List.Edits.{sets}
use Rattle.machine.specs.Machine.{Sizes, places, place_of, page_of_address, span_pages, State, any_outside, count_absent, stored_at}
use Rattle.machine.specs.Machine.{write, asked, done, refused}
use Rattle.machine.specs.declared.Touched.TheVariants as touched_is
use Rattle.machine.proofs.Laws.Sizes.{fit}
use Rattle.memory.specs.Memory.{Memory, with_bytes, at, sizes_of, lengths, place_in, place_by}
use Rattle.promise.specs.Holds.{Holds}
use Rattle.promise.specs.Shown.{frame_of}
use Rattle.promise.specs.Did.{Among, Did}
use Rattle.laws.specs.Models.{check_of, every_length}
use Rattle.laws.specs.Spans.{span_inside, AllTouched}
use Rattle.laws.specs.SpanChecks.{write_check}
use Rattle.lookup.specs.Ready.{Lookable}
use Rattle.lookup.proofs.Sights.{frame_is, lookable}
use Rattle.memory.specs.declared.Head.{Head}
use Rattle.paging.specs.Fits.{Touchable}
use Rattle.spans.specs.Parts.{Span, Part}
use Rattle.spans.specs.PartLaws.{one_page}
use Rattle.surveying.specs.Surveys.{AllResident, Counted, write_refusal, Settled}
use Rattle.storing.specs.Stores.{frame_stored}
use Rattle.faulting.proofs.Writing.{SpanAdmitted, write_admitted, span_pages_inside, span_refusal, write_refused}
use Rattle.faulting.proofs.Writing.{write_done}
use Rattle.faulting.specs.Resident.{resident_there, resident_touched}
use Rattle.faulting.specs.Written.{Spanned}

-- the number of the check
pub number_is : (k : Memory) (i x : ℕ) (vs : List ℕ) {no : ℕ} {inside : Bool} → no ≡ check_of k.head (every_length k) i inside
    → inside ≡ span_inside k.head x (length vs)
    → no ≡ asked (sizes_of k.head) (write i x vs (lengths k))
number_is k i x vs e inside_is = e ∙ ap (check_of k.head (every_length k) i) inside_is ∙ write_check k i x vs

-- where an address is by the page table hangs on the sizes alone
pub place_by_sizes : (h h' : Head) → sizes_of h ≡ sizes_of h' → (i : ℕ) (table : List ℕ) (y : ℕ) → place_by h i table y ≡ place_by h' i table y
place_by_sizes h h' e i table y =
    ap (λ (z : Sizes). let f = at table (page_of_address z i y) in cond (ltb f z.frames) (some (f * z.page + y % z.page)) none) e

-- the number that settles it: one of a write, and on honest memory the machine's
pub record Decided (k : Memory) (i x : ℕ) (vs : List ℕ) (short : ℕ) : Type 0 where
  pub late : (short ≡ 0 → ⊥) → Among (4 ∷ 8 ∷ 9 ∷ []) short
  pub is : (m : State) → Holds m k → short ≡ span_refusal m i x (length vs)

module _ {k : Memory} {i x : ℕ} {vs : List ℕ} {first pages : ℕ} (s : Spanned k i x vs first pages) where
  abbrev z : Sizes
  z = sizes_of k.head

  pub admitted : SpanAdmitted (sizes_of k.head) i x vs (lengths k)
  admitted = write_admitted (sizes_of k.head) i x vs (lengths k) s.passes

  pub end_inside : first + pages ≤ k.head.pages
  end_inside = omega (arith, span_pages_inside z (fit z admitted.sizes_ok_lem) x (length vs) admitted.fits, s.first_is, s.pages_is)

  pub end_small : first + pages ≤ 262144
  end_small = omega (arith, end_inside, (fit z admitted.sizes_ok_lem).few_pages)

  pub span_lookable : Lookable k.head i k.index k.count k.table k.helper k.stack k.cache
  span_lookable =
      lookable k.head i k.index k.count k.table k.helper k.stack k.cache _ _ admitted.sizes_ok_lem admitted.space admitted.lent

  pub span_touchable : (b : ℕ) → b < k.head.pages → Touchable k.head i b k.index k.count k.table k.helper k.stack k.cache k.link
  span_touchable b l = record { ready = span_lookable b l; link_long = admitted.lent.link refl }

  -- what the stores ask
  pub span_there : Span k.head i x (length vs) k.ram
  span_there = record { sizes_ok_lem = admitted.sizes_ok_lem; space = admitted.space; ends = admitted.fits; ram_long = admitted.lent.ram refl }

  -- what the machine says of the span's pages
  refusal_is : (m : State) → Holds m k
      → let p = place_of m.sizes i first in
      write_refusal (any_outside m p pages) (ltb (length m.pool) (count_absent m p pages)) ≡ span_refusal m i x (length vs)
  refusal_is m H =
      ap₂ (λ (b n : ℕ). write_refusal (any_outside m (place_of m.sizes i b) n) (ltb (length m.pool) (count_absent m (place_of m.sizes i b) n)))
      (s.first_is ∙ ap (λ (y : Sizes). x / y.page) H.sizes_are)
      (s.pages_is ∙ ap (λ (y : Sizes). span_pages y x (length vs)) H.sizes_are)

  -- where some page isn't resident
  module _ (some_absent : AllResident k.head i first (first + pages) k.count k.table k.helper k.stack k.cache → ⊥) where
    some_pages : 0 < pages
    some_pages = go pages refl
      where
        go : (n : ℕ) → pages ≡ n → 0 < n
        go zero e = absurd (some_absent (λ b l h. absurd (omega arith)))
        go (suc n) e = omega arith

    pub first_inside : first < k.head.pages
    first_inside = omega (arith, end_inside, some_pages)

    pub decided : {absent short : ℕ} → Counted k.head i first (first + pages) k.count k.table k.helper k.stack k.cache absent
        → Settled k.head i first absent k.index k.count k.table k.helper k.stack k.cache short → Decided k i x vs short
    decided c t =
        record {
          late = t.late;
          is = λ m H.
              let p = place_of m.sizes i first in
              let same : first + pages - first ≡ pages = add-sub_cancel_left first pages in
              t.honest k.link k.ram m H pages some_pages (subst (λ (y : Sizes). first + pages ≤ y.pages) H.sizes_are end_inside)
              (λ e. c k.index k.link k.ram m H (ap (any_outside m p) same ∙ e) ∙ ap (count_absent m p) same)
              ∙ refusal_is m H;
        }

  pub refused_short : {short : ℕ} → Decided k i x vs short → (short ≡ 0 → ⊥) → Did (write i x vs) k (refused short) k
  refused_short d not_None = write_refused i x vs k s.passes _ (d.late not_None) d.is

  -- ---- a span of one page that is resident

  module _ (one : pages ≡ 1) where
    pub one_part : Part k.head i x (length vs) k.ram
    one_part =
        one_page k.head i x (length vs) k.ram span_there (sym s.pages_is ∙ one)

    module _ (f : ℕ) (is : f ≡ frame_of k.head i first k.count k.table k.helper k.stack k.cache) (below : f < k.head.frames) where
      pub one_resident : AllResident k.head i first (first + pages) k.count k.table k.helper k.stack k.cache
      one_resident b from to =
          let here : first ≡ b = omega arith in
          subst (λ (c : ℕ). frame_of k.head i c k.count k.table k.helper k.stack k.cache < k.head.frames) here (omega (arith, is))

      pub one_stored : {ram : List ℕ} → ram ≡ sets k.ram (place_in k.head f x) vs → ram ≡ stored_at (place_by k.head i k.table) x vs k.ram
      one_stored e =
          e
          ∙ frame_stored k.head i x vs k.table k.ram one_part.fits f
          (frame_is k.head i first k.count k.table k.helper k.stack k.cache is below
          ∙ ap (λ (b : ℕ). at k.table (place_of z i b)) s.first_is) below

  -- ---- where every page is resident: nothing is to be settled, and a touch of each leaves all as it is

  module _ (all : AllResident k.head i first (first + pages) k.count k.table k.helper k.stack k.cache) where
    pub resident_decided : Decided k i x vs 0
    resident_decided =
        record {
          late = λ d. absurd (d refl);
          is = λ m H.
              let back = H.sizes_are in
              let t = resident_there k i m H (subst (λ (y : Sizes). i < y.spaces) back admitted.space) pages first
              (subst (λ (y : Sizes). first + pages ≤ y.pages) back end_inside) all in
              let none : 0 ≡ write_refusal false (ltb (length m.pool) 0) = rw (le-ltb (length m.pool) 0 zero-le) in
              (rw (t.0, t.1) none) ∙ refusal_is m H;
        }

    pub resident_stay : AllTouched i (x / (sizes_of k.head).page) k (span_pages (sizes_of k.head) x (length vs)) k
    resident_stay =
        subst (λ (b : ℕ). AllTouched i b k (span_pages z x (length vs)) k) s.first_is
        (subst (λ (n : ℕ). AllTouched i first k n k) s.pages_is
        (resident_touched k i first pages all (λ b l. span_touchable b (omega (arith, end_inside))) (admitted.lent.ram refl)))

  -- ---- once every page is touched

  pub table_there : places (sizes_of k.head) ≤ length k.table
  table_there = admitted.lent.table refl

  pub written : {short : ℕ} → Decided k i x vs short → short ≡ 0 → {k₁ : Memory}
      → AllTouched i (x / (sizes_of k.head).page) k (span_pages (sizes_of k.head) x (length vs)) k₁
      → {ram : List ℕ} → ram ≡ stored_at (place_by k₁.head i k₁.table) x vs k₁.ram → Did (write i x vs) k done (with_bytes k₁ ram)
  written d is_none {k₁} touched {ram} stores = write_done i x vs k s.passes k₁ ram touched (λ m H. sym is_none ∙ d.is m H) stores
