-- From what is to be done to the whole release: what carrying it out may take for granted, and that it keeps the promise.
use mathlib.Core.Path.{◌≡◌, refl, sym, ap, ◌∙◌}
use mathlib.Core.Bool.{Bool, true, false}
use mathlib.Core.List.{List, []}
use Prim.Native.Nat.{ℕ, zero, suc, ◌+◌, ◌-◌, ◌/◌, ◌≤◌, ◌<◌}
use native.Mathlib.Omega.{arith}
use borrow.Author.Tests.{ltb-true}
use lib.Dec.{ltb}
use lib.ListN.{length}
use Rattle.layer.specs.Words.{bit_at}
use Rattle.machine.specs.Machine.{places, place_of, sizes_ok, release, pages, refused}
use Rattle.machine.proofs.Laws.Sizes.{fit, place_below}
use Rattle.memory.specs.Memory.{Memory, memory, at, sizes_of}
use Rattle.memory.specs.declared.Head.{Head}
use Rattle.memory.specs.declared.Lengths.{Lengths}
use Rattle.memory.specs.declared.Out.{Out}
use Rattle.std.specs.Prelude.{Option, Some, Result, Ok, Err}
use Rattle.refusals.specs.Refusals.{number, refusal}
use Rattle.refusals.specs.declared.Refusal.{Refusal}
use Rattle.refusals.proofs.Laws.{not_none}
use Rattle.promise.specs.Did.{Did}
use Rattle.laws.specs.Models.{check_of, release_lengths, page_inside, Checked}
use Rattle.releasing.specs.Models.{cut_ok, cut_if, cut_for, cut_at, cut_says, cut_leaves, Releases}
use Rattle.laws.specs.Checking as checking
use Rattle.laws.specs.Refusals.{check_passes}
use Rattle.extent.specs.Passing.{passed, word_lent}
use Rattle.releasing.proofs.Releasing.{cut_says_lem, release_did}
use Rattle.pool.specs.Takes.{Top}
use Rattle.releasing.specs.Cuts.{Spliceable, Splices, CutOfIf, CutOf}

-- ---- a release that passed the checks

module _ (h : Head) (l : Lengths) (i b : ℕ) (y : checking.CheckPassed h l i (ltb b h.pages)) where
  pub page_known : (sizes_ok (sizes_of h) ≡ true) × (i < h.spaces) × (b < h.pages)
  page_known = (y.sizes_ok_lem, y.space, ltb-true b h.pages y.is_inside)

  pub tables_known : (t a : ℕ) → t ≡ places (sizes_of h) → a ≡ place_of (sizes_of h) i b
      → (a < t) × (t ≤ 262144) × (t ≤ l.count) × (t ≤ l.table) × (t ≤ l.stack)
  tables_known t a et ea =
      rw (et, ea) (
        place_below (sizes_of h) i b y.space page_known.2,
        (fit (sizes_of h) y.sizes_ok_lem).few_places,
        y.lent.count refl,
        y.lent.table refl,
        y.lent.stack refl,
      )

  -- the index has the word of the page's bit
  pub word_known : (a : ℕ) → a ≡ place_of (sizes_of h) i b → a / 64 < l.index
  word_known a ea =
      word_lent (passed l.index (places (sizes_of h)) a
      (rw ea (check_passes (sizes_of h) y.sizes_ok_lem l.index (y.lent.index refl) (place_of (sizes_of h) i b)
      (place_below (sizes_of h) i b y.space page_known.2))))

-- ---- what is to be done, from the number of the check

module _ (h : Head) (i b : ℕ) (index count table stack link : List ℕ) (n : ℕ)
    (checked : n ≡ check_of h (release_lengths (memory h index count table [] stack [] link [])) i (ltb b h.pages)) where
  pub cut_refused : (e : Refusal) → number e ≡ n → CutOf h i b index count table stack link (Err e)
  cut_refused e is = record { any = λ helper cache ram. go (memory h index count table helper stack cache link ram) _ (is ∙ checked) }
    where
      go : (k : Memory) (m : ℕ) → number e ≡ m → CutOfIf m k i b (Err e)
      go k zero none = absurd (not_none e none)
      go k (suc m) is = is

  pub cut_asked : n ≡ 0 → (t a : ℕ) (r : Result (Option ℕ) Refusal) → t ≡ places (sizes_of h) → a ≡ place_of (sizes_of h) i b
      → r ≡ cut_for (bit_at index a) h count table stack t a → CutOf h i b index count table stack link r
  cut_asked none t a r et ea is = record { any = λ helper cache ram. rw (← checked, none) (rw (et, ea) at is) }

-- ---- a region to give back

-- it is the one at the page, has pages, and passed the test
pub record Gives (h : Head) (count table stack : List ℕ) (t a₀ a : ℕ) : Type 0 where
  pub start_is : a₀ ≡ a
  pub fits : cut_ok h table stack t a₀ (at count a₀) ≡ true

module _ (h : Head) (count table stack : List ℕ) (t a₀ a : ℕ) where
  gives_if : (n : ℕ) (b : Bool) → cut_ok h table stack t a₀ (at count a₀) ≡ b → cut_if n b a₀ ≡ Ok (Some a) → Gives h count table stack t a₀ a
  gives_if zero b f e = absurd (let z : ◌≡◌ {A = ℕ} 0 1 = cc in omega arith)
  gives_if (suc n) true f e = record { start_is = cc; fits = f }
  gives_if (suc n) false f e = absurd (let z : ◌≡◌ {A = ℕ} 0 1 = cc in omega arith)

  gives : (s : Bool) → cut_for s h count table stack t a₀ ≡ Ok (Some a) → Gives h count table stack t a₀ a
  gives true e = gives_if (at count a₀) _ refl e
  gives false e = absurd (let z : ◌≡◌ {A = ℕ} 0 1 = cc in omega arith)

top_readable : (table stack : List ℕ) (t a n : ℕ) → a + n ≤ t → at stack (a + n - 1) < t → t ≤ 262144 → t ≤ length table → t ≤ length stack
    → Top table stack a n
top_readable table stack t a zero room top few long-table long-stack = tt
top_readable table stack t a (suc n) room top few long-table long-stack =
    let last : a + suc n - 1 ≡ a + n = omega arith in
    (omega arith, omega arith, omega (arith, rw last at top))

-- what the check lets through
cut_passed : (n : ℕ) (k : Memory) (i b : ℕ) (r : Result (Option ℕ) Refusal) → refusal r ≡ 0 → CutOfIf n k i b r
    → (n ≡ 0) × (r ≡ cut_at k (place_of (sizes_of k.head) i b))
cut_passed zero k i b r ok cut = (refl, cut)
cut_passed (suc n) k i b r ok cut = absurd (omega arith)

pub splice_ready : (h : Head) (i b : ℕ) (index count table stack link : List ℕ) (a : ℕ) → CutOf h i b index count table stack link (Ok (Some a))
    → Spliceable h count table stack link a
splice_ready h i b index count table stack link a cut =
    let k = memory h index count table [] stack [] link [] in
    let z = sizes_of h in
    let (passes, from) = cut_passed _ k i b (Ok (Some a)) refl (cut.any [] [] []) in
    let y = checking.ready h (release_lengths k) i (page_inside k b) passes in
    let g = gives h count table stack (places z) (place_of z i b) a (bit_at index _) (sym from) in
    let (low, few, long-count, long-table, long-stack) = tables_known h (release_lengths k) i b y (places z) a refl (sym g.start_is) in
    let m = cut_says_lem h table stack (places z) a (at count a) (rw g.start_is at g.fits) in
    let long-link = y.lent.link refl in
    record {
      start = omega arith;
      on_stack = omega arith;
      oldest = omega (arith, m.bottom);
      frame = omega (arith, m.oldest);
      top = top_readable table stack (places z) a (at count a) m.room m.top few long-table long-stack;
      fits = omega (arith, m.few, (fit z y.sizes_ok_lem).few_frames);
    }

-- ---- the whole release

release_done : (n : ℕ) (k : Memory) (i b : ℕ) (r : Result (Option ℕ) Refusal) → CutOfIf n k i b r
    → Checked refused n (λ a k'. Releases k (place_of (sizes_of k.head) i b) a k') k (cut_says r k) (cut_leaves r k)
release_done zero k i b r w = record { answer_is = rw w; after_is = rw w }
release_done (suc n) k i b (Ok a) w = absurd (omega arith)
release_done (suc n) k i b (Err e) w = record { answer_is = ap (λ x. refused x) w; same = refl }

module _ (h : Head) (i b : ℕ) (index count table stack link : List ℕ) (r : Result (Option ℕ) Refusal) (cut : CutOf h i b index count table stack link r)
    (helper cache ram : List ℕ) where
  abbrev before : Memory
  before = memory h index count table helper stack cache link ram

  pub released : Did (release i b) before (cut_says r before) (cut_leaves r before)
  released =
      release_did i b before _ _
      (release_done (check_of h (release_lengths before) i (page_inside before b)) before i b r (cut.any helper cache ram))

pub did_splice : (h : Head) (i b : ℕ) (index count table stack link : List ℕ) (a : ℕ) → CutOf h i b index count table stack link (Ok (Some a))
    → (s : Out ℕ) (count' link' : List ℕ) → Splices h count table stack link a s count' link' → (helper cache ram : List ℕ)
    → Did (release i b) (memory h index count table helper stack cache link ram) (pages s.answer)
    (memory s.head index count' table helper stack cache link' ram)
did_splice h i b index count table stack link a cut s count' link' m helper cache ram =
    rw (m.pages_is, m.head_is, m.count_is, m.link_is) (released _ _ _ _ _ _ _ _ _ cut helper cache ram)
