-- From the look at a span's first page and the free frames to the number that settles a write.
use Rattle.std.specs.Prelude.{Result, Ok, Err}
use Rattle.machine.specs.declared.RefusedAfter.{RefusedAfter}
use Rattle.refusals.specs.Refusals.{number, refusal}
use Rattle.refusals.specs.declared.Refusal.{Refusal}
use mathlib.Core.Path.{◌≡◌, refl, sym, ap, ◌∙◌}
use mathlib.Core.Bool.{true, false}
use mathlib.Core.Logic.{◌⊎◌, ⊎_elim, inl, inr}
use mathlib.Core.List.{List, [], ◌∷◌}
use Prim.Native.Nat.{ℕ, ◌≤◌, ◌<◌}
use native.Mathlib.Omega.{arith}
use borrow.Author.Tests.{lt-ltb, le-ltb}
use lib.Dec.{ltb}
use lib.ListN.{length}
use Rattle.machine.specs.Machine.{Sizes, place_of, State, Lent, Page, outside, unmapped, mapped, page_of, words_at, look, free, asked, frames, look_page}
use Rattle.machine.specs.Machine.{absence, is_outside, accepted}
use Rattle.machine.specs.Answers.{looked_says, free_says}
use Rattle.machine.specs.declared.Looked.{Looked}
use Rattle.machine.specs.declared.Looked.TheVariants as looked_is
use Rattle.memory.specs.Memory.{Memory, memory, sizes_of, lengths}
use Rattle.memory.specs.declared.Head.{Head}
use Rattle.promise.specs.Holds.{Holds}
use Rattle.promise.specs.Did.{Among, Later, Did}
use Rattle.laws.specs.Refusals.{passed_step}
use Rattle.laws.specs.Found.{Found, looked_later, page_found}
use Rattle.lookup.specs.Ready.{Ready}
use Rattle.lookup.proofs.Sights.{look_asked}
use Rattle.spans.specs.Spans.{absence_of}
use Rattle.surveying.specs.Surveys.{write_refusal, Settled}
use Rattle.surveying.specs.Regions.{outside_first}

-- ---- one look

-- what a look's answer says of the page
absence_is : (m : State) (p : ℕ) (found : Result Looked RefusedAfter) → Found m p found → absence_of found ≡ absence (page_of m p)
absence_is m p found e = go found (page_of m p) e
  where
    go : (found : Result Looked RefusedAfter) (g : Page) → looked_says found ≡ look_page (words_at m p) g → absence_of found ≡ absence g
    go (Ok (looked_is.Resident f)) outside e = absurd (let z : ◌≡◌ {A = ℕ} 0 1 = cc in omega arith)
    go (Ok (looked_is.Resident f)) (unmapped a) e = absurd (let z : ◌≡◌ {A = ℕ} 0 1 = cc in omega arith)
    go (Ok (looked_is.Resident f)) (mapped a g) e = refl
    go (Ok (looked_is.Absent v)) outside e = absurd (let z : ◌≡◌ {A = ℕ} 0 1 = cc in omega arith)
    go (Ok (looked_is.Absent v)) (unmapped a) e = refl
    go (Ok (looked_is.Absent v)) (mapped a g) e = absurd (let z : ◌≡◌ {A = ℕ} 0 1 = cc in omega arith)
    go (Err x) outside e = let same : number x.refusal ≡ 4 = cc in same
    go (Err x) (unmapped a) e = absurd (let z : ◌≡◌ {A = ℕ} 0 1 = cc in omega arith)
    go (Err x) (mapped a g) e = absurd (let z : ◌≡◌ {A = ℕ} 0 1 = cc in omega arith)

refused_late : (z : Sizes) (i b : ℕ) (l : Lent) (r : Result Looked RefusedAfter) → Later z (look i b l) (looked_says r) → (absence_of r ≡ 0 → ⊥) → (absence_of r ≡ 10 → ⊥)
    → Among (4 ∷ 9 ∷ []) (absence_of r)
refused_late z i b l (Ok (looked_is.Resident f)) g d t = absurd (d refl)
refused_late z i b l (Ok (looked_is.Absent w)) g d t = absurd (t refl)
refused_late z i b l (Err x) g d t = g.0

-- a look's number is one of a write
of_write : (n : ℕ) → Among (4 ∷ 9 ∷ []) n → Among (4 ∷ 8 ∷ 9 ∷ []) n
of_write n (inl e) = inl e
of_write n (inr more) = inr (inr more)

page_inside_lem : (g : Page) → (absence g ≡ 0) ⊎ (absence g ≡ 10) → is_outside g ≡ false
page_inside_lem outside e = absurd (⊎_elim (λ z. omega arith) (λ z. omega arith) e)
page_inside_lem (unmapped a) e = refl
page_inside_lem (mapped a f) e = refl

page_outside : (g : Page) → (absence g ≡ 0 → ⊥) → (absence g ≡ 10 → ⊥) → (is_outside g ≡ true) × (absence g ≡ 4)
page_outside outside d t = (refl, refl)
page_outside (unmapped a) d t = absurd (t refl)
page_outside (mapped a f) d t = absurd (d refl)

-- a look that is not refused is of a page that has a region
pub in_region : (found : Result Looked RefusedAfter) (l : Looked) → found ≡ Ok l → (absence_of found ≡ 0) ⊎ (absence_of found ≡ 10)
in_region found (looked_is.Resident f) is = inl (ap absence_of is)
in_region found (looked_is.Absent w) is = inr (ap absence_of is)

-- ---- the first page

module _ (h : Head) (i first absent : ℕ) (index count table helper stack cache : List ℕ) where
  abbrev lent : List ℕ → List ℕ → Memory
  lent link ram = memory h index count table helper stack cache link ram

  -- the look at it, and the number of its absence
  pub record LookedUp (no : ℕ) : Type 0 where
    pub ready : Ready h i first index count table helper stack cache
    pub found : Result Looked RefusedAfter
    pub looks : (link ram : List ℕ) → Did (look i first) (lent link ram) (looked_says found) (lent link ram)
    pub no_is : no ≡ absence_of found

  module _ {no : ℕ} (look-of : LookedUp no) where
    passes_look : (link ram : List ℕ) → asked (sizes_of h) (look i first (lengths (lent link ram))) ≡ 0
    passes_look = look_asked h i first index count table helper stack cache look-of.ready

    told : (link ram : List ℕ) (m : State) → Holds m (lent link ram) → no ≡ absence (page_of m (place_of m.sizes i first))
    told link ram m H =
        look-of.no_is
        ∙ absence_is m _ look-of.found (page_found m (lent link ram) H i first (passes_look link ram) look-of.found (look-of.looks link ram))

    settled_outside : (no ≡ 0 → ⊥) → (no ≡ 10 → ⊥) → Settled h i first absent index count table helper stack cache no
    settled_outside d t =
        let late = looked_later i first (lent [] []) _ (passes_look [] []) (look-of.looks [] []) in
        record {
          late = λ _.
              of_write no
              (rw look-of.no_is (refused_late (sizes_of h) i first (lengths (lent [] [])) look-of.found late (λ e. d (look-of.no_is ∙ e)) (λ e. t (look-of.no_is ∙ e))));
          honest = λ link ram m H n pos l so-many.
              let e = told link ram m H in
              let s = page_outside (page_of m (place_of m.sizes i first)) (λ q. d (e ∙ q)) (λ q. t (e ∙ q)) in
              rw (outside_first m i first n pos l, s.0) (e ∙ s.1);
        }

    -- a look that is refused settles it
    pub settled_refused : (y : RefusedAfter) → look-of.found ≡ Err y → no ≡ number y.refusal → Settled h i first absent index count table helper stack cache no
    settled_refused y is told_as =
        let late = rw is at (looked_later i first (lent [] []) _ (passes_look [] []) (look-of.looks [] [])) in
        settled_outside (λ e. low (late.0) (told_as) e) (λ e. ten (late.0) (told_as) e)
      where
        low : Among (4 ∷ 9 ∷ []) (number y.refusal) → no ≡ number y.refusal → no ≡ 0 → ⊥
        low (inl e) t z = omega arith
        low (inr (inl e)) t z = omega arith
        low (inr (inr bad)) t z = absurd bad

        ten : Among (4 ∷ 9 ∷ []) (number y.refusal) → no ≡ number y.refusal → no ≡ 10 → ⊥
        ten (inl e) t z = omega arith
        ten (inr (inl e)) t z = omega arith
        ten (inr (inr bad)) t z = absurd bad

    -- ---- a first page that has a region, and the free frames

    module _ (in_region : (no ≡ 0) ⊎ (no ≡ 10)) (r : Result ℕ Refusal)
        (frees : (link ram : List ℕ) → Did (λ _. free) (lent link ram) (free_says r) (lent link ram)) where
      passes_free : asked (sizes_of h) free ≡ 0
      unfolding asked
      passes_free = rw look-of.ready.sizes_ok_lem

      pool_is : (link ram : List ℕ) (m : State) → Holds m (lent link ram) → free_says r ≡ frames (length m.pool)
      unfolding accepted
      pool_is link ram m H =
          ((frees link ram).honest m H).answer_is
          ∙ ap (λ o. o.answer) (passed_step m free (ap (λ (z : Sizes). asked z free) (sym H.sizes_are) ∙ passes_free))

      -- all pages have one, and the pool decides
      settled_if : (x : ℕ) → ((x ≡ 0 → ⊥) → Among (4 ∷ 8 ∷ 9 ∷ []) x)
          → ((m : State) → free_says r ≡ frames (length m.pool) → x ≡ write_refusal false (ltb (length m.pool) absent))
          → Settled h i first absent index count table helper stack cache x
      settled_if x late is =
          record {
            late = late;
            honest = λ link ram m H n pos l so-many.
                let e = told link ram m H in
                let inside = outside_first m i first n pos l
                ∙ page_inside_lem (page_of m (place_of m.sizes i first)) (⊎_elim (λ z. inl (sym e ∙ z)) (λ z. inr (sym e ∙ z)) in_region) in
                rw (inside, ← so-many inside) (is m (pool_is link ram m H));
          }

      pub settled_short : (n : ℕ) → r ≡ Ok n → n < absent → Settled h i first absent index count table helper stack cache 8
      settled_short n e l =
          settled_if 8 (λ _. inr (inl refl)) (λ m p. let same : length m.pool ≡ n = cc in rw (same, lt-ltb n absent l))

      pub settled_enough : (n : ℕ) → r ≡ Ok n → absent ≤ n → Settled h i first absent index count table helper stack cache 0
      settled_enough n e l =
          settled_if 0 (λ d. absurd (d refl)) (λ m p. let same : length m.pool ≡ n = cc in rw (same, le-ltb n absent l))

      -- a pool that no call left so
      pub settled_broken : (y : Refusal) → r ≡ Err y → Settled h i first absent index count table helper stack cache (number y)
      settled_broken y e =
          let a = rw (passes_free, e) at (frees [] []).asks in
          settled_if (number y) (λ _. inr (inr a.0)) (λ m p. absurd (let z : ◌≡◌ {A = ℕ} 0 1 = cc in omega arith))
