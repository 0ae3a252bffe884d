-- What a plan may be on any memory: it maps only a page that isn't shown, inside the tables, and refuses with a number of touch. From what is seen to the plan.
use Rattle.std.specs.Prelude.{◌≡◌, refl, Bool, true, false, cond, ◌&&◌, List, [], ◌∷◌, ℕ, zero, suc, ◌+◌, ◌≤◌, ◌<◌, eqb, leb, ltb, length, Option, Some, None, IfSome, Result, Ok, Err}
use Rattle.std.proofs.Common.{subst, inl, inr, arith, ltb-true, leb-false}
use Rattle.extent.specs.Checks as extent
use Rattle.layer.specs.declared.Greatest.{Greatest}
use Rattle.index.specs.Promise.{Bounded}
use Rattle.places.specs.Places.{size}
use Rattle.machine.specs.declared.PageCall.TheVariants.{Touch}
use Rattle.machine.specs.Machine.{places, sizes_ok, place_of, touch, asked}
use Rattle.machine.proofs.Laws.Sizes.{both, fit, place_below}
use Rattle.memory.specs.Memory.{Memory, memory, at, sizes_of, lengths}
use Rattle.memory.specs.declared.Head.{Head}
use Rattle.lookup.specs.declared.Sight.{Sight}
use Rattle.lookup.specs.declared.Sight.TheVariants as sight_is
use Rattle.refusals.specs.Refusals.{number}
use Rattle.machine.specs.declared.RefusedAfter.{RefusedAfter}
use Rattle.planning.specs.declared.Plan.{Plan}
use Rattle.planning.specs.declared.Plan.TheVariants as plan_is
use Rattle.promise.specs.Did.{Among}
use Rattle.promise.specs.Shown.{resident_ok, Shown}
use Rattle.lookup.specs.Models.{sight_mapped, sight_in, sight_by, sight_found, SeenIf, Seen, SeenAt}
use Rattle.pool.specs.Models.{empty_pool, next_ok, taken_from, taken}
use Rattle.planning.specs.Models.{top_ok, fit_ok, plan_if, plan_for, plan_of}
use Rattle.laws.specs.Refusals.{admitted, check_passes}
use Rattle.lookup.proofs.Looking.{seen_below}
use Rattle.lookup.specs.Ready.{Ready, SeenOf}
use Rattle.planning.specs.Fits.{InReach, Planned}

-- ---- where a new page's words lie

-- page p of the region at a: its words are below T, the frame below F
pub record Inside (k : Memory) (p a : ℕ) : Type 0 where
  pub place : p < places (sizes_of k.head)
  pub start : a < places (sizes_of k.head)
  pub top : a + at k.count a < places (sizes_of k.head)
  pub frame : (taken k.link k.head).frame < k.head.frames

-- a start that is seen lies at the page or before it: only a find sees one
found_low : (t lo p a c : ℕ) (g : Greatest) → Bounded 0 t p (Ok g) → sight_is.Unmapped a c ≡ sight_found lo g → a ≤ p
found_low t lo p a c g l e = by g.place l.0 e
  where
    go : (b : Bool) (q : ℕ) → q ≤ p → sight_is.Unmapped a c ≡ sight_in b q g.words → a ≤ p
    go true q l e = let same : a ≡ q = cc in omega (arith, l)
    go false q l e = absurd (let z : ◌≡◌ {A = ℕ} 0 1 = cc in omega arith)

    by : (o : Option ℕ) → IfSome o (λ q. q ≤ p) → sight_is.Unmapped a c ≡ sight_by lo o g.words → a ≤ p
    by (Some q) l e = go (leb lo q) q l e
    by None l e = absurd (let z : ◌≡◌ {A = ℕ} 0 1 = cc in omega arith)

seen_low : (f t lo p : ℕ) (ws table : List ℕ) (b : Bool) (a c : ℕ) → extent.check (length ws) t p ≡ 0 → SeenIf b f t lo p ws table (sight_is.Unmapped a c)
    → a ≤ p
seen_low f t lo p ws table true a c e seen = go (ltb (at table p) f) seen
  where
    go : (b : Bool) → sight_is.Unmapped a c ≡ sight_mapped (at table p) b → a ≤ p
    go true q = absurd (let z : ◌≡◌ {A = ℕ} 0 1 = cc in omega arith)
    go false q = absurd (let z : ◌≡◌ {A = ℕ} 0 1 = cc in omega arith)
seen_low f t lo p ws table false a c e seen =
    found_low t lo p a c seen.found (subst (λ (n : ℕ). Bounded n t p (Ok seen.found)) e seen.sought.any) seen.seen

-- the frame that is taken is a frame
taken_low : (link : List ℕ) (h : Head) (n : ℕ) → eqb n 0 && leb h.frames h.fresh ≡ false → next_ok h.frames h.first n ≡ true
    → (taken_from link h n).frame < h.frames
taken_low link h zero some_left e = leb-false h.frames h.fresh some_left
taken_low link h (suc n) some_left e = ltb-true h.first h.frames e

-- a start that is seen is a place
pub seen_inside : (k : Memory) (i b : ℕ)
    → (let z = sizes_of k.head in (sizes_ok z ≡ true) → size (places z) ≤ length k.index → place_of z i b < places z → (a c : ℕ)
    → SeenAt k i b (sight_is.Unmapped a c) → a < places z)
unfolding Seen
seen_inside k i b ok long place a c seen =
    let z = sizes_of k.head in
    let p = place_of z i b in
    let room = check_passes z ok (length k.index) long p place in
    let low = seen_low z.frames (places z) (place_of z i 0) p k.index k.table (resident_ok k.count k.helper k.stack k.cache (places z) p)
    a c room seen in
    omega arith

pub new_inside : (k : Memory) (i b : ℕ) → asked (sizes_of k.head) (touch i b (lengths k)) ≡ 0 → (a c : ℕ) → SeenAt k i b (sight_is.Unmapped a c)
    → empty_pool k.head ≡ false
    → fit_ok k.head k.count k.stack (places (sizes_of k.head)) a ≡ true → Inside k (place_of (sizes_of k.head) i b) a
unfolding empty_pool fit_ok
new_inside k i b passes a c seen some_left fits =
    let z = sizes_of k.head in
    let g = admitted z Touch i b (lengths k) passes in
    let t₂ = both _ _ fits in
    let t₁ = both (ltb (a + at k.count a) (places z)) _ t₂.0 in
    record {
      place = g.place;
      start = seen_inside k i b g.sizes_ok_lem (g.lent.index refl) g.place a c seen;
      top = ltb-true (a + at k.count a) (places z) t₁.0;
      frame = taken_low k.link k.head k.head.many some_left t₂.1;
    }

-- ---- what a plan is

-- a page that the tables show is not planned to be mapped
unmapped_hidden : (k : Memory) (i b a c : ℕ) → SeenAt k i b (sight_is.Unmapped a c) → Shown k i b → ⊥
unfolding Seen
unmapped_hidden k i b a c seen shown =
    let z = sizes_of k.head in
    go (resident_ok k.count k.helper k.stack k.cache (places z) (place_of z i b)) seen shown
  where
    in_table : (f : ℕ) (x : Bool) → sight_is.Unmapped a c ≡ sight_mapped f x → ⊥
    in_table f true e = let z : ◌≡◌ {A = ℕ} 0 1 = cc in omega arith
    in_table f false e = let z : ◌≡◌ {A = ℕ} 0 1 = cc in omega arith

    go : (x : Bool)
        → (let z = sizes_of k.head in
        SeenIf x z.frames (places z) (place_of z i 0) (place_of z i b) k.index k.table (sight_is.Unmapped a c)
        → cond x (at k.table (place_of z i b)) z.frames < k.head.frames → ⊥)
    go true seen l =
        let f = at k.table (place_of (sizes_of k.head) i b) in
        in_table f (ltb f k.head.frames) seen
    go false seen l = omega arith

pub new_hidden : (k : Memory) (i b : ℕ) (s : Sight) → SeenAt k i b s → (a c : ℕ) → plan_of k s ≡ Ok (plan_is.New a c) → Shown k i b → ⊥
new_hidden k i b (sight_is.Mapped f) seen a c e = absurd (let z : ◌≡◌ {A = ℕ} 0 1 = cc in omega arith)
new_hidden k i b (sight_is.Unmapped a' c') seen a c e = unmapped_hidden k i b a' c' seen
new_hidden k i b (sight_is.Outside c') seen a c e = absurd (let z : ◌≡◌ {A = ℕ} 0 1 = cc in omega arith)
new_hidden k i b sight_is.Broken seen a c e = absurd (let z : ◌≡◌ {A = ℕ} 0 1 = cc in omega arith)

-- a plan names a frame that there is, refuses with a number of touch, and maps only inside the tables
abbrev pub Sane : Memory → ℕ → Result Plan RefusedAfter → Type 0
Sane k p (Ok (plan_is.Old f)) = f < k.head.frames
Sane k p (Ok (plan_is.New a c)) = Inside k p a
Sane k p (Err e) = Among (4 ∷ 8 ∷ 9 ∷ []) (number e.refusal)

pub plan_sane : (k : Memory) (i b : ℕ) → asked (sizes_of k.head) (touch i b (lengths k)) ≡ 0 → (s : Sight) → SeenAt k i b s
    → Sane k (place_of (sizes_of k.head) i b) (plan_of k s)
plan_sane k i b e (sight_is.Mapped f) seen = seen_below k i b f seen
plan_sane k i b e (sight_is.Outside c) seen = inl refl
plan_sane k i b e sight_is.Broken seen = inr (inr (inl refl))
plan_sane k i b e (sight_is.Unmapped a c) seen = go (empty_pool k.head) (fit_ok k.head k.count k.stack (places (sizes_of k.head)) a) refl refl
  where
    go : (empty fits : Bool) → empty_pool k.head ≡ empty → fit_ok k.head k.count k.stack (places (sizes_of k.head)) a ≡ fits
        → Sane k (place_of (sizes_of k.head) i b) (plan_if empty fits a c)
    go true fits l f = inr (inl refl)
    go false true l f = new_inside k i b e a c seen l f
    go false false l f = inr (inr (inl refl))

-- ---- a plan to map a page

-- the page is absent, the pool has a frame, and the region's words fit
pub record Maps (h : Head) (count stack : List ℕ) (t a c : ℕ) (s : Sight) : Type 0 where
  pub seen_as : s ≡ sight_is.Unmapped a c
  pub some_left : empty_pool h ≡ false
  pub fits : fit_ok h count stack t a ≡ true

pub plan_maps : (h : Head) (count stack : List ℕ) (t a c : ℕ) (s : Sight) → plan_for h count stack t s ≡ Ok (plan_is.New a c) → Maps h count stack t a c s
plan_maps h count stack t a c (sight_is.Mapped f) e = absurd (let z : ◌≡◌ {A = ℕ} 0 1 = cc in omega arith)
plan_maps h count stack t a c (sight_is.Outside w) e = absurd (let z : ◌≡◌ {A = ℕ} 0 1 = cc in omega arith)
plan_maps h count stack t a c sight_is.Broken e = absurd (let z : ◌≡◌ {A = ℕ} 0 1 = cc in omega arith)
plan_maps h count stack t a c (sight_is.Unmapped q w) e = go (empty_pool h) (fit_ok h count stack t q) refl refl e
  where
    go : (empty fits : Bool) → empty_pool h ≡ empty → fit_ok h count stack t q ≡ fits → plan_if empty fits q w ≡ Ok (plan_is.New a c)
        → Maps h count stack t a c (sight_is.Unmapped q w)
    go true fits l f e = absurd (let z : ◌≡◌ {A = ℕ} 0 1 = cc in omega arith)
    go false false l f e = absurd (let z : ◌≡◌ {A = ℕ} 0 1 = cc in omega arith)
    go false true l f e =
        let start : q ≡ a = cc in
        let words : w ≡ c = cc in
        record { seen_as = rw (start, words); some_left = l; fits = rw start at f }

-- the newest page of a region that fits is a place
pub fit_top : (h : Head) (count stack : List ℕ) (t a : ℕ) → fit_ok h count stack t a ≡ true → top_ok stack t a (at count a) ≡ true
unfolding fit_ok
fit_top h count stack t a e = (both (ltb (a + at count a) t) _ (both _ _ e).0).1

-- ---- the plan of a page, from what is seen of it

module _ (h : Head) (i b : ℕ) (index count table helper stack cache : List ℕ) (s : Sight) (seen : SeenOf h i b index count table helper stack cache s) where
  -- a start that is seen is a place
  pub seen_reach : Ready h i b index count table helper stack cache → (t : ℕ) → t ≡ places (sizes_of h) → InReach s t count stack
  seen_reach y t e = go s seen
    where
      go : (s : Sight) → SeenOf h i b index count table helper stack cache s → InReach s t count stack
      go (sight_is.Mapped f) seen = tt
      go (sight_is.Outside c) seen = tt
      go sight_is.Broken seen = tt
      go (sight_is.Unmapped a c) seen =
          let z = sizes_of h in
          rw e (
            seen_inside (memory h index count table helper stack cache [] []) i b y.sizes_ok_lem y.index_long (place_below z i b y.space y.page) a c
                seen,
            (fit z y.sizes_ok_lem).few_places,
            y.count_long,
            y.stack_long,
          )

  pub planned_as : (t : ℕ) (r : Result Plan RefusedAfter) → t ≡ places (sizes_of h) → r ≡ plan_for h count stack t s → Planned h i b index count table helper stack cache r
  planned_as t r et is = record { sight = s; seen = seen; is = rw et at is }
