-- From a plan to the whole touch: what carrying it out may take for granted, and that it keeps the promise.
use Rattle.std.specs.Prelude.{Result, Ok, Err}
use Rattle.machine.specs.declared.RefusedAfter.{RefusedAfter}
use Rattle.refusals.specs.Refusals.{number}
use Rattle.std.specs.Prelude.{◌≡◌, refl, List, ℕ, ◌*◌, ◌<◌, ltb, replicate}
use Rattle.std.proofs.Common.{sym, ap, ◌∙◌, subst, arith, ltb-true}
use Rattle.std.proofs.lemmas.Bool.{false≢true}
use Rattle.std.proofs.lemmas.List.{length-replicate}
use Rattle.machine.specs.declared.PageCall.TheVariants.{Touch}
use Rattle.machine.specs.declared.Touched.{Touched}
use Rattle.machine.specs.declared.Touched.TheVariants as touched_is
use Rattle.machine.specs.Answers.{touched_says}
use Rattle.machine.specs.Machine.{Sizes, places, place_of, Lent, every_table, touch, asked, Answer, old, new, refused_after, refusal_of, zeroed}
use Rattle.machine.specs.Machine as machine
use Rattle.memory.specs.Memory.{Memory, memory, sizes_of, lengths}
use Rattle.memory.specs.declared.Head.{Head}
use Rattle.pool.specs.declared.Taken.{Taken}
use Rattle.lookup.specs.declared.Sight.TheVariants as sight_is
use Rattle.planning.specs.declared.Plan.{Plan}
use Rattle.planning.specs.declared.Plan.TheVariants as plan_is
use Rattle.promise.specs.Did.{Did}
use Rattle.promise.proofs.Refuses.{own_answer}
use Rattle.laws.specs.Models.{check_of, every_length}
use Rattle.planning.specs.Fits.{Planned}
use Rattle.planning.proofs.Planning.{new_inside, plan_maps, fit_top}
use Rattle.paging.specs.Models.{plan_says, plan_leaves, Touches}
use Rattle.lookup.specs.Models.{SeenAt}
use Rattle.lookup.specs.Ready.{SeenOf}
use Rattle.laws.specs.Checking as checking
use Rattle.laws.specs.Passing.{page_passes}
use Rattle.laws.specs.Checks.{page_check}
use Rattle.laws.specs.Told.{early_refused}
use Rattle.paging.proofs.Touched.{touch_did}
use Rattle.promise.specs.Shown.{frame_of}
use Rattle.lookup.proofs.Sights.{frame_seen, lookable, still_ready, ready_long}
use Rattle.entries.specs.Fits.{Mappable, Mapped}
use Rattle.entries.proofs.Mappable.{inside_mappable}
use Rattle.paging.specs.Fits.{Touchable, RamLong}

-- ---- a touch that passed the checks

module _ (h : Head) (i b : ℕ) (index count table helper stack cache link ram : List ℕ) (no : ℕ)
    (checked : no ≡ check_of h (every_length (memory h index count table helper stack cache link ram)) i (ltb b h.pages)) where
  pub touch_ready : no ≡ 0 → Touchable h i b index count table helper stack cache link × RamLong h ram
  touch_ready pass =
      let y = checking.ready h _ i _ (sym checked ∙ pass) in (
        record {
          ready = lookable h i index count table helper stack cache _ _ y.sizes_ok_lem y.space y.lent b (ltb-true b h.pages y.is_inside);
          link_long = y.lent.link refl;
        },
        y.lent.ram refl,
      )

  pub touch_refused : (no ≡ 0 → ⊥) → let k = memory h index count table helper stack cache link ram in Did (touch i b) k (refused_after no 0) k
  touch_refused some = let k = memory h index count table helper stack cache link ram in early_refused (touch i b) k no
      (checked ∙ page_check k i b Touch (every_length k) refl) some

-- a touch changes neither sizes nor lengths
pub still_touchable : (k k' : Memory) → sizes_of k'.head ≡ sizes_of k.head → lengths k' ≡ lengths k → {i b : ℕ}
    → Touchable k.head i b k.index k.count k.table k.helper k.stack k.cache k.link
    → Touchable k'.head i b k'.index k'.count k'.table k'.helper k'.stack k'.cache k'.link
still_touchable k k' same long y =
    record {
      ready = still_ready k k' same long y.ready;
      link_long = omega (arith, ap (λ (z : Sizes). z.frames) same, ap (λ (l : Lent). l.link) long, y.link_long);
    }

-- ---- the whole touch

module _ (h : Head) (i b : ℕ) (index count table helper stack cache link : List ℕ) (y : Touchable h i b index count table helper stack cache link) (r : Result Plan RefusedAfter)
    (planned : Planned h i b index count table helper stack cache r) where
  passes : (ram : List ℕ) → RamLong h ram → asked (sizes_of h) (touch i b (lengths (memory h index count table helper stack cache link ram))) ≡ 0
  passes ram long =
      let g = y.ready in
      page_passes (sizes_of h) Touch i b _ g.sizes_ok_lem g.space g.page
      (ready_long h i b index count table helper stack cache g link ram _ (λ _. y.link_long) (λ _. long))

  pub touch_mappable : (a c : ℕ) → r ≡ Ok (plan_is.New a c) → (p : ℕ) → p ≡ place_of (sizes_of h) i b → Mappable h count table helper stack cache link a p
  touch_mappable a c is p ep =
      let z = sizes_of h in
      let ram : List ℕ = replicate {A = ℕ} (z.frames * z.page) 0 in
      let k = memory h index count table helper stack cache link ram in
      let known = y.ready in
      let m = plan_maps h count stack (places z) a c planned.sight (sym planned.is ∙ is) in
      let seen : SeenAt k i b (sight_is.Unmapped a c) = rw m.seen_as at planned.seen in
      let g = new_inside k i b (passes ram (omega (arith, length-replicate {A = ℕ} (z.frames * z.page) 0))) a c seen m.some_left m.fits in
      rw ep
      (inside_mappable k _ a known.sizes_ok_lem
      (ready_long h i b index count table helper stack cache known link ram every_table (λ _. y.link_long) (λ e. absurd (false≢true e)))
      g (fit_top h count stack (places z) a m.fits))

  module _ (ram : List ℕ) (long : RamLong h ram) where
    abbrev before : Memory
    before = memory h index count table helper stack cache link ram

    touched : (a : Answer) (k' : Memory) → (a ≡ plan_says r before) × (k' ≡ plan_leaves r before (place_of (sizes_of h) i b)) → Did (touch i b) before a k'
    touched a k' (says, leaves) =
        touch_did i b before a k'
        (checking.checked_yes (refusal_of machine.touched) _ 0 (Touches before i b) before k' a (sym (page_check before i b Touch (every_length before) refl ∙ passes ram long)) refl
        (record { sight = planned.sight; seen = planned.seen; answer_is = rw planned.is at says; after_is = rw planned.is at leaves }))

    pub did_old : (f : ℕ) → r ≡ Ok (plan_is.Old f) → Did (touch i b) before (old f) before
    did_old f is = touched (old f) before (rw is (refl, refl))

    pub did_refuse : (e : RefusedAfter) → r ≡ Err e → Did (touch i b) before (refused_after (number e.refusal) e.words) before
    did_refuse e is = touched (refused_after (number e.refusal) e.words) before (rw is (refl, refl))

    pub did_new : (a c p : ℕ) (t : Taken) (count' table' helper' stack' cache' link' : List ℕ) → r ≡ Ok (plan_is.New a c) → p ≡ place_of (sizes_of h) i b
        → Mapped h count table helper stack cache link a p t count' table' helper' stack' cache' link'
        → Did (touch i b) before (new t.frame c)
        (memory t.head index count' table' helper' stack' cache' link' (zeroed (sizes_of h) t.frame ram))
    did_new a c p t count' table' helper' stack' cache' link' is place m =
        rw (m.count_is, m.table_is, m.helper_is, m.stack_is, m.cache_is, m.link_is, m.first, place) (touched _ _ (rw is (refl, refl)))

-- the short way: a page that is seen with a frame is told it, and nothing changes
pub did_seen : (h : Head) (i b : ℕ) (index count table helper stack cache link : List ℕ) → Touchable h i b index count table helper stack cache link
    → (f : ℕ) → SeenOf h i b index count table helper stack cache (sight_is.Mapped f)
    → (ram : List ℕ) → RamLong h ram → let k = memory h index count table helper stack cache link ram in Did (touch i b) k (old f) k
did_seen h i b index count table helper stack cache link y f seen ram long =
    did_old h i b index count table helper stack cache link y (Ok (plan_is.Old f)) (record { sight = sight_is.Mapped f; seen = seen; is = refl }) ram long f refl

-- a resident page is seen with its frame
pub did_resident : (h : Head) (i b : ℕ) (index count table helper stack cache link : List ℕ) → Touchable h i b index count table helper stack cache link
    → (f : ℕ)
    → f ≡ frame_of h i b count table helper stack cache → f < h.frames
    → (ram : List ℕ) → RamLong h ram → let k = memory h index count table helper stack cache link ram in Did (touch i b) k (old f) k
did_resident h i b index count table helper stack cache link y f is below ram long =
    did_seen h i b index count table helper stack cache link y f (frame_seen h i b index count table helper stack cache is below) ram long

-- the frame of a new page is one that there is
pub new_below : (i b : ℕ) (k : Memory) (x : Result Touched RefusedAfter) (k' : Memory) → Did (touch i b) k (touched_says x) k' → (f w : ℕ) → x ≡ Ok (touched_is.New f w)
    → f < (sizes_of k.head).frames
new_below i b k x k' d f w e = (own_answer (touch i b) k (new f w) k' (subst (λ (y : Result Touched RefusedAfter). Did (touch i b) k (touched_says y) k') e d)).1
