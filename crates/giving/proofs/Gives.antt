-- From what is seen of the page to the whole hand-back: what carrying it out may take for granted, and that it keeps the promise.
use mathlib.Core.Path.{◌≡◌, refl, sym, ◌∙◌}
use mathlib.Core.Bool.{Bool, true, false}
use mathlib.Core.List.{List, []}
use Prim.Native.Nat.{ℕ}
use borrow.Author.Tests.{ltb-true}
use lib.Dec.{ltb}
use Rattle.machine.specs.declared.PageCall.TheVariants.{GiveBack}
use Rattle.machine.specs.Machine.{places, place_of, give_back, handed, refused}
use Rattle.machine.specs.Answers.{given_back_says}
use Rattle.machine.proofs.Laws.Sizes.{fit, place_below}
use Rattle.memory.specs.Memory.{memory, sizes_of}
use Rattle.memory.specs.declared.Head.{Head}
use Rattle.memory.specs.declared.Out.{Out}
use Rattle.std.specs.Prelude.{Result}
use Rattle.refusals.specs.Refusals.{refusal}
use Rattle.refusals.specs.declared.Refusal.{Refusal}
use Rattle.lookup.specs.declared.Sight.{Sight}
use Rattle.lookup.specs.declared.Sight.TheVariants.{Mapped}
use Rattle.lookup.specs.Ready.{Ready, SeenOf}
use Rattle.lookup.specs.Lookup.{resident_agrees}
use Rattle.lookup.proofs.Looking.{seen_frame}
use Rattle.lookup.proofs.Sights.{lookable}
use Rattle.promise.specs.Did.{Did}
use Rattle.laws.specs.Models.{check_of, table_lengths}
use Rattle.laws.specs.Checking as checking
use Rattle.laws.specs.Checks.{page_check}
use Rattle.laws.specs.Told.{early_refused, told_refused}
use Rattle.giving.specs.Models.{leave_ok, leave_ok_in, give_says, give_leaves, Gives}
use Rattle.giving.specs.Fits.{Seated, HandedIf, Handed}
use Rattle.giving.proofs.Giving.{give_did}

module _ (h : Head) (i b : ℕ) (index count table helper stack cache link : List ℕ) where
  -- the number of the code's check
  abbrev pub number : ℕ
  number = check_of h (table_lengths (memory h index count table helper stack cache link [])) i (ltb b h.pages)

  pub give_early : (r : Result (Unit {0}) Refusal) → refusal r ≡ number → (refusal r ≡ 0 → ⊥) → (ram : List ℕ)
      → let k = memory h index count table helper stack cache link ram in Did (give_back i b) k (given_back_says r) k
  give_early r checked fails ram =
      let k = memory h index count table helper stack cache link ram in
      rw (told_refused (λ _. handed) r fails)
      (early_refused (give_back i b) k (refusal r) (checked ∙ page_check k i b GiveBack (table_lengths k) refl) fails)

  -- ---- the checks passed

  module _ (passes : number ≡ 0) where
    known : checking.CheckPassed h (table_lengths (memory h index count table helper stack cache link [])) i (ltb b h.pages)
    known = checking.ready h _ i _ passes

    pub page_ready : Ready h i b index count table helper stack cache
    page_ready =
        lookable h i index count table helper stack cache _ _ known.sizes_ok_lem known.space known.lent b (ltb-true b h.pages known.is_inside)

    -- a page that was found resident
    pub seated : (f : ℕ) → SeenOf h i b index count table helper stack cache (Mapped f) → (t p : ℕ) → t ≡ places (sizes_of h)
        → p ≡ place_of (sizes_of h) i b → Seated h t p count table helper stack cache link
    seated f seen t p et ep =
        let y = page_ready in
        let x = seen_frame (memory h index count table helper stack cache link []) i b f seen in
        rw (et, ep)
        (record {
          tabled =
              record {
                inside = place_below (sizes_of h) i b y.space y.page;
                few = (fit (sizes_of h) y.sizes_ok_lem).few_places;
                count_long = y.count_long;
                helper_long = y.helper_long;
                stack_long = y.stack_long;
                cache_long = y.cache_long;
              };
          table_long = y.table_long;
          link_long = known.lent.link refl;
          agrees = resident_agrees count helper stack cache (places (sizes_of h)) (place_of (sizes_of h) i b) x.resident;
          frame = rw (← x.frame_is) x.below;
          few = (fit (sizes_of h) y.sizes_ok_lem).few_frames;
        })

    -- what is seen decides, and for a resident page the test
    pub gives : (s : Sight) → SeenOf h i b index count table helper stack cache s → (ram : List ℕ)
        → let k = memory h index count table helper stack cache link ram in
        let p = place_of (sizes_of h) i b in
        Did (give_back i b) k (give_says s (leave_ok_in k p)) (give_leaves s (leave_ok_in k p) k p)
    gives s seen ram =
        let k = memory h index count table helper stack cache link ram in
        give_did i b k _ _
        (checking.checked_yes (λ x. refused x) _ 0 (Gives k i b) k _ _ (sym passes) refl (record { sight = s; seen = seen; answer_is = refl; after_is = refl }))

    module _ (f : ℕ) (seen : SeenOf h i b index count table helper stack cache (Mapped f)) (t p : ℕ) (et : t ≡ places (sizes_of h))
        (ep : p ≡ place_of (sizes_of h) i b) (r : Out (Result (Unit {0}) Refusal)) (count' helper' stack' link' : List ℕ)
        (handed : Handed h count table helper stack cache link t p r count' helper' stack' link') where
      pub handed_did : (ram : List ℕ)
          → Did (give_back i b) (memory h index count table helper stack cache link ram) (given_back_says r.answer)
          (memory r.head index count' table helper' stack' cache link' ram)
      handed_did ram = go (leave_ok h count table helper stack cache _ _) refl (rw (et, ep) at handed)
        where
          go : (x : Bool) → leave_ok h count table helper stack cache (places (sizes_of h)) (place_of (sizes_of h) i b) ≡ x
              → HandedIf x h count table helper stack cache link (place_of (sizes_of h) i b) r count' helper' stack' link'
              → Did (give_back i b) (memory h index count table helper stack cache link ram) (given_back_says r.answer)
              (memory r.head index count' table helper' stack' cache link' ram)
          go true e (done, l) = rw (done, l.head_is, l.count_is, l.helper_is, l.stack_is, l.link_is) (rw e at (gives (Mapped f) seen ram))
          go false e stays = rw (stays.out_is, stays.count_is, stays.helper_is, stays.stack_is, stays.link_is) (rw e at (gives (Mapped f) seen ram))
