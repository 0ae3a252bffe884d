-- Mark and drop at a page: what their check says, and the whole of the call.
use mathlib.Core.Path.{◌≡◌, refl, sym, ap, ◌∙◌}
use mathlib.Core.Bool.{true}
use mathlib.Core.List.{List}
use Prim.Native.Nat.{ℕ, ◌<◌}
use borrow.Author.Tests.{ltb-true}
use lib.Dec.{ltb}
use lib.ListN.{length}
use Rattle.machine.specs.Machine.{Answer, refused, mark, drop, places, place_of, sizes_ok}
use Rattle.machine.proofs.Laws.Sizes.{fit, place_below}
use Rattle.memory.specs.Memory.{memory, sizes_of}
use Rattle.memory.specs.declared.Head.{Head}
use Rattle.memory.specs.declared.Lengths.{Lengths}
use Rattle.promise.specs.Did.{Did}
use Rattle.laws.specs.Models.{lent_to, check_of}
use Rattle.laws.specs.Refusals.{check_passes}
use Rattle.laws.specs.Checking.{CheckPassed, ready, checked_no, checked_yes}
use Rattle.marking.proofs.Marking.{mark_did, drop_did}
use Rattle.marking.specs.Steps.{Searchable, MarkedAt, DroppedAt}
use Rattle.marking.specs.Models.{DropIf, MarkIf}
use Rattle.index.specs.Words.{bit_at}

module _ (h : Head) (i b : ℕ) (l : Lengths) where
  module _ (pass : check_of h l i (ltb b h.pages) ≡ 0) where
    known : CheckPassed h l i (ltb b h.pages)
    known = ready h l i _ pass

    pub page_pass : (sizes_ok (sizes_of h) ≡ true) × (i < h.spaces) × (b < h.pages)
    page_pass = (known.sizes_ok_lem, known.space, ltb-true b h.pages known.is_inside)

    pub first_pass : (sizes_ok (sizes_of h) ≡ true) × (i < h.spaces) × (0 < h.pages)
    first_pass = (known.sizes_ok_lem, known.space, (fit (sizes_of h) known.sizes_ok_lem).some_pages)

  module _ (ws count : List ℕ) (lent : l ≡ lent_to (length ws) (length count)) where
    -- the call's place
    abbrev at : ℕ
    at = place_of (sizes_of h) i b

    number_is : check_of h l i (ltb b h.pages) ≡ check_of h (lent_to (length ws) (length count)) i (ltb b h.pages)
    number_is = ap (λ (x : Lengths). check_of h x i (ltb b h.pages)) lent

    module _ (number : ℕ) (check : number ≡ check_of h l i (ltb b h.pages)) (fails : check_of h l i (ltb b h.pages) ≡ 0 → ⊥) where
      module _ (table helper stack cache link ram : List ℕ) where
        pub mark_refused : let k = memory h ws count table helper stack cache link ram in Did (mark i b) k (refused number) k
        mark_refused =
            let k = memory h ws count table helper stack cache link ram in
            mark_did i b k _ k (checked_no refused _ number (MarkIf (bit_at ws at) at (place_of (sizes_of h) i 0) k) k k _ (check ∙ number_is) (λ z. fails (sym check ∙ z)) refl refl)

        pub drop_refused : let k = memory h ws count table helper stack cache link ram in Did (drop i b) k (refused number) k
        drop_refused =
            let k = memory h ws count table helper stack cache link ram in
            drop_did i b k _ k (checked_no refused _ number (DropIf (bit_at ws at) at k) k k _ (check ∙ number_is) (λ z. fails (sym check ∙ z)) refl refl)

    module _ (pass : check_of h l i (ltb b h.pages) ≡ 0) (t p : ℕ) (et : t ≡ places (sizes_of h)) (ep : p ≡ place_of (sizes_of h) i b) where
      pub searchable : Searchable t p ws count
      searchable =
          let long = (known pass).lent in
          let (ok, space, page) = page_pass pass in
          let low = place_below (sizes_of h) i b space page in
          rw (et, ep)
          (record {
            check_passes = check_passes (sizes_of h) ok (length ws) (rw lent at (long.index refl)) _ low;
            inside = low;
            few = (fit (sizes_of h) ok).few_places;
            count_long = rw lent at (long.count refl);
          })

      module _ (a : Answer) (ws' : List ℕ) where
        pub marked : (lo : ℕ) → lo ≡ place_of (sizes_of h) i 0 → MarkedAt t lo p ws count a ws' → (table helper stack cache link ram : List ℕ)
            → Did (mark i b) (memory h ws count table helper stack cache link ram) a (memory h ws' count table helper stack cache link ram)
        marked lo el d table helper stack cache link ram =
            let k = memory h ws count table helper stack cache link ram in
            mark_did i b k _ _ (checked_yes refused _ _ (MarkIf (bit_at ws at) at (place_of (sizes_of h) i 0) k) k _ _ number_is pass (rw (← ep, ← el) (d h table helper stack cache link ram (sym et))))

        pub dropped : DroppedAt t p ws count a ws' → (table helper stack cache link ram : List ℕ)
            → Did (drop i b) (memory h ws count table helper stack cache link ram) a (memory h ws' count table helper stack cache link ram)
        dropped d table helper stack cache link ram =
            let k = memory h ws count table helper stack cache link ram in
            drop_did i b k _ _ (checked_yes refused _ _ (DropIf (bit_at ws at) at k) k _ _ number_is pass (rw (← ep) (d h table helper stack cache link ram (sym et))))
