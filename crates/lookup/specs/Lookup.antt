-- What a page is seen to be, on honest memory: what the machine says of it.
use Rattle.std.specs.Prelude.{◌≡◌, Bool, true, false, cond, List, ℕ, suc, ◌+◌, ◌*◌, ◌%◌, ◌≤◌, ◌<◌, leb, length, get_or}
use Rattle.std.proofs.Math.Path.{refl}
use Rattle.std.proofs.Common.{sym, ap, ◌∙◌, subst, true≢false, arith}
use Rattle.std.proofs.Math.Option.{Option, none, some}
use borrow.Author.Tests.{leb-true, ltb-true, eqb-true, le-leb, lt-ltb, eq-eqb}
use Rattle.places.specs.Places.{last_below}
use Rattle.index.specs.Answers as index
use Rattle.machine.specs.Machine.{Sizes, places, place_of, State, is_start, region, start_of, not_below, frame_in, words_at, outside, unmapped, mapped, page_of}
use Rattle.machine.specs.Machine.{page_at, page_of_address, ram_at}
use Rattle.machine.specs.Claims.{no_pair}
use Rattle.machine.proofs.Laws.Sizes.{both, place_below}
use Rattle.machine.proofs.Laws.Regions.{owner_of}
use Rattle.machine.proofs.Laws.Lookup.{Entry, frame_in_lem, not_in, Mapped, mapped_is, unmapped_is}
use Rattle.machine.proofs.Laws.Holders.{frame_below}
use Rattle.machine.proofs.Laws.Holders.{ram_mapped}
use Rattle.memory.specs.Memory.{Memory, at, sizes_of}
use Rattle.lookup.specs.declared.Sight.{Sight}
use Rattle.lookup.specs.declared.Sight.TheVariants as sight_is
use Rattle.promise.specs.Holds.{Holds, Placed}
use Rattle.promise.specs.Shown.{resident_ok}
use Rattle.lookup.specs.Models.{sight_in, sight_found, SeenIf, Seen, SeenAt}
use Rattle.laws.specs.Finds.{found_is, start_is}
use Rattle.laws.specs.Room.{owned_below}

-- ---- the test of a resident page

-- entry j of the stack of the region at a, below the region's count, is place p
pub record Agrees (count stack : List ℕ) (t p a j : ℕ) : Type 0 where
  pub start_low : a ≤ p
  pub below_count : j < at count a
  pub entry_low : a + j < t
  pub back : at stack (a + j) ≡ p

module _ (count helper stack cache : List ℕ) (t p : ℕ) where
  pub resident_agrees : resident_ok count helper stack cache t p ≡ true → Agrees count stack t p (at cache p) (at helper p)
  unfolding resident_ok
  resident_agrees e =
      let c₃ = both _ _ e in
      let c₂ = both _ _ c₃.0 in
      let c₁ = both (leb (at cache p) p) _ c₂.0 in
      record {
        start_low = leb-true _ _ c₁.0;
        below_count = ltb-true _ _ c₁.1;
        entry_low = ltb-true _ _ c₂.1;
        back = eqb-true _ _ c₃.1;
      }

  pub agrees_resident : Agrees count stack t p (at cache p) (at helper p) → resident_ok count helper stack cache t p ≡ true
  unfolding resident_ok
  agrees_resident h =
      rw (
        le-leb (at cache p) p h.start_low,
        lt-ltb (at helper p) (at count (at cache p)) h.below_count,
        lt-ltb (at cache p + at helper p) t h.entry_low,
        eq-eqb (at stack (at cache p + at helper p)) p h.back,
      )

-- ---- honest memory

module _ (m : State) (k : Memory) (h : Holds m k) where
  -- what the tables hold for a pair of a region
  entry_placed : (a p f : ℕ) (e : Entry p f (region m a)) → Placed m k a e.at (record { place = p; frame = f })
  entry_placed a p f e = subst (Placed m k a e.at) e.is (h.entries a e.at e.inside)

  -- a page that passes the test is mapped, to the frame in the page table
  pub resident_mapped : (p : ℕ) → p < places m.sizes → resident_ok k.count k.helper k.stack k.cache (places m.sizes) p ≡ true
      → Mapped m p (at k.cache p) (at k.table p)
  resident_mapped p low passes =
      let g = resident_agrees k.count k.helper k.stack k.cache (places m.sizes) p passes in
      let a = at k.cache p in
      let j = at k.helper p in
      let inside : j < length (region m a) = omega (arith, h.counts a (omega arith)) in
      let is : (get_or (region m a) j no_pair).place ≡ p = sym (h.entries a j inside).stack_is ∙ g.back in
      record { region_is = ap (start_of m) (sym is) ∙ h.sound.own a j inside; frame_is = go inside is (frame_in p (region m a)) refl }
    where
      go : at k.helper p < length (region m (at k.cache p)) → (get_or (region m (at k.cache p)) (at k.helper p) no_pair).place ≡ p
          → (o : Option ℕ) → frame_in p (region m (at k.cache p)) ≡ o → o ≡ some (at k.table p)
      go inside is none e = absurd (not_in p _ e _ inside is)
      go inside is (some f) e = ap some (sym (entry_placed _ p f (frame_in_lem p f _ e)).table_is)

  -- a page that is mapped passes it
  pub mapped_resident : (p a f : ℕ) → Mapped m p a f → resident_ok k.count k.helper k.stack k.cache (places m.sizes) p ≡ true
  mapped_resident p a f e =
      let x = frame_in_lem p f (region m a) e.frame_is in
      let g = entry_placed a p f x in
      let low : a ≤ p = (owner_of m.sizes.pages m.starts p a e.region_is).at_most in
      let below = owned_below m h.sound p a e.region_is in
      agrees_resident k.count k.helper k.stack k.cache (places m.sizes) p
      (rw (g.cache_is, g.helper_is)
      (record {
        start_low = low;
        below_count = omega (arith, h.counts a (omega arith), x.inside);
        entry_low = owned_below m h.sound (a + x.at) a g.room;
        back = g.stack_is;
      }))

  -- and one in a region that fails it is absent there
  not_resident : (p a : ℕ) → start_of m p ≡ some a → resident_ok k.count k.helper k.stack k.cache (places m.sizes) p ≡ false
      → frame_in p (region m a) ≡ none
  not_resident p a own fails = go (frame_in p (region m a)) refl
    where
      go : (o : Option ℕ) → frame_in p (region m a) ≡ o → o ≡ none
      go none e = refl
      go (some f) e =
          absurd (true≢false (sym (mapped_resident p a f (record { region_is = own; frame_is = e })) ∙ fails))

  -- the page table has the frame of a page that is mapped
  pub table_frame : (p a f : ℕ) → Mapped m p a f → (at k.table p ≡ f) × (f < m.sizes.frames)
  table_frame p a f e = let x = frame_in_lem p f (region m a) e.frame_is in ((entry_placed a p f x).table_is, frame_below m h.sound a p f x)

  -- so where an address of such a page is, the table's word tells alone
  pub table_place : (i x a f : ℕ) → Mapped m (page_of_address m.sizes i x) a f
      → let z = sizes_of k.head in
      let g = at k.table (page_of_address z i x) in
      (g < z.frames) × (ram_at m i x ≡ some (g * z.page + x % z.page))
  table_place i x a f e =
      let (is, below) = table_frame (page_of_address m.sizes i x) a f e in
      subst
      (λ (z : Sizes). (at k.table (page_of_address z i x) < z.frames) × (ram_at m i x ≡ some (at k.table (page_of_address z i x) * z.page + x % z.page)))
      (sym h.sizes_are) (omega arith, ram_mapped m i x a f e ∙ ap (λ (g : ℕ). some (g * m.sizes.page + x % m.sizes.page)) (sym is))

-- ---- what is seen

-- what a sight says of the page at place p
abbrev pub SightIs : State → ℕ → Sight → Type 0
SightIs m p (sight_is.Mapped f) = (a : ℕ) × (page_of m p ≡ mapped a f)
SightIs m p (sight_is.Unmapped a c) = (page_of m p ≡ unmapped a) × (c ≡ words_at m p)
SightIs m p (sight_is.Outside c) = (page_of m p ≡ outside) × (c ≡ words_at m p)
SightIs m p sight_is.Broken = ⊥

module _ (m : State) (k : Memory) (h : Holds m k) (i b : ℕ) (in_space : i < m.sizes.spaces) (in_pages : b < m.sizes.pages) where
  abbrev p : ℕ
  p = place_of m.sizes i b

  low : p < places m.sizes
  low = place_below m.sizes i b in_space in_pages

  -- what the find shows of a page that isn't resident
  search_honest : resident_ok k.count k.helper k.stack k.cache (places m.sizes) p ≡ false → (o : Option ℕ) → last_below (is_start m) (suc p) ≡ o
      → SightIs m p (sight_found (place_of m.sizes i 0) (index.greatest_at o (words_at m p)))
  search_honest fails none e = (ap (page_at m.held p) (start_is m i b in_pages ∙ ap (not_below _) e), refl)
  search_honest fails (some a) e = go (leb (place_of m.sizes i 0) a) refl
    where
      go : (t : Bool) → leb (place_of m.sizes i 0) a ≡ t → SightIs m p (sight_in t a (words_at m p))
      go true l =
          let own : start_of m p ≡ some a = start_is m i b in_pages ∙ ap (not_below _) e ∙ ap (λ (t : Bool). cond t (some a) none) l in
          (unmapped_is m p a (record { region_is = own; none_in = not_resident m k h p a own fails }), refl)
      go false l = (ap (page_at m.held p) (start_is m i b in_pages ∙ ap (not_below _) e ∙ ap (λ (t : Bool). cond t (some a) none) l), refl)

  seen_if : (t : Bool) → resident_ok k.count k.helper k.stack k.cache (places m.sizes) p ≡ t → (r : Sight)
      → SeenIf t m.sizes.frames (places m.sizes) (place_of m.sizes i 0) p k.index k.table r → SightIs m p r
  seen_if true e r seen =
      let f = at k.table p in
      let g = resident_mapped m k h p low e in
      let small = frame_below m h.sound (at k.cache p) p f (frame_in_lem p f _ g.frame_is) in
      rw (seen, lt-ltb f m.sizes.frames small) (at k.cache p, mapped_is m p (at k.cache p) f g)
  seen_if false e r seen =
      rw (seen.seen, found_is m k h p low seen.found seen.sought) (search_honest e (last_below (is_start m) (suc p)) refl)

  pub seen_honest : (r : Sight) → SeenAt k i b r → SightIs m (place_of m.sizes i b) r
  unfolding Seen
  seen_honest r seen =
      seen_if (resident_ok k.count k.helper k.stack k.cache (places m.sizes) p) refl r
      (subst (λ (z : Sizes). Seen z.frames (places z) (place_of z i 0) (place_of z i b) k.index k.count k.table k.helper k.stack k.cache
      r) h.sizes_are seen)
