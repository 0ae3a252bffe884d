-- On honest memory storing the words of a new page keeps memory and machine together, and so does clearing its frame.
use Rattle.std.specs.Prelude.{◌≡◌, refl, ◌≢◌, List, [], ◌∷◌, ◌++◌, ℕ, ◌+◌, ◌<◌, length, get_or}
use Rattle.std.proofs.Common.{true, sym, ap, ap₂, ◌∙◌, subst, arith, length-set, length-append, get_or-set_same, get_or-set_other}
use Rattle.std.proofs.lemmas.Bool.{false≢true}
use Rattle.std.proofs.Math.Option.{some-injective}
use Rattle.std.proofs.Math.Decide.{ℕ_discrete}
use Rattle.std.proofs.Math.ListN.{get_or-append}
use Rattle.std.proofs.Math.Seq.{get_or-append_seam}
use Rattle.machine.specs.declared.PageCall.TheVariants.{Touch}
use Rattle.machine.specs.Machine.{Sizes, places, State, Pair, region, start_of, page_of, unmapped, with_pair, zeroed, cleared, Lent}
use Rattle.machine.specs.Machine.{every_table, every_buffer, page_facts}
use Rattle.machine.specs.Claims.{no_pair}
use Rattle.machine.proofs.Laws.Lookup.{Unmapped, is_unmapped_lem, not_in}
use Rattle.machine.proofs.Laws.Kept.{sound_paired}
use Rattle.machine.proofs.Laws.Stays.{held_inside}
use Rattle.memory.specs.Memory.{Memory, with_bytes, at, sizes_of, lengths}
use Rattle.promise.specs.Holds.{Placed, Holds}
use Rattle.planning.proofs.Planning.{Inside, fit_top}
use Rattle.planning.proofs.Fitting.{NextWord, next_word, fits_honest}
use Rattle.entries.specs.Fits.{Mappable}
use Rattle.entries.specs.Models.{map_entry, map_page}
use Rattle.entries.proofs.Mappable.{inside_mappable}
use Rattle.entries.proofs.Bounds.{sizes_taken}
use Rattle.pool.specs.Models.{newest_of, taken}
use Rattle.pool.specs.Pool.{taken_honest, pooled_taken, linked_paired, newest_honest}
use Rattle.laws.specs.Refusals.{Long}
use Rattle.laws.specs.Room.{stack_room}
use Rattle.planning.specs.Models.{top_ok}
use Rattle.laws.specs.Bytes.{bytes_hold}

-- enough for every buffer is enough for the tables
tables_of_lem : {z : Sizes} {l : Lent} → Long every_buffer z l → Long every_table z l
tables_of_lem w =
    record {
      index = w.index;
      count = w.count;
      table = w.table;
      helper = w.helper;
      stack = w.stack;
      cache = w.cache;
      link = w.link;
      ram = λ e. absurd (false≢true e);
    }

module _ (m : State) (k : Memory) (h : Holds m k) (p a : ℕ) (low : p < places m.sizes) (absent : page_of m p ≡ unmapped a) where
  u : Unmapped m p a
  u = is_unmapped_lem m p a absent

  next : NextWord m k a
  next = next_word m k h p a low absent

  below_places : {x : ℕ} → x < places m.sizes → x < places (sizes_of k.head)
  below_places {x} l = subst (λ (z : Sizes). x < places z) (sym h.sizes_are) l

  -- ---- the words that it takes

  module _ (f : ℕ) (rest : List ℕ) (is : m.pool ≡ f ∷ rest) where
    pub inside_honest : Inside k p a
    inside_honest =
        let t = taken_honest m k h f rest is in
        let frames : k.head.frames ≡ m.sizes.frames = ap (λ (z : Sizes). z.frames) h.sizes_are in
        record {
          place = below_places low;
          start = below_places next.start_low;
          top = below_places next.below;
          frame = omega (arith, t.0, t.1, frames);
        }

    pub mappable_honest : Long every_table m.sizes (lengths k) → Mappable k.head k.count k.table k.helper k.stack k.cache k.link a p
    mappable_honest lent =
        inside_mappable k p a (rw h.sizes_are h.sound.sizes_ok_lem) (rw h.sizes_are lent) inside_honest
        (subst (λ (z : Sizes). top_ok k.stack (places z) a (at k.count a) ≡ true) (sym h.sizes_are)
        (fit_top k.head k.count k.stack (places m.sizes) a (fits_honest m k h p a low absent f rest is)))

  -- ---- the words after

  -- an entry of before isn't the page's, and its word on the stack isn't the new one
  other_place : (b j : ℕ) → j < length (region m b) → (get_or (region m b) j no_pair).place ≢ p
  other_place b j l e =
      let same : b ≡ a = some-injective b a (sym (h.sound.own b j l) ∙ ap (start_of m) e ∙ u.region_is) in
      not_in p (region m a) u.none_in j (subst (λ (c : ℕ). j < length (region m c)) same l)
      (ap (λ (c : ℕ). (get_or (region m c) j no_pair).place) (sym same) ∙ e)

  other_top : (b j : ℕ) → j < length (region m b) → b + j ≢ a + at k.count a
  other_top b j l e =
      let same : b ≡ a = some-injective b a (sym (h.entries b j l).room ∙ ap (start_of m) e ∙ next.room) in
      omega (arith, next.counted, ap (λ (c : ℕ). length (region m c)) same)

  -- for the frame that the code takes
  module _ (lent : Long every_table m.sizes (lengths k)) (rest : List ℕ) (is : m.pool ≡ (taken k.link k.head).frame ∷ rest) where
    abbrev pair : Pair
    pair = record { place = p; frame = (taken k.link k.head).frame }

    abbrev after : State
    after = with_pair m a p (taken k.link k.head).frame rest

    region_here : region after a ≡ region m a ++ (pair ∷ [])
    region_here = get_or-set_same m.held a _ [] (held_inside m h.sound p a u.region_is)

    region_there : (b : ℕ) → b ≢ a → region after b ≡ region m b
    region_there b d = get_or-set_other m.held a b _ [] d

    old_placed : (b j : ℕ) → j < length (region m b) → Placed after (map_entry k a p) b j (get_or (region m b) j no_pair)
    old_placed b j l =
        let x = h.entries b j l in
        let q = (get_or (region m b) j no_pair).place in
        let d = other_place b j l in
        record {
          stack_is = get_or-set_other k.stack _ (b + j) p 0 (other_top b j l) ∙ x.stack_is;
          helper_is = get_or-set_other k.helper p q _ 0 d ∙ x.helper_is;
          cache_is = get_or-set_other k.cache p q a 0 d ∙ x.cache_is;
          table_is = get_or-set_other k.table p q _ 0 d ∙ x.table_is;
          room = x.room;
        }

    new_placed : Placed after (map_entry k a p) a (length (region m a)) pair
    new_placed =
        record {
          stack_is = rw (← next.counted) (get_or-set_same k.stack (a + at k.count a) p 0 (omega (arith, next.below, lent.stack refl)));
          helper_is = get_or-set_same k.helper p _ 0 (omega (arith, lent.helper refl)) ∙ next.counted;
          cache_is = get_or-set_same k.cache p a 0 (omega (arith, lent.cache refl));
          table_is = get_or-set_same k.table p _ 0 (omega (arith, lent.table refl));
          room = stack_room m h.sound p a u;
        }

    here_placed : (j : ℕ) → j < length (region m a ++ (pair ∷ [])) → Placed after (map_entry k a p) a j (get_or (region m a ++ (pair ∷ [])) j no_pair)
    here_placed j l = elim (ℕ_discrete j (length (region m a))) [
      | yes e ↦ rw (e, get_or-append_seam (region m a) pair [] no_pair) new_placed
      | no d ↦
          let i : j < length (region m a) = omega (arith, length-append (region m a) (pair ∷ [])) in
          rw (get_or-append (region m a) (pair ∷ []) no_pair j i) (old_placed a j i)
    ]

    all_placed : (b j : ℕ) → j < length (region after b) → Placed after (map_entry k a p) b j (get_or (region after b) j no_pair)
    all_placed b = elim (ℕ_discrete b a) [
      | yes e ↦ rw (e, region_here) here_placed
      | no d ↦ rw (region_there b d) (old_placed b)
    ]

    all_counted : (q : ℕ) → q < places m.sizes → at (map_entry k a p).count q ≡ length (region after q)
    all_counted q l = elim (ℕ_discrete q a) [
      | yes e ↦
          rw (e, get_or-set_same k.count a (at k.count a + 1) 0 (omega (arith, h.count_long)), region_here, length-append)
          (ap (λ (n : ℕ). n + 1) next.counted)
      | no d ↦ rw (get_or-set_other k.count a q (at k.count a + 1) 0 d, region_there q d) (h.counts q l)
    ]

    holds_after : Holds after (map_entry k a p)
    holds_after =
        let f = (taken k.link k.head).frame in
        let newest = newest_of k.table k.stack a (at k.count a) in
        record {
          sound = sound_paired m h.sound p a f rest u is;
          sizes_are = sizes_taken k.link k.head k.head.many ∙ h.sizes_are;
          index_long = h.index_long;
          count_long = simp length-set h.count_long;
          index_is = h.index_is;
          counts = all_counted;
          entries = all_placed;
          links = linked_paired m k h f rest is (lent.link refl) a p newest next.start_low (newest_honest m k h a next.start_low);
          pooled = pooled_taken m k h f rest is newest;
          ram_is = h.ram_is;
        }

  -- the page's words alone: the RAM stays
  pub entry_holds : Long every_table m.sizes (lengths k) → (f : ℕ) (rest : List ℕ) → m.pool ≡ f ∷ rest → Holds (with_pair m a p f rest) (map_entry k a p)
  entry_holds lent f rest is =
      let e = (taken_honest m k h f rest is).0 in
      subst (λ (g : ℕ). Holds (with_pair m a p g rest) (map_entry k a p)) e (holds_after lent rest (is ∙ ap (λ (g : ℕ). g ∷ rest) (sym e)))

  -- and then its frame cleared
  pub map_holds : Long (page_facts Touch).uses m.sizes (lengths k) → (f : ℕ) (rest : List ℕ) → m.pool ≡ f ∷ rest
      → Holds (cleared (with_pair m a p f rest) f) (map_page k a p)
  map_holds lent f rest is =
      let zeros : zeroed (sizes_of k.head) (taken k.link k.head).frame k.ram ≡ zeroed m.sizes f m.ram =
      ap₂ (λ (z : Sizes) (ram : List ℕ). zeroed z (taken k.link k.head).frame ram) h.sizes_are h.ram_is
      ∙ ap (λ (g : ℕ). zeroed m.sizes g m.ram) (taken_honest m k h f rest is).0 in
      subst (λ (ram : List ℕ). Holds (cleared (with_pair m a p f rest) f) (with_bytes (map_entry k a p) ram)) (sym zeros)
      (bytes_hold (with_pair m a p f rest) (map_entry k a p) (zeroed m.sizes f m.ram) (entry_holds (tables_of_lem lent) f rest is))
