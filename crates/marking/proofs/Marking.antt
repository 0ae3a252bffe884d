-- Mark and drop keep the promise.
use Rattle.std.specs.Prelude.{◌≡◌, refl, Bool, true, false, cond, List, [], ◌∷◌, ◌++◌, ℕ, zero, suc, ◌+◌, ◌<◌, leb, length, drop as dropped, Result, Ok}
use Rattle.std.proofs.Common.{sym, ◌∙◌, subst, inl, inr, arith, get_or-set_same, get_or-set_other}
use Rattle.std.proofs.Math.Path.{ap}
use Rattle.std.proofs.lemmas.Bool.{false≢true}
use Rattle.std.proofs.Math.Option.{Option, none, some}
use Rattle.std.proofs.Math.Decide.{ℕ_discrete}
use Rattle.places.specs.Places.{put, last_below, size}
use Rattle.places.specs.Laws.{below_last}
use Rattle.places.specs.Sets.{put_here, put_other}
use Rattle.layer.specs.Words.{bit_at}
use Rattle.layer.specs.declared.Greatest.{Greatest}
use Rattle.index.specs.Answers.{greatest_at}
use Rattle.refusals.specs.declared.Refusal.{Refusal}
use Rattle.index.specs.Promise.{Put, Sought}
use Rattle.index.specs.Laws.{index_front, index_bit, index_ext}
use Rattle.machine.specs.Machine.{Sizes, places, place_of, State, Pair, is_start, region, start_of, not_below, words_at, Lent}
use Rattle.machine.specs.Machine.{Uses, uses, Call, mark, drop, facts, asked, Answer, done, refused, tell, with_start, unless_resident, mark_cut}
use Rattle.machine.specs.Machine.{mark_at, drop_at, accepted, step, ended}
use Rattle.machine.specs.declared.PageCall.TheVariants.{Mark, Drop}
use Rattle.machine.specs.Claims.{Sound}
use Rattle.machine.proofs.Laws.Sizes.{fit}
use Rattle.machine.proofs.Laws.Regions.{own_marked, own_dropped}
use Rattle.machine.proofs.Laws.Kept.{sound_marked, sound_dropped}
use Rattle.memory.specs.Memory.{Memory, at, sizes_of, lengths}
use Rattle.promise.specs.Holds.{Holds}
use Rattle.promise.specs.Did.{Later, Marks, Bounds, Did}
use Rattle.laws.specs.Models.{Refuses, mark_lengths}
use Rattle.marking.specs.Models.{cut_count, count_in, with_index, Puts, PutsUnless, MarkIf, DropIf, MarkDone, DropDone}
use Rattle.laws.specs.Refusals.{words_none, MayKeep, tells_none, gives_none, begins_none, passed_step, kept_did, checked_did, Admitted, admitted}
use Rattle.laws.specs.Finds.{index_passes, found_is, start_is}
use Rattle.laws.specs.Checks.{page_check}

-- ---- a start put in the index

-- a start put at place p or taken away cuts no region with pages
pub record Spares (m : State) (v : Bool) (p : ℕ) : Type 0 where
  pub sound : Sound (with_start m p v)
  pub keeps : (a q : ℕ) → 0 < length (region m a) → start_of m q ≡ some a → start_of (with_start m p v) q ≡ some a

module _ (m : State) (p : ℕ) (s : Sound m) (low : p < places m.sizes) where
  some_left : (a : ℕ) → region m a ≡ [] → 0 < length (region m a) → ⊥
  some_left a e l = omega (arith, ap length e)

  pub mark_spares : ((a : ℕ) → start_of m p ≡ some a → region m a ≡ []) → Spares m true p
  mark_spares empty =
      record {
        sound = sound_marked m s p low empty;
        keeps = λ a q l e.
            own_marked m.sizes.pages m.starts p q a (omega (arith, s.starts_are)) e (fit m.sizes s.sizes_ok_lem).some_pages
            (λ o. some_left a (empty a o) l);
      }

  pub drop_spares : region m p ≡ [] → Spares m false p
  drop_spares empty =
      record {
        sound = sound_dropped m s p low empty;
        keeps = λ a q l e.
            own_dropped m.sizes.pages m.starts p q a (omega (arith, s.starts_are)) e (λ o. some_left a (ap (region m) o ∙ empty) l);
      }

module _ (m : State) (k : Memory) (h : Holds m k) (p : ℕ) (low : p < places m.sizes) where
  started : (v : Bool) (q : ℕ) → put (is_start m) p v q ≡ is_start (with_start m p v) q
  started v q = elim (ℕ_discrete q p) [
    | yes e ↦ rw e (put_here (is_start m) p v ∙ sym (get_or-set_same m.starts p v false (omega (arith, h.sound.starts_are))))
    | no n ↦ put_other (is_start m) p v q n ∙ sym (get_or-set_other m.starts p q v false n)
  ]

  -- the tables stay, and stand for the machine with that start
  pub put_holds : (v : Bool) (change : Result (Unit {0}) Refusal) (words : List ℕ) → Put v (places m.sizes) p k.index change words → Spares m v p
      → Holds (with_start m p v) (with_index k words)
  put_holds v change words w s =
      record {
        sound = s.sound;
        sizes_are = h.sizes_are;
        index_long = omega (arith, w.few.size, h.index_long);
        count_long = h.count_long;
        index_is =
            index_front (places m.sizes) (is_start (with_start m p v)) words _
            (w.changed (is_start m) h.index_is (index_passes m k h p low)
            ∙ ap (λ xs. xs ++ dropped (size (places m.sizes)) k.index) (index_ext (places m.sizes) _ _ (λ q _. started v q)));
        counts = h.counts;
        entries = λ a j l.
            let e = h.entries a j l in
            record {
              stack_is = e.stack_is;
              helper_is = e.helper_is;
              cache_is = e.cache_is;
              table_is = e.table_is;
              room = s.keeps a (a + j)
                  (omega arith) e.room;
            };
        links = h.links;
        pooled = h.pooled;
        ram_is = h.ram_is;
      }

-- ---- the region in the way, from the machine and from the memory

-- the pairs of the region that a mark would cut
abbrev way_of : State → Option ℕ → List Pair
way_of m none = []
way_of m (some a) = region m a

mark_way : (m : State) (p : ℕ) (o : Option ℕ) → mark_cut m p o ≡ unless_resident m p true (way_of m o)
mark_way m p none = refl
mark_way m p (some a) = refl

module _ (m : State) (k : Memory) (h : Holds m k) (i b : ℕ) (low : place_of m.sizes i b < places m.sizes) (in_pages : b < m.sizes.pages) where
  abbrev p : ℕ
  p = place_of m.sizes i b

  cut_found : (o : Option ℕ) → last_below (is_start m) (suc p) ≡ o
      → cut_count (place_of m.sizes i 0) k.count (greatest_at o (words_at m p)) ≡ length (way_of m (not_below (place_of m.sizes i 0) o))
  cut_found none e = refl
  cut_found (some a) e = go (leb (place_of m.sizes i 0) a)
    where
      go : (t : Bool) → count_in t k.count a ≡ length (way_of m (cond t (some a) none))
      go true = h.counts a (omega (arith, (below_last (is_start m) (suc p) a e).low))
      go false = refl

  cut_is : (found : Greatest) → Sought (places m.sizes) p k.index (Ok found)
      → cut_count (place_of m.sizes i 0) k.count found ≡ length (way_of m (start_of m p))
  cut_is found w =
      let o = last_below (is_start m) (suc p) in
      rw (found_is m k h p low found w, start_is m i b in_pages) (cut_found o refl)

-- what the machine does where a region of n resident pages is in the way
record Cut (m : State) (c : Call) (v : Bool) (p n : ℕ) : Type 0 where
  way : List Pair
  many : n ≡ length way
  does : step m c ≡ unless_resident m p v way
  spares : way ≡ [] → Spares m v p

module _ (m : State) (c : Call) (v : Bool) (p : ℕ) where
  cut_full : (j : ℕ) → Cut m c v p (suc j) → step m c ≡ tell m (refused 7)
  cut_full j r = r.does ∙ go r.way r.many
    where
      go : (xs : List Pair) → suc j ≡ length xs → unless_resident m p v xs ≡ tell m (refused 7)
      go [] e = absurd (omega arith)
      go (x ∷ xs) e = refl

  cut_clear : Cut m c v p 0 → (step m c ≡ record { answer = done; after = with_start m p v }) × Spares m v p
  cut_clear r = let e = go r.way r.many in (r.does ∙ ap (unless_resident m p v) e, r.spares e)
    where
      go : (xs : List Pair) → 0 ≡ length xs → xs ≡ []
      go [] e = refl
      go (x ∷ xs) e = absurd (omega arith)

-- ---- mark and drop at page b of space i

put_marks : (k : Memory) (v : Bool) (p : ℕ) (change : Result (Unit {0}) Refusal) (words : List ℕ) → Put v (places (sizes_of k.head)) p k.index change words
    → Marks k (with_index k words)
put_marks k v p change words w =
    record {
      head = refl;
      words = record {
        sizes = refl;
        index = record { few = w.few; excess = w.excess };
        count = words_none _ _ k.count;
        table = words_none _ _ k.table;
        helper = words_none _ _ k.helper;
        stack = words_none _ _ k.stack;
        cache = words_none _ _ k.cache;
        link = words_none _ _ k.link;
        ram = refl;
      };
    }

module _ (i b : ℕ) (k : Memory) where
  abbrev z : Sizes
  z = sizes_of k.head

  abbrev here : ℕ
  here = place_of z i b

  -- whether the place is a start, in every machine that the memory stands for
  abbrev Says : Bool → Type 0
  Says s = (m : State) → Holds m k → is_start m (place_of m.sizes i b) ≡ s

  -- what is known of the head's sizes is known of the machine's, and the other way
  as_machine : (m : State) → Holds m k → (P : Sizes → Type 0) → P z → P m.sizes
  as_machine m h P x = subst P h.sizes_are x

  as_head : (m : State) → Holds m k → (P : Sizes → Type 0) → P m.sizes → P z
  as_head m h P x = subst P (sym h.sizes_are) x

  -- a call that passed
  module _ (c : Lent → Call) (pass : asked z (c (lengths k)) ≡ 0) (u : Uses) (w : Admitted z u i b (lengths k)) where
    passed_as : (m : State) → Holds m k → step m (c (lengths k)) ≡ accepted m (c (lengths k))
    passed_as m h = passed_step m (c (lengths k)) (as_machine m h (λ z. asked z (c (lengths k)) ≡ 0) pass)

    low : (m : State) → Holds m k → place_of m.sizes i b < places m.sizes
    low m h = as_machine m h (λ z. place_of z i b < places z) w.place

    -- the place's bit says whether it is a start, and on honest memory what the machine says
    by_start : (then : Bool → Type 0) (D : Type 0) → then (bit_at k.index here) → ((s : Bool) → Says s → then s → D) → D
    by_start then D d go =
        go (bit_at k.index here)
        (λ m h.
        as_head m h (λ z. is_start m (place_of m.sizes i b) ≡ bit_at k.index (place_of z i b))
        (sym (index_bit (places m.sizes) (is_start m) k.index h.index_is (place_of m.sizes i b) (low m h))))
        d

    refuses_did : MayKeep (c (lengths k)) → (n : ℕ) (a : Answer) (k' : Memory) → Later z (c (lengths k)) (refused n) → Refuses (refused n) k a k'
        → ((m : State) → Holds m k → step m (c (lengths k)) ≡ tell m (refused n)) → Did c k a k'
    refuses_did keeps n a k' l d same =
        rw (d.answer_is, d.same)
        (kept_did c k (refused n) pass l keeps
        (λ m h. (sym (ap (λ o. o.answer) (same m h)), ap (λ o. o.after) (same m h))))

    module _ (v : Bool) (bounds : (k' : Memory) → Marks k k' → Bounds (c (lengths k)) k k') (keeps : MayKeep (c (lengths k)))
        (kind : (facts (c (lengths k))).kind ≡ ended) where
      put_did : (a : Answer) (k' : Memory) → Puts v here k a k' → ((m : State) → Holds m k → Cut m (c (lengths k)) v (place_of m.sizes i b) 0) → Did c k a k'
      put_did a k' d cut =
          rw (d.answer_is, d.after_is)
          (record {
            asks = rw pass kind;
            stays = λ e. absurd (false≢true e);
            bounds = bounds (with_index k d.words) (put_marks k v here (Ok tt) d.words d.put);
            tells = λ f w is. tells_none (facts (c (lengths k))).change keeps.0 f k _;
            gives = λ is. gives_none (facts (c (lengths k))).change keeps.0 k _;
            honest = λ m h.
                let (o, spares) = cut_clear m (c (lengths k)) v (place_of m.sizes i b) (cut m h) in
                let put_is = as_machine m h (λ z. Put v (places z) (place_of z i b) k.index (Ok tt) d.words) d.put in
                record {
                  answer_is = sym (ap (λ r. r.answer) o);
                  holds = subst (λ r. Holds r.after (with_index k d.words)) (sym o) (put_holds m k h _ (low m h) v _ d.words put_is spares);
                };
            begins = begins_none (facts (c (lengths k))).begins _ k done _ (λ _. keeps.1);
          })

      cut_did : Later z (c (lengths k)) (refused 7) → (n : ℕ) (a : Answer) (k' : Memory) → PutsUnless n v here k a k'
          → ((m : State) → Holds m k → Cut m (c (lengths k)) v (place_of m.sizes i b) n) → Did c k a k'
      cut_did full zero a k' d cut = put_did a k' d cut
      cut_did full (suc j) a k' d cut = refuses_did keeps 7 a k' full d (λ m h. cut_full m (c (lengths k)) v _ j (cut m h))

  pub mark_did : (a : Answer) (k' : Memory) → MarkDone i b k a k' → Did (mark i b) k a k'
  unfolding accepted
  mark_did a k' d =
      checked_did (mark i b) k _ (page_check k i b Mark (mark_lengths k) refl) _ a k' d (λ pass r. go pass (admitted z Mark i b (lengths k) pass) r)
    where
      go : asked z (mark i b (lengths k)) ≡ 0 → Admitted z (uses (mark i b (lengths k))) i b (lengths k)
          → MarkIf (bit_at k.index here) here (place_of z i 0) k a k' → Did (mark i b) k a k'
      go pass w d = by_start (mark i b) pass _ w (λ s. MarkIf s here (place_of z i 0) k a k') _ d then
        where
          marks : (s : Bool) → Says s → (m : State) → Holds m k
              → let p = place_of m.sizes i b in step m (mark i b (lengths k)) ≡ mark_at m p (start_of m p) s
          marks s is m h = passed_as (mark i b) pass _ w m h ∙ ap (mark_at m _ _) (is m h)

          then : (s : Bool) → Says s → MarkIf s here (place_of z i 0) k a k' → Did (mark i b) k a k'
          then true is d = refuses_did (mark i b) pass _ w (tt, tt) 6 a k' (inl refl, refl) d (marks true is)
          then false is d =
              cut_did (mark i b) pass _ w true (λ k' x. x) (tt, tt) refl (inr (inl refl), refl) _ a k' d.done_then
              (λ m h.
              let p = place_of m.sizes i b in
              record {
                way = way_of m (start_of m p);
                many =
                    as_head m h (λ z. cut_count (place_of z i 0) k.count d.found ≡ length (way_of m (start_of m p)))
                    (cut_is m k h i b (low (mark i b) pass _ w m h) (as_machine m h (λ z. b < z.pages) w.page) d.found
                    (as_machine m h (λ z. Sought (places z) (place_of z i b) k.index (Ok d.found)) d.sought));
                does = marks false is m h ∙ mark_way m p (start_of m p);
                spares = λ e. mark_spares m p h.sound (low (mark i b) pass _ w m h) (λ a o. ap (way_of m) (sym o) ∙ e);
              })

  pub drop_did : (a : Answer) (k' : Memory) → DropDone i b k a k' → Did (drop i b) k a k'
  unfolding accepted
  drop_did a k' d =
      checked_did (drop i b) k _ (page_check k i b Drop (mark_lengths k) refl) _ a k' d (λ pass r. go pass (admitted z Drop i b (lengths k) pass) r)
    where
      go : asked z (drop i b (lengths k)) ≡ 0 → Admitted z (uses (drop i b (lengths k))) i b (lengths k)
          → DropIf (bit_at k.index here) here k a k' → Did (drop i b) k a k'
      go pass w d = by_start (drop i b) pass _ w (λ s. DropIf s here k a k') _ d then
        where
          drops : (s : Bool) → Says s → (m : State) → Holds m k
              → let p = place_of m.sizes i b in step m (drop i b (lengths k)) ≡ drop_at m p s
          drops s is m h = passed_as (drop i b) pass _ w m h ∙ ap (drop_at m _) (is m h)

          then : (s : Bool) → Says s → DropIf s here k a k' → Did (drop i b) k a k'
          then false is d = refuses_did (drop i b) pass _ w (tt, tt) 5 a k' (inl refl, refl) d (drops false is)
          then true is d =
              cut_did (drop i b) pass _ w false (λ k' x. x) (tt, tt) refl (inr (inl refl), refl) _ a k' d
              (λ m h.
              let p = place_of m.sizes i b in
              let inside = low (drop i b) pass _ w m h in
              record {
                way = region m p;
                many = as_head m h (λ z. at k.count (place_of z i b) ≡ length (region m p)) (h.counts p inside);
                does = drops true is m h;
                spares = drop_spares m p h.sound inside;
              })
