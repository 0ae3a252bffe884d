-- A release keeps the promise: one count and one link change at most, and on honest memory the region's frames then stand before the pool.
use Rattle.std.specs.Prelude.{◌≡◌, refl, ◌≢◌, Bool, true, false, List, [], ◌∷◌, ◌++◌, reverse, ℕ, zero, suc, ◌+◌, ◌-◌, ◌≤◌, ◌<◌, leb, length, get_or, set}
use Rattle.std.proofs.Common.{sym, ◌∙◌, subst, inl, inr, true≢false, append_assoc, not-suc-le-zero, add-zero, arith, length-set, length-append, get_or-set_same, get_or-set_other, drop-set-lt}
use Rattle.std.proofs.Math.Path.{ap}
use Rattle.std.proofs.Math.Decide.{ℕ_discrete}
use borrow.Author.Tests.{leb-true, ltb-true, le-leb, lt-ltb}
use Rattle.std.proofs.lemmas.List.{length-map, length-reverse, set-get_or}
use Rattle.sequence.specs.Sums.{sum, sum_append, hit, hit_same}
use Rattle.sequence.specs.Changes.{changed_set}
use Rattle.index.specs.Words.{IndexOf, bit_at}
use Rattle.index.specs.Laws.{index_bit}
use Rattle.machine.specs.declared.PageCall.TheVariants.{Release}
use Rattle.machine.specs.Machine.{Sizes, places, place_of, State, Pair, is_start, region, frames_of, emptied, release_at, release, uses, asked, Answer, pages}
use Rattle.machine.specs.Machine.{refused, step, accepted, answer, after}
use Rattle.machine.specs.Claims.{no_pair, times_in}
use Rattle.machine.proofs.Laws.Sizes.{both}
use Rattle.machine.proofs.Laws.Kept.{start_of_pair, start_below, sound_emptied}
use Rattle.machine.proofs.Laws.Holders.{frame_below}
use Rattle.memory.specs.Memory.{Memory, at, sizes_of, lengths}
use Rattle.memory.specs.declared.Head.{Head}
use Rattle.promise.specs.Holds.{Placed, Pooled, unused, Holds}
use Rattle.promise.specs.Did.{Did}
use Rattle.releasing.specs.Models.{cut_ok, oldest_of, spliced, cut_for, cut_if, cut_says, cut_leaves, ReleaseDone}
use Rattle.pool.specs.Models.{newest_of}
use Rattle.laws.specs.Models.{release_lengths}
use Rattle.laws.specs.Refusals.{words_none, Admitted, admitted, kept_did, checked_did, passed_step}
use Rattle.laws.specs.Checks.{page_check}
use Rattle.laws.specs.Room.{owned_below}
use Rattle.pool.specs.Chains.{linked_kept, chain_spliced}
use Rattle.pool.specs.Pool.{newest_first, frames_cons, pool_or_region, one_region, many_fit, newest_honest, chain_newest}

-- ---- the code's test of a region with n pages

pub record Cuttable (h : Head) (table stack : List ℕ) (t a n : ℕ) : Type 0 where
  pub room : a + n ≤ t
  pub bottom : at stack a < t
  pub oldest : oldest_of table stack a < h.frames
  pub top : at stack (a + n - 1) < t
  pub few : h.many + n ≤ h.frames

module _ (h : Head) (table stack : List ℕ) (t a n : ℕ) where
  pub cut_says_lem : cut_ok h table stack t a n ≡ true → Cuttable h table stack t a n
  unfolding cut_ok
  cut_says_lem e =
      let p₄ = both _ _ e in
      let p₃ = both _ _ p₄.0 in
      let p₂ = both _ _ p₃.0 in
      let p₁ = both (leb (a + n) t) _ p₂.0 in
      record {
        room = leb-true _ _ p₁.0;
        bottom = ltb-true _ _ p₁.1;
        oldest = ltb-true _ _ p₂.1;
        top = ltb-true _ _ p₃.1;
        few = leb-true _ _ p₄.1;
      }

  pub says_cut : Cuttable h table stack t a n → cut_ok h table stack t a n ≡ true
  unfolding cut_ok
  says_cut c =
      rw (
        le-leb (a + n) t c.room,
        lt-ltb (at stack a) t c.bottom,
        lt-ltb (at table (at stack a)) h.frames c.oldest,
        lt-ltb (at stack (a + n - 1)) t c.top,
        le-leb (h.many + n) h.frames c.few,
      )

-- ---- a region with pages, on honest memory

module _ (m : State) (k : Memory) (H : Holds m k) (a : ℕ) (x : Pair) (xs : List Pair) (is : region m a ≡ x ∷ xs) where
  n_is : length (region m a) ≡ suc (length xs)
  n_is = ap length is

  is_start_lem : is_start m a ≡ true
  is_start_lem = start_of_pair m H.sound a 0 (omega (arith, n_is))

  low : a < places m.sizes
  low = start_below m H.sound a is_start_lem

  counted : at k.count a ≡ length (region m a)
  counted = H.counts a low

  -- the oldest page and its frame
  oldest_placed : Placed m k a 0 x
  oldest_placed = subst (λ (ys : List Pair). Placed m k a 0 (get_or ys 0 no_pair)) is (H.entries a 0 (omega (arith, n_is)))

  bottom_is : at k.stack a ≡ x.place
  bottom_is = ap (at k.stack) (sym (add-zero a)) ∙ oldest_placed.stack_is

  oldest_is : oldest_of k.table k.stack a ≡ x.frame
  oldest_is = ap (at k.table) bottom_is ∙ oldest_placed.table_is

  oldest_below : x.frame < m.sizes.frames
  oldest_below =
      frame_below m H.sound a x.place x.frame
      (record { at = 0; inside = omega (arith, n_is); is = ap (λ (ys : List Pair). get_or ys 0 no_pair) is })

  -- an entry of the region's stack is a place
  stack_below : (j : ℕ) → j < length (region m a) → at k.stack (a + j) < places m.sizes
  stack_below j l = rw (H.entries a j l).stack_is (owned_below m H.sound _ a (H.sound.own a j l))

  pub cut_honest : cut_ok k.head k.table k.stack (places (sizes_of k.head)) a (at k.count a) ≡ true
  cut_honest =
      let j = length xs in
      let end : a + at k.count a - 1 ≡ a + j = omega (arith, counted, n_is) in
      rw (ap places H.sizes_are)
      (says_cut k.head k.table k.stack (places m.sizes) a (at k.count a)
      (record {
        room = omega (arith, counted, n_is, owned_below m H.sound (a + j) a (H.entries a j (omega (arith, n_is))).room);
        bottom = rw add-zero at (stack_below 0 (omega (arith, n_is)));
        oldest = omega (arith, oldest_is, oldest_below, ap (λ z. z.frames) H.sizes_are);
        top = rw end (stack_below j (omega (arith, n_is)));
        few = omega (arith, counted, many_fit m k H a);
      }))

  -- ---- the splice

  -- the oldest frame is the region's last, and nowhere else
  frames_are : newest_first m a ≡ frames_of (reverse xs) ++ (x.frame ∷ [])
  frames_are = ap (λ (ys : List Pair). frames_of (reverse ys)) is ∙ frames_cons x xs

  oldest_held : times_in x.frame (newest_first m a) ≡ suc (times_in x.frame (frames_of (reverse xs)))
  oldest_held = rw frames_are (omega (arith, sum_append (hit x.frame) (frames_of (reverse xs)) (x.frame ∷ []), hit_same x.frame x.frame refl))

  not_younger : times_in x.frame (frames_of (reverse xs)) ≡ 0
  not_younger = omega (arith, oldest_held, pool_or_region m H.sound x.frame a)

  not_linked : times_in x.frame H.pooled.linked ≡ 0
  not_linked =
      let p = H.pooled in
      omega (
        arith,
        oldest_held,
        pool_or_region m H.sound x.frame a,
        ap (sum (hit x.frame)) p.pool_is,
        sum_append (hit x.frame) p.linked (unused k.head.fresh k.head.frames),
      )

  pooled_spliced : m.sizes.frames ≤ length k.link → Pooled (spliced k a).head (spliced k a).link (emptied m a).pool
  pooled_spliced long =
      let p = H.pooled in
      let newest = newest_of k.table k.stack a (at k.count a) in
      let c = chain_newest m k H a newest (newest_honest m k H a low) in
      record {
        linked = newest_first m a ++ p.linked;
        stop = p.stop;
        many_is = simp (length-append, length-map, length-reverse) (omega (arith, counted, p.many_is));
        chain =
            rw (oldest_is, frames_are)
            (chain_spliced k.link x.frame newest c.0 k.head.first p.stop (frames_of (reverse xs)) p.linked
            (omega (arith, oldest_below, long)) not_younger not_linked (rw frames_are at c.1) p.chain);
        fresh_fits = p.fresh_fits;
        pool_is = rw (p.pool_is, append_assoc);
      }

  -- the region is empty, the others are as they were
  inside : a < length m.held
  inside = omega (arith, low, H.sound.held_are)

  now_empty : region (emptied m a) a ≡ []
  now_empty = get_or-set_same m.held a [] [] inside

  others : (b : ℕ) → b ≢ a → region (emptied m a) b ≡ region m b
  others b d = get_or-set_other m.held a b [] [] d

  pub holds_spliced : m.sizes.frames ≤ length k.link → Holds (emptied m a) (spliced k a)
  holds_spliced long =
      record {
        sound = sound_emptied m H.sound a is_start_lem;
        sizes_are = H.sizes_are;
        index_long = H.index_long;
        count_long = rw length-set H.count_long;
        index_is = H.index_is;
        counts = λ p l. elim (ℕ_discrete p a) [
          | yes e ↦ rw (e, now_empty) (get_or-set_same k.count a 0 0 (omega (arith, low, H.count_long)))
          | no d ↦ rw (others p d, get_or-set_other k.count a p 0 0 d) (H.counts p l)
        ];
        entries = λ b j. elim (ℕ_discrete b a) [
          | yes e ↦ rw (e, now_empty) (λ l. absurd (not-suc-le-zero l))
          | no d ↦
              rw (others b d)
              (λ l.
              let e = H.entries b j l in
              record { stack_is = e.stack_is; helper_is = e.helper_is; cache_is = e.cache_is; table_is = e.table_is; room = e.room })
        ];
        links = λ b. elim (ℕ_discrete b a) [
          | yes e ↦ rw (e, now_empty) (record { from = 0; to = 0; chain = refl })
          | no d ↦
              rw (others b d, oldest_is)
              (linked_kept k.link x.frame k.head.first (newest_first m b) (omega (arith, oldest_held, one_region m H.sound x.frame b a d))
              (H.links b))
        ];
        pooled = pooled_spliced long;
        ram_is = H.ram_is;
      }

-- ---- the whole call

-- a region without pages stays as it is
emptied_same : (m : State) (a : ℕ) → region m a ≡ [] → emptied m a ≡ m
emptied_same m a e =
    let held_is : set m.held a [] ≡ m.held = ap (set m.held a) (sym e) ∙ set-get_or m.held a [] in
    let pool_is : newest_first m a ++ m.pool ≡ m.pool = rw e refl in
    λ i. record { sizes = m.sizes; starts = m.starts; held = held_is i; pool = pool_is i; ram = m.ram }

module _ (k : Memory) (i b : ℕ) (e : asked (sizes_of k.head) (release i b (lengths k)) ≡ 0) where
  abbrev z : Sizes
  z = sizes_of k.head

  abbrev a₀ : ℕ
  a₀ = place_of (sizes_of k.head) i b

  known : Admitted (sizes_of k.head) (uses (release i b (lengths k))) i b (lengths k)
  known = admitted (sizes_of k.head) Release i b (lengths k) e

  -- what the machine does
  out_is : (m : State) → Holds m k → (v : Bool) → bit_at k.index a₀ ≡ v → step m (release i b (lengths k)) ≡ release_at m a₀ v
  unfolding accepted
  out_is m H v is =
      let ix : IndexOf (places z) (is_start m) k.index = rw (ap places H.sizes_are) H.index_is in
      passed_step m (release i b (lengths k)) (ap (λ y. asked y (release i b (lengths k))) (sym H.sizes_are) ∙ e)
      ∙ ap (λ y. release_at m (place_of y i b) (is_start m (place_of y i b))) (sym H.sizes_are)
      ∙ ap (release_at m a₀) (sym (index_bit (places z) (is_start m) k.index ix a₀ known.place) ∙ is)

  no_start_did : bit_at k.index a₀ ≡ false → Did (release i b) k (refused 5) k
  no_start_did is =
      kept_did (release i b) k (refused 5) e (inl refl, refl) (tt, tt)
      (λ m H. let o = out_is m H false is in (sym (ap (λ r. r.answer) o), ap (λ r. r.after) o))

  module _ (set : bit_at k.index a₀ ≡ true) where
    module _ (m : State) (H : Holds m k) where
      counted_here : at k.count a₀ ≡ length (region m a₀)
      counted_here = H.counts a₀ (rw (← H.sizes_are) known.place)

      answer_start : answer m (release i b (lengths k)) ≡ pages (at k.count a₀)
      answer_start = ap (λ r. r.answer) (out_is m H true set) ∙ ap pages (sym counted_here)

      after_start : after m (release i b (lengths k)) ≡ emptied m a₀
      after_start = ap (λ r. r.after) (out_is m H true set)

    empty_did : at k.count a₀ ≡ 0 → Did (release i b) k (pages 0) k
    empty_did c =
        kept_did (release i b) k (pages 0) e refl (tt, tt)
        (λ m H.
        (sym (answer_start m H ∙ ap pages c), after_start m H ∙ emptied_same m a₀ (none_in (region m a₀) (sym (counted_here m H) ∙ c))))
      where
        none_in : (xs : List Pair) → length xs ≡ 0 → xs ≡ []
        none_in [] l = refl
        none_in (x ∷ xs) l = absurd (omega arith)

    module _ (n : ℕ) (c : at k.count a₀ ≡ suc n) where
      abbrev test : Bool
      test = cut_ok k.head k.table k.stack (places (sizes_of k.head)) a₀ (at k.count a₀)

      has_page : (m : State) → Holds m k → (x : Pair) × (xs : List Pair) × (region m a₀ ≡ x ∷ xs)
      has_page m H = go (region m a₀) (sym (counted_here m H) ∙ c)
        where
          go : (ys : List Pair) → length ys ≡ suc n → (x : Pair) × (xs : List Pair) × (ys ≡ x ∷ xs)
          go [] l = absurd (omega arith)
          go (x ∷ xs) l = (x, xs, refl)

      broken_did : test ≡ false → Did (release i b) k (refused 9) k
      broken_did f =
          kept_did (release i b) k (refused 9) e (inr (inl refl), refl) (tt, tt)
          (λ m H. let (x, xs, is) = has_page m H in absurd (true≢false (sym (cut_honest m k H a₀ x xs is) ∙ f)))

      spliced_did : test ≡ true → Did (release i b) k (pages (at k.count a₀)) (spliced k a₀)
      spliced_did f =
          let t = cut_says_lem k.head k.table k.stack (places z) a₀ (at k.count a₀) f in
          record {
            asks = rw e refl;
            stays = λ s. absurd (true≢false (sym (rw c at s)));
            bounds =
                record {
                  sizes = refl;
                  index = words_none 0 _ k.index;
                  count = record { few = changed_set k.count a₀ 0; excess = drop-set-lt (places z) k.count a₀ 0 known.place };
                  table = words_none 0 _ k.table;
                  helper = words_none 0 _ k.helper;
                  stack = words_none 0 _ k.stack;
                  cache = words_none 0 _ k.cache;
                  link =
                      record {
                        few = changed_set k.link _ k.head.first;
                        excess = drop-set-lt k.head.frames k.link _ k.head.first t.oldest;
                      };
                  ram = refl;
                };
            tells = λ f w is. tt;
            gives = λ is. tt;
            honest = λ m H.
                let (x, xs, is) = has_page m H in
                let long = subst (λ (y : Sizes). y.frames ≤ length k.link) H.sizes_are (known.lent.link refl) in
                record { answer_is = sym (answer_start m H); holds = rw (after_start m H) (holds_spliced m k H a₀ x xs is long) };
            begins = tt;
          }

    by_count : (n : ℕ) → at k.count a₀ ≡ n → (v : Bool) → cut_ok k.head k.table k.stack (places z) a₀ (at k.count a₀) ≡ v
        → Did (release i b) k (cut_says (cut_if n v a₀) k) (cut_leaves (cut_if n v a₀) k)
    by_count zero c v f = empty_did c
    by_count (suc n) c true f = spliced_did n c f
    by_count (suc n) c false f = broken_did n c f

  by_set : (v : Bool) → bit_at k.index a₀ ≡ v
      → let c = cut_for v k.head k.count k.table k.stack (places z) a₀ in Did (release i b) k (cut_says c k) (cut_leaves c k)
  by_set true is = by_count is (at k.count a₀) refl _ refl
  by_set false is = no_start_did is

pub release_did : (i b : ℕ) (k : Memory) (a : Answer) (k' : Memory) → ReleaseDone i b k a k' → Did (release i b) k a k'
release_did i b k a k' d =
    checked_did (release i b) k _ (page_check k i b Release (release_lengths k) refl) _ a k' d
    (λ e r. rw (r.answer_is, r.after_is) (by_set k i b e (bit_at k.index _) refl))
