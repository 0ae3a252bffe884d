-- On honest memory the words of a hand-back keep memory and machine together.
use Rattle.std.specs.Prelude.{◌≡◌, refl, ◌≢◌, Bool, true, false, List, [], ◌∷◌, reverse, ℕ, suc, ◌+◌, ◌-◌, ◌≤◌, ◌<◌, ltb, length, get_or, set}
use Rattle.std.proofs.Common.{sym, ap, ◌∙◌, subst, arith, ltb-true, length-set, get_or-set_same, get_or-set_other}
use Rattle.std.proofs.Math.Option.{some-injective}
use Rattle.std.proofs.Math.Decide.{ℕ_discrete}
use Rattle.sequence.specs.Sums.{sum, sum_append, sum_two, sum_at, hit, hit_same}
use Rattle.machine.specs.Machine.{places, State, Pair, no_pair, region, start_of, frames_of, every_table, index_in, without, handed_back}
use Rattle.machine.specs.Claims.{Sound, times_in}
use Rattle.machine.proofs.Laws.Lookup.{Mapped}
use Rattle.machine.proofs.Laws.Kept.{start_of_pair, start_below}
use Rattle.machine.proofs.Laws.Holders.{frame_below}
use Rattle.machine.proofs.Laws.Handed.{Stands, stands, region_long, at_most, region_here, region_there, length_without, without_here, without_there, sum_without}
use Rattle.machine.proofs.Laws.Handed.{sound_handed}
use Rattle.memory.specs.Memory.{Memory, at, lengths}
use Rattle.promise.specs.Holds.{Placed, Chain, Linked, Pooled, unused, Holds}
use Rattle.pool.specs.Chains.{chain_kept, linked_kept}
use Rattle.pool.specs.Pool.{newest_first, times_newest, pool_or_region, one_region}
use Rattle.laws.specs.Refusals.{Long}
use Rattle.laws.specs.Room.{owned_below}
use Rattle.giving.specs.Models.{relinked, left_by, left}
use Rattle.giving.proofs.Chain.{frame_at, Steps, Apart, steps_linked, linked_steps, steps_without}

-- ---- the links are changed at frames that a list hasn't

relinked_kept : (b : Bool) (link : List ℕ) (f next last v from to : ℕ) (xs : List ℕ) → times_in f xs ≡ 0 → (b ≡ true → times_in next xs ≡ 0)
    → times_in last xs ≡ 0 → Chain link from xs to → Chain (set (relinked b link f next last) f v) from xs to
relinked_kept true link f next last v from to xs z y w l =
    chain_kept (set (set link next last) last (at link f)) f v from to xs z
    (chain_kept (set link next last) last (at link f) from to xs w (chain_kept link next last from to xs (y refl) l))
relinked_kept false link f next last v from to xs z y w l = chain_kept link f v from to xs z l

pub relinked_long : (b : Bool) (link : List ℕ) (f next last : ℕ) → length (relinked b link f next last) ≡ length link
relinked_long true link f next last = length-set (set link next last) last (at link f) ∙ length-set link next last
relinked_long false link f next last = refl

module _ (m : State) (k : Memory) (H : Holds m k) (lent : Long every_table m.sizes (lengths k)) (p a f : ℕ) (there : Mapped m p a f) where
  abbrev n : ℕ
  n = length (region m a) - 1

  abbrev i : ℕ
  i = index_in p (region m a)

  abbrev newest : Pair
  newest = get_or (region m a) (length (region m a) - 1) no_pair

  abbrev next : ℕ
  next = frame_at (region m a) (suc (index_in p (region m a)))

  abbrev after : State
  after = handed_back m a p f

  abbrev s : Sound m
  s = H.sound

  here : Stands p f (index_in p (region m a)) (region m a)
  here = stands m s p a f there

  long : length (region m a) ≡ suc (length (region m a) - 1)
  long = region_long m s p a f there

  low : index_in p (region m a) ≤ length (region m a) - 1
  low = at_most m s p a f there

  size_now : length (without (index_in p (region m a)) (region m a)) ≡ length (region m a) - 1
  size_now = length_without n i (region m a) long low

  leaver : frame_at (region m a) (index_in p (region m a)) ≡ f
  leaver = ap (λ (x : Pair). x.frame) here.is

  start_low : a < places m.sizes
  start_low = start_below m s a (start_of_pair m s a i here.inside)

  -- ---- different entries, different frames and places

  frame_at_lem : (g j : ℕ) → j < length (region m a) → frame_at (region m a) j ≡ g → 1 ≤ times_in g (newest_first m a)
  frame_at_lem g j l e =
      omega (arith, times_newest g (region m a), sum_at (λ x. hit g x.frame) (region m a) j no_pair l, hit_same g (frame_at (region m a) j) e)

  apart : Apart k.link (region m a)
  apart =
      record {
        low = λ j l.
            let b = frame_below m s a _ _ (record { at = j; inside = l; is = refl }) in
            omega (arith, lent.link refl);
        differ = λ j l x y d e.
            let g = frame_at (region m a) l in
            omega (
              arith,
              pool_or_region m s g a,
              times_newest g (region m a),
              sum_two (λ x. hit g x.frame) (region m a) j l no_pair x y d,
              hit_same g (frame_at (region m a) j) e,
              hit_same g g refl,
            );
      }

  place_apart : (j l : ℕ) → j < length (region m a) → l < length (region m a) → j ≢ l → (get_or (region m a) j no_pair).place ≢ (get_or (region m a) l no_pair).place
  place_apart j l x y d e =
      let q = (get_or (region m a) l no_pair).place in
      omega (
        arith,
        s.once q,
        sum_at (λ ys. sum (λ x. hit q x.place) ys) m.held a [] (omega (arith, start_low, s.held_are)),
        sum_two (λ x. hit q x.place) (region m a) j l no_pair x y d,
        hit_same q (get_or (region m a) j no_pair).place e,
        hit_same q q refl,
      )

  -- ---- counts and entries, with the words that honest memory has

  abbrev k' : Memory
  k' = left_by k a i n newest.place f next newest.frame

  all_counted : (q : ℕ) → q < places m.sizes → at (set k.count a (length (region m a) - 1)) q ≡ length (region (handed_back m a p f) q)
  all_counted q l = elim (ℕ_discrete q a) [
    | yes e ↦ rw (e, region_here m s p a f there, get_or-set_same k.count a n 0 (omega (arith, H.count_long))) (sym size_now)
    | no d ↦ rw (get_or-set_other k.count a q n 0 d, region_there m s p a f there q d) (H.counts q l)
  ]

  -- an entry that keeps its position
  old_placed : (b j : ℕ) → j < length (region m b) → b + j ≢ a + index_in p (region m a) → (get_or (region m b) j no_pair).place ≢ newest.place
      → Placed (handed_back m a p f) k' b j (get_or (region m b) j no_pair)
  old_placed b j l stack-apart place-differs =
      let x = H.entries b j l in
      record {
        stack_is = get_or-set_other k.stack (a + i) (b + j) newest.place 0 stack-apart ∙ x.stack_is;
        helper_is = get_or-set_other k.helper newest.place (get_or (region m b) j no_pair).place i 0 place-differs ∙ x.helper_is;
        cache_is = x.cache_is;
        table_is = x.table_is;
        room = x.room;
      }

  -- the newest at the leaver's position
  new_placed : Placed (handed_back m a p f) k' a (index_in p (region m a)) newest
  new_placed =
      let x = H.entries a n (omega (arith, long)) in
      let r = (H.entries a i here.inside).room in
      record {
        stack_is = get_or-set_same k.stack (a + i) newest.place 0 (omega (arith, owned_below m s _ a r, lent.stack refl));
        helper_is = get_or-set_same k.helper newest.place i 0 (omega (arith, owned_below m s _ a (s.own a n (omega (arith, long))), lent.helper refl));
        cache_is = x.cache_is;
        table_is = x.table_is;
        room = r;
      }

  other_region : (b j : ℕ) → b ≢ a → j < length (region m b) → Placed (handed_back m a p f) k' b j (get_or (region m b) j no_pair)
  other_region b j d l =
      old_placed b j l
      (λ e. d (some-injective b a (sym (H.entries b j l).room ∙ ap (start_of m) e ∙ (H.entries a i here.inside).room)))
      (λ e. d (some-injective b a (sym (s.own b j l) ∙ ap (start_of m) e ∙ s.own a n (omega (arith, long)))))

  here_placed : (j : ℕ) → j < length (without (index_in p (region m a)) (region m a))
      → Placed (handed_back m a p f) k' a j (get_or (without (index_in p (region m a)) (region m a)) j no_pair)
  here_placed j l₀ =
      let l : j < length (region m a) - 1 = omega (arith, size_now) in
      elim (ℕ_discrete j (index_in p (region m a))) [
        | yes e ↦
            subst (λ (x : Pair). Placed after k' a j x)
            (sym (ap (λ (q : ℕ). get_or (without i (region m a)) q no_pair) e ∙ without_here n i (region m a) long low (omega arith)))
            (subst (λ (q : ℕ). Placed after k' a q newest) (sym e) new_placed)
        | no d ↦
            subst (λ (x : Pair). Placed after k' a j x) (sym (without_there n i (region m a) long low j l d))
            (old_placed a j (omega arith) (omega arith) (place_apart j n (omega arith) (omega (arith, long)) (omega arith)))
      ]

  all_placed : (b j : ℕ) → j < length (region (handed_back m a p f) b) → Placed (handed_back m a p f) k' b j (get_or (region (handed_back m a p f) b) j no_pair)
  all_placed b = elim (ℕ_discrete b a) [
    | yes e ↦ rw (e, region_here m s p a f there) here_placed
    | no d ↦ rw (region_there m s p a f there b d) (λ j l. other_region b j d l)
  ]

  -- ---- links

  -- the three frames are the region's
  has_f : 1 ≤ times_in f (newest_first m a)
  has_f = frame_at_lem f i here.inside leaver

  has_last : 1 ≤ times_in newest.frame (newest_first m a)
  has_last = frame_at_lem newest.frame n (omega (arith, long)) refl

  has_next : ltb (index_in p (region m a)) (length (region m a) - 1) ≡ true → 1 ≤ times_in next (newest_first m a)
  has_next e = frame_at_lem next (suc i) (omega (arith, long, ltb-true i n e)) refl

  -- a list that shares no frame with the region keeps its links
  kept : (from to : ℕ) (xs : List ℕ) → ((g : ℕ) → 1 ≤ times_in g (newest_first m a) → times_in g xs ≡ 0) → Chain k.link from xs to
      → Chain k'.link from xs to
  kept from to xs none c =
      relinked_kept (ltb i n) k.link f next newest.frame k.head.first from to xs (none f has_f) (λ e. none next (has_next e))
      (none newest.frame has_last) c

  -- the leaver's frame is no longer the region's
  gone : times_in f (frames_of (reverse (without (index_in p (region m a)) (region m a)))) ≡ 0
  gone =
      omega (
        arith,
        times_newest f (without i (region m a)),
        sum_without n i (region m a) long low (λ x. hit f x.frame),
        hit_same f (frame_at (region m a) i) leaver,
        times_newest f (region m a),
        pool_or_region m s f a,
      )

  abbrev link₁ : List ℕ
  link₁ = relinked (ltb i n) k.link f next newest.frame

  all_linked : (b : ℕ) → Linked k'.link (newest_first (handed_back m a p f) b)
  all_linked b = elim (ℕ_discrete b a) [
    | yes e ↦
        rw (e, region_here m s p a f there)
        (linked_kept link₁ f k.head.first _ gone
        (steps_linked link₁ (without i (region m a))
        (subst (λ (g : ℕ). Steps (relinked (ltb i n) k.link g next newest.frame) (without i (region m a))) leaver
        (steps_without k.link n i (region m a) long low apart (linked_steps k.link (region m a) (H.links a))))))
    | no d ↦
        let l = H.links b in
        rw (region_there m s p a f there b d)
        (record {
          from = l.from;
          to = l.to;
          chain = kept l.from l.to (newest_first m b) (λ g h. omega (arith, one_region m s g b a d)) l.chain;
        })
  ]

  -- ---- the pool: the frame stands before the linked ones

  f_low : f < length link₁
  f_low = rw relinked_long (subst (λ (g : ℕ). g < length k.link) leaver (apart.low i here.inside))

  pooled_handed : Pooled k'.head k'.link (handed_back m a p f).pool
  pooled_handed =
      let q = H.pooled in
      let not_linked : (g : ℕ) → 1 ≤ times_in g (newest_first m a) → times_in g q.linked ≡ 0 = λ g h.
      omega (
        arith,
        pool_or_region m s g a,
        ap (sum (hit g)) q.pool_is,
        sum_append (hit g) q.linked (unused k.head.fresh k.head.frames),
      ) in
      record {
        linked = f ∷ q.linked;
        stop = q.stop;
        many_is = omega (arith, q.many_is);
        chain = (refl, rw (get_or-set_same link₁ f k.head.first 0 f_low) (kept k.head.first q.stop q.linked not_linked q.chain));
        fresh_fits = q.fresh_fits;
        pool_is = ap (λ (fs : List ℕ). f ∷ fs) q.pool_is;
      }

  -- ---- all of it

  holds_by : Holds (handed_back m a p f) k'
  holds_by =
      record {
        sound = sound_handed m s p a f there;
        sizes_are = H.sizes_are;
        index_long = H.index_long;
        count_long = rw length-set H.count_long;
        index_is = H.index_is;
        counts = all_counted;
        entries = all_placed;
        links = all_linked;
        pooled = pooled_handed;
        ram_is = H.ram_is;
      }

  -- ---- the words that the code reads are those; the younger neighbour's only where there is one

  leaver_placed : Placed m k a (index_in p (region m a)) (record { place = p; frame = f })
  leaver_placed = subst (Placed m k a i) here.is (H.entries a i here.inside)

  newest_placed : Placed m k a (length (region m a) - 1) newest
  newest_placed = H.entries a n (omega (arith, long))

  pub start_word_lem : at k.cache p ≡ a
  start_word_lem = leaver_placed.cache_is

  pub position_word : at k.helper p ≡ index_in p (region m a)
  position_word = leaver_placed.helper_is

  pub last_word : at k.count a - 1 ≡ length (region m a) - 1
  last_word = ap (λ (c : ℕ). c - 1) (H.counts a start_low)

  next_word : index_in p (region m a) < length (region m a) - 1 → at k.table (at k.stack (a + index_in p (region m a) + 1)) ≡ next
  next_word l =
      let x = H.entries a (suc i) (omega (arith, long)) in
      let w : a + i + 1 ≡ a + suc i = omega arith in
      ap (at k.table) (ap (at k.stack) w ∙ x.stack_is) ∙ x.table_is

  relinked_same : (v w : ℕ) → (index_in p (region m a) < length (region m a) - 1 → v ≡ w)
      → relinked (ltb i n) k.link f v newest.frame ≡ relinked (ltb i n) k.link f w newest.frame
  relinked_same v w e = go (ltb i n) refl
    where
      go : (b : Bool) → ltb i n ≡ b → relinked b k.link f v newest.frame ≡ relinked b k.link f w newest.frame
      go true t = ap (λ (x : ℕ). set (set k.link x newest.frame) newest.frame (at k.link f)) (e (ltb-true i n t))
      go false t = refl

  pub holds_handed : Holds (handed_back m a p f) (left k p)
  holds_handed =
      let v = at k.table (at k.stack (a + i + 1)) in
      rw (start_word_lem, position_word, last_word, newest_placed.stack_is, leaver_placed.table_is, newest_placed.table_is)
      (subst (λ (ls : List ℕ). Holds after (record {
        head = k'.head;
        index = k'.index;
        count = k'.count;
        table = k'.table;
        helper = k'.helper;
        stack = k'.stack;
        cache = k'.cache;
        link = set ls f k.head.first;
        ram = k'.ram;
      }))
      (relinked_same next v (λ l. sym (next_word l)))
      holds_by)
