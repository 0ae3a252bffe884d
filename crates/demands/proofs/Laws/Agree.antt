-- Which machine a memory stands for is told by the first T words of the tables, the index's own words, the first F links, and the RAM.
use Rattle.std.specs.Prelude.{◌≡◌, refl, Bool, true, false, List, [], ◌∷◌, ◌++◌, reverse, ℕ, ◌+◌, ◌≤◌, ◌<◌, length, take, drop, get_or}
use Rattle.std.proofs.Common.{sym, ap, ap₂, ◌∙◌, append-nil, arith, length-append, length-take-le, get_or-take, ext_get_or}
use Rattle.std.proofs.Math.Decide.{dec_lt}
use Rattle.std.proofs.Math.ListN.{get_or-append}
use Rattle.std.proofs.Math.Seq.{take-length, drop-length}
use Rattle.sequence.specs.Sums.{sum, sum_map, sum_reverse, sum_append, hit, hit_same, count_none}
use Rattle.places.specs.Places.{size}
use Rattle.index.specs.Words.{IndexOf}
use Rattle.machine.specs.Machine.{Sizes, places, State, Pair, Lent, Uses, is_start, region, frames_of, with_ram}
use Rattle.machine.specs.Claims.{no_pair, times_in}
use Rattle.machine.proofs.Laws.Kept.{sound_stored}
use Rattle.memory.specs.Memory.{Memory, at, sizes_of, lengths}
use Rattle.promise.specs.Holds.{Chain, Pooled, unused, Placed, Holds}
use Rattle.pool.specs.Pool.{sum_any, free_below}
use Rattle.laws.specs.Refusals.{Long}
use Rattle.laws.specs.Room.{owned_below}
use Rattle.demands.specs.History.{front, rejoined, Lends, Parts}
use Rattle.demands.proofs.Laws.Parts.{lends_enough, lengths_front}
use Rattle.demands.proofs.Laws.Cut.{cut, mended}

-- ---- lists with the same front

abbrev Same : ℕ → List ℕ → List ℕ → Type 0
Same n l l' = (i : ℕ) → i < n → at l' i ≡ at l i

-- the part of a buffer that a call is lent, long enough by its check, and all of one that it isn't lent
taken : (u : Bool) (t n : ℕ) (l : List ℕ) → Lends u n (length l) → (u ≡ true → t ≤ n) → Same t l (take n l)
taken true t n l h long i j = get_or-take n l i 0 (omega (arith, long refl))
taken false t n l h long i j = ap (λ (k : ℕ). at (take k l) i) h ∙ ap (λ (ws : List ℕ). at ws i) (take-length l)

-- what the call left of it, put together with the rest
joined : (u : Bool) (t n : ℕ) (l whole : List ℕ) → Lends u n (length whole) → (u ≡ true → t ≤ n) → length l ≡ n → Same t l (l ++ drop n whole)
joined true t n l whole h long e i j = get_or-append l (drop n whole) 0 i (omega (arith, long refl))
joined false t n l whole h long e i j =
    ap (λ (k : ℕ). at (l ++ drop k whole) i) h ∙ ap (λ (ws : List ℕ). at (l ++ ws) i) (drop-length whole) ∙ ap (λ (ws : List ℕ). at ws i) (append-nil l)

same_take : (n : ℕ) (l l' : List ℕ) → n ≤ length l → n ≤ length l' → Same n l l' → take n l' ≡ take n l
same_take n l l' h h' s =
    let e = length-take-le n l' h' in
    ext_get_or 0 (take n l') (take n l) (e ∙ sym (length-take-le n l h))
    (λ i j. get_or-take n l' i 0 (omega arith) ∙ s i (omega arith) ∙ sym (get_or-take n l i 0 (omega arith)))

-- ---- chains

chain_same : (n : ℕ) (link link' : List ℕ) → Same n link link' → (a b : ℕ) (xs : List ℕ) → ((f : ℕ) → 0 < times_in f xs → f < n) → Chain link a xs b
    → Chain link' a xs b
chain_same n link link' s a b [] below c = c
chain_same n link link' s a b (x ∷ xs) below c =
    (c.0, rw (s x (below x (omega (arith, hit_same x x refl)))) (chain_same n link link' s (at link x) b xs (λ f h. below f (omega arith)) c.1))

-- ---- memories with the same front

pub record Agree (z : Sizes) (k k' : Memory) : Type 0 where
  pub head : k'.head ≡ k.head
  pub index_long : size (places z) ≤ length k'.index
  pub count_long : places z ≤ length k'.count
  pub index : Same (size (places z)) k.index k'.index
  pub count : Same (places z) k.count k'.count
  pub table : Same (places z) k.table k'.table
  pub helper : Same (places z) k.helper k'.helper
  pub stack : Same (places z) k.stack k'.stack
  pub cache : Same (places z) k.cache k'.cache
  pub link : Same z.frames k.link k'.link

module _ (m : State) (k k' : Memory) (H : Holds m k) (A : Agree m.sizes k k') where
  -- a region's frames are below F
  held_below : (a f : ℕ) → 0 < times_in f (frames_of (reverse (region m a))) → f < m.sizes.frames
  held_below a f h = elim (dec_lt f m.sizes.frames) [
    | yes l ↦ l
    | no l ↦
        absurd
        (omega (
          arith,
          H.sound.whole (hit f),
          count_none f (λ k. k) m.sizes.frames (λ k j. omega arith),
          sum_map (hit f) (λ (x : Pair). x.frame) (reverse (region m a)),
          sum_reverse (λ (x : Pair). hit f x.frame) (region m a),
          sum_any (λ (xs : List Pair). sum (λ x. hit f x.frame) xs) [] refl m.held a,
        ))
  ]

  -- and so are those linked in the pool
  linked_below : (f : ℕ) → 0 < times_in f H.pooled.linked → f < m.sizes.frames
  linked_below f h =
      free_below m H.sound f
      (omega (arith, ap (sum (hit f)) H.pooled.pool_is, sum_append (hit f) H.pooled.linked (unused k.head.fresh k.head.frames)))

  index_agrees : IndexOf (places m.sizes) (is_start m) k'.index
  unfolding IndexOf
  index_agrees = same_take (size (places m.sizes)) k.index k'.index H.index_long A.index_long A.index ∙ H.index_is

  placed : (ram : List ℕ) (a j : ℕ) → j < length (region m a) → Placed (with_ram m ram) k' a j (get_or (region m a) j no_pair)
  placed ram a j l =
      let e = H.entries a j l in
      let p = owned_below m H.sound _ a (H.sound.own a j l) in
      record {
        stack_is = A.stack (a + j) (owned_below m H.sound (a + j) a e.room) ∙ e.stack_is;
        helper_is = A.helper _ p ∙ e.helper_is;
        cache_is = A.cache _ p ∙ e.cache_is;
        table_is = A.table _ p ∙ e.table_is;
        room = e.room;
      }

  pooled : Pooled k'.head k'.link m.pool
  pooled =
      let p = H.pooled in
      rw A.head
      (record {
        linked = p.linked;
        stop = p.stop;
        many_is = p.many_is;
        chain = chain_same m.sizes.frames k.link k'.link A.link k.head.first p.stop p.linked linked_below p.chain;
        fresh_fits = p.fresh_fits;
        pool_is = p.pool_is;
      })

  -- with the RAM that it has
  holds_agree : (ram : List ℕ) → k'.ram ≡ ram → Holds (with_ram m ram) k'
  holds_agree ram is =
      record {
        sound = sound_stored m H.sound ram;
        sizes_are = ap sizes_of A.head ∙ H.sizes_are;
        index_long = A.index_long;
        count_long = A.count_long;
        index_is = index_agrees;
        counts = λ p l. A.count p l ∙ H.counts p l;
        entries = placed ram;
        links = λ a.
            let l = H.links a in
            record {
              from = l.from;
              to = l.to;
              chain = chain_same m.sizes.frames k.link k'.link A.link l.from l.to
                  (frames_of (reverse (region m a))) (held_below a) l.chain;
            };
        pooled = pooled;
        ram_is = is;
      }

-- ---- a front part that is long enough for what the call uses, and the whole again

module _ (m : State) (u : Uses) (n : Lent) (k : Memory) (p : Parts u n (lengths k)) (long : Long u m.sizes n) where
  pub front_holds : Holds m k → Holds (cut n.ram m) (front n k)
  front_holds H =
      let e = lengths_front u n k p in
      holds_agree m k (front n k) H
      (record {
        head = refl;
        index_long = rw (ap (λ (x : Lent). x.index) e) (lends_enough u.index _ _ _ p.index long.index H.index_long);
        count_long = rw (ap (λ (x : Lent). x.count) e) (lends_enough u.count _ _ _ p.count long.count H.count_long);
        index = taken u.index _ n.index k.index p.index long.index;
        count = taken u.count _ n.count k.count p.count long.count;
        table = taken u.table _ n.table k.table p.table long.table;
        helper = taken u.helper _ n.helper k.helper p.helper long.helper;
        stack = taken u.stack _ n.stack k.stack p.stack long.stack;
        cache = taken u.cache _ n.cache k.cache p.cache long.cache;
        link = taken u.link _ n.link k.link p.link long.link;
      })
      (take n.ram m.ram) (ap (take n.ram) H.ram_is)

  pub rejoined_holds : (part : Memory) → lengths part ≡ n → (ram : List ℕ) → k.ram ≡ ram → Holds m part
      → Holds (mended m (drop n.ram ram)) (rejoined n part k)
  rejoined_holds part e ram is H =
      holds_agree m part (rejoined n part k) H
      (record {
        head = refl;
        index_long = omega (arith, H.index_long, length-append part.index (drop n.index k.index));
        count_long = omega (arith, H.count_long, length-append part.count (drop n.count k.count));
        index = joined u.index _ n.index part.index k.index p.index long.index (ap (λ (x : Lent). x.index) e);
        count = joined u.count _ n.count part.count k.count p.count long.count (ap (λ (x : Lent). x.count) e);
        table = joined u.table _ n.table part.table k.table p.table long.table (ap (λ (x : Lent). x.table) e);
        helper = joined u.helper _ n.helper part.helper k.helper p.helper long.helper (ap (λ (x : Lent). x.helper) e);
        stack = joined u.stack _ n.stack part.stack k.stack p.stack long.stack (ap (λ (x : Lent). x.stack) e);
        cache = joined u.cache _ n.cache part.cache k.cache p.cache long.cache (ap (λ (x : Lent). x.cache) e);
        link = joined u.link _ n.link part.link k.link p.link long.link (ap (λ (x : Lent). x.link) e);
      })
      (m.ram ++ drop n.ram ram) (ap₂ (λ (x y : List ℕ). x ++ drop n.ram y) H.ram_is is)
