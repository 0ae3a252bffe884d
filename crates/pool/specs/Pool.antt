-- What head and links say of the pool and the regions' frames on honest memory, and what a frame taken from the pool leaves.
use Rattle.std.specs.Prelude.{◌≡◌, refl, ◌≢◌, true, false, ℕ, zero, suc, ◌+◌, ◌-◌, ◌≤◌, ◌<◌, get_or, set}
use Rattle.std.proofs.Common.{sym, ap₂, ◌∙◌, add-zero, arith, length-append, get_or-set_same, get_or-set_other}
use Rattle.std.proofs.Math.Path.{ap, fun_ext}
use mathlib.Core.List.{List, [], ◌∷◌, ◌++◌, reverse, reverse-cons, reverse-append, map-append}
use Rattle.std.proofs.Math.Decide.{ℕ_discrete, dec_lt}
use borrow.Author.Tests.{eq-eqb, ne_eqb, le-leb, lt-leb}
use Rattle.std.proofs.Math.ListN.{length}
use Rattle.sequence.specs.Lists.{tabulate, length_tabulate}
use Rattle.sequence.specs.Sums.{sum, sum_map, sum_reverse, sum_append, hit, hit_same}
use Rattle.machine.specs.Machine.{State, Pair, places, region, frames_of, with_pair}
use Rattle.machine.specs.Claims.{Sound, no_pair, times_in, times_free}
use Rattle.machine.proofs.Laws.Holders.{no_holder, at_most_once, pool_and_resident}
use Rattle.memory.specs.Memory.{Memory, at}
use Rattle.memory.specs.declared.Head.{Head}
use Rattle.promise.specs.Holds.{Chain, Linked, Pooled, unused, Holds}
use Rattle.promise.specs.Did.{frames_left}
use Rattle.pool.specs.Models.{empty_pool, taken_from, taken, newest_of}
use Rattle.pool.specs.Chains.{linked_kept, chain_kept, chain_from}

-- ---- entries of a list, and past its end what counts for nothing

module _ {ℓ} {A : Type ℓ} (g : A → ℕ) (d : A) (z : g d ≡ 0) where
  pub sum_any : (xs : List A) (i : ℕ) → g (get_or xs i d) ≤ sum g xs
  sum_any [] i = omega arith
  sum_any (x ∷ xs) zero = omega arith
  sum_any (x ∷ xs) (suc i) = omega (arith, sum_any xs i)

  pub sum_any_two : (xs : List A) (i j : ℕ) → i ≢ j → g (get_or xs i d) + g (get_or xs j d) ≤ sum g xs
  sum_any_two [] i j n = omega arith
  sum_any_two (x ∷ xs) zero zero n = absurd (n refl)
  sum_any_two (x ∷ xs) zero (suc j) n = omega (arith, sum_any xs j)
  sum_any_two (x ∷ xs) (suc i) zero n = omega (arith, sum_any xs i)
  sum_any_two (x ∷ xs) (suc i) (suc j) n = omega (arith, sum_any_two xs i j (omega arith))

-- ---- a region's frames, newest first

abbrev pub newest_first : State → ℕ → List ℕ
newest_first m a = frames_of (reverse (region m a))

pub frames_cons : (x : Pair) (xs : List Pair) → frames_of (reverse (x ∷ xs)) ≡ frames_of (reverse xs) ++ (x.frame ∷ [])
frames_cons x xs = simp (reverse-cons, map-append)

pub frames_snoc : (xs : List Pair) (x : Pair) → frames_of (reverse (xs ++ (x ∷ []))) ≡ x.frame ∷ frames_of (reverse xs)
frames_snoc xs x = simp reverse-append

pub times_newest : (f : ℕ) (xs : List Pair) → times_in f (frames_of (reverse xs)) ≡ sum (λ x. hit f x.frame) xs
times_newest f xs = sum_map (hit f) (λ (x : Pair). x.frame) (reverse xs) ∙ sum_reverse (λ (x : Pair). hit f x.frame) xs

-- the first of them is that of the last pair
newest_first_lem : (xs : List Pair) (n : ℕ) → length xs ≡ suc n → (rest : List ℕ) × (frames_of (reverse xs) ≡ (get_or xs n no_pair).frame ∷ rest)
newest_first_lem [] n e = absurd (omega arith)
newest_first_lem (x ∷ []) zero e = ([], refl)
newest_first_lem (x ∷ []) (suc n) e = absurd (omega arith)
newest_first_lem (x ∷ y ∷ ys) zero e = absurd (omega arith)
newest_first_lem (x ∷ y ∷ ys) (suc n) e =
    let r = newest_first_lem (y ∷ ys) n (omega arith) in
    (r.0 ++ (x.frame ∷ []), frames_cons x (y ∷ ys) ∙ ap (λ (fs : List ℕ). fs ++ (x.frame ∷ [])) r.1)

-- v is the newest frame of region a, if it has one
abbrev pub Newest : State → ℕ → ℕ → Type 0
Newest m a v = (n : ℕ) → length (region m a) ≡ suc n → v ≡ (get_or (region m a) n no_pair).frame

-- ---- no frame is in two places

module _ (m : State) (s : Sound m) where
  pub free_below : (f : ℕ) → 0 < times_free f m → f < m.sizes.frames
  free_below f h = elim (dec_lt f m.sizes.frames) [
    | yes l ↦ l
    | no l ↦ absurd (omega (arith, no_holder m s f (omega arith)))
  ]

  pub pool_or_region : (f a : ℕ) → times_free f m + times_in f (newest_first m a) ≤ 1
  pool_or_region f a =
      omega (arith, at_most_once m s f, times_newest f (region m a), sum_any (λ (xs : List Pair). sum (λ x. hit f x.frame) xs) [] refl m.held a)

  pub one_region : (f a b : ℕ) → a ≢ b → times_in f (newest_first m a) + times_in f (newest_first m b) ≤ 1
  one_region f a b n =
      omega (
        arith,
        at_most_once m s f,
        times_newest f (region m a),
        times_newest f (region m b),
        sum_any_two (λ (xs : List Pair). sum (λ x. hit f x.frame) xs) [] refl m.held a b n,
      )

  -- the first frame of the pool is nowhere else
  module _ (f : ℕ) (rest : List ℕ) (is : m.pool ≡ f ∷ rest) where
    first_free : times_free f m ≡ suc (times_in f rest)
    first_free = omega (arith, ap (sum (hit f)) is, hit_same f f refl)

    pub not_held : (a : ℕ) → times_in f (newest_first m a) ≡ 0
    not_held a = omega (arith, first_free, pool_or_region f a)

    pub not_again : times_in f rest ≡ 0
    not_again = omega (arith, first_free, at_most_once m s f)

-- ---- the frames never used

pub unused_none : (n f : ℕ) → f ≤ n → unused n f ≡ []
unfolding tabulate
unused_none n f h = let e : f - n ≡ 0 = omega arith in rw e

unused_cons : (n f : ℕ) → n < f → unused n f ≡ n ∷ unused (n + 1) f
unfolding tabulate
unused_cons n f h =
    let e : f - n ≡ suc (f - (n + 1)) = omega arith in
    rw e (ap₂ ◌∷◌ (add-zero n) (ap (λ (g : ℕ → ℕ). tabulate g (f - (n + 1))) (fun_ext (λ (i : ℕ). omega arith))))

-- ---- the pool

module _ (h : Head) (link pool : List ℕ) (p : Pooled h link pool) where
  pub pool_length : length pool ≡ h.many + (h.frames - h.fresh)
  pool_length =
      omega (
        arith,
        ap length p.pool_is,
        length-append p.linked (unused h.fresh h.frames),
        length_tabulate (λ (j : ℕ). h.fresh + j) (h.frames - h.fresh),
        p.many_is,
      )

  -- the code's test for an empty pool
  pub pool_none : pool ≡ [] → empty_pool h ≡ true
  unfolding empty_pool
  pool_none e =
      rw (eq-eqb h.many 0 (omega (arith, pool_length, ap length e)), le-leb h.frames h.fresh (omega (arith, pool_length, ap length e)))

  pub pool_some : (f : ℕ) (rest : List ℕ) → pool ≡ f ∷ rest → empty_pool h ≡ false
  unfolding empty_pool
  pool_some f rest e = elim (dec_lt 0 h.many) [
    | yes l ↦ rw (ne_eqb h.many 0 (λ q. omega arith))
    | no l ↦ rw (eq-eqb h.many 0 (omega arith), lt-leb h.frames h.fresh (omega (arith, pool_length, ap length e)))
  ]

  -- the first frame is the one that is taken, and the rest is the pool then, if the frame isn't in the rest
  pub pool_taken : (f : ℕ) (rest : List ℕ) → pool ≡ f ∷ rest
      → ((taken link h).frame ≡ f) × ((v : ℕ) → times_in f rest ≡ 0 → Pooled (taken link h).head (set link f v) rest)
  pool_taken f rest is = go p.linked h.many p.many_is (sym is ∙ p.pool_is) p.chain
    where
      go : (xs : List ℕ) (n : ℕ) → n ≡ length xs → f ∷ rest ≡ xs ++ unused h.fresh h.frames → Chain link h.first xs p.stop
          → ((taken_from link h n).frame ≡ f) × ((v : ℕ) → times_in f rest ≡ 0 → Pooled (taken_from link h n).head (set link f v) rest)
      go [] zero n e c = elim (dec_lt h.fresh h.frames) [
        | yes l ↦
            let u = unused_cons h.fresh h.frames l in (
              cc,
              λ v z. record { linked = []; stop = h.first; many_is = refl; chain = refl; fresh_fits = omega arith; pool_is = cc },
            )
        | no l ↦ absurd (let u = unused_none h.fresh h.frames (omega arith) in let w : ◌≡◌ {A = ℕ} 0 1 = cc in omega arith)
      ]
      go [] (suc k) n e c = absurd (omega arith)
      go (x ∷ xs) zero n e c = absurd (omega arith)
      go (x ∷ xs) (suc k) n e c =
          let same : h.first ≡ f = c.0 ∙ cc in
          let tail : rest ≡ xs ++ unused h.fresh h.frames = cc in (
            same,
            λ v z.
                record {
                  linked = xs;
                  stop = p.stop;
                  many_is = omega arith;
                  chain = rw c.0 (chain_kept link f v (at link x) p.stop xs
                      (omega (arith, ap (sum (hit f)) tail, sum_append (hit f) xs (unused h.fresh h.frames))) c.1);
                  fresh_fits = p.fresh_fits;
                  pool_is = tail;
                },
          )

-- ---- honest memory

module _ (m : State) (k : Memory) (H : Holds m k) where
  -- the pool and a region have at most all frames
  pub many_fit : (a : ℕ) → k.head.many + length (region m a) ≤ k.head.frames
  many_fit a =
      omega (
        arith,
        ap (λ z. z.frames) H.sizes_are,
        pool_and_resident m H.sound,
        sum_any length [] refl m.held a,
        pool_length k.head k.link m.pool H.pooled,
      )

  -- the pool has at most all frames
  pub given_all : frames_left k.head ≤ k.head.frames
  given_all =
      omega (arith, ap (λ z. z.frames) H.sizes_are, pool_and_resident m H.sound, pool_length k.head k.link m.pool H.pooled)

  -- what the code takes for a region's newest frame is that
  pub newest_honest : (a : ℕ) → a < places m.sizes → Newest m a (newest_of k.table k.stack a (at k.count a))
  newest_honest a l n e =
      let x = H.entries a n (omega arith) in
      rw (H.counts a l, e) (ap (at k.table) x.stack_is ∙ x.table_is)

  pub chain_newest : (a v : ℕ) → Newest m a v → (to : ℕ) × Chain k.link v (newest_first m a) to
  chain_newest a v e = chain_from k.link v (newest_first m a) (first (region m a) e) (H.links a)
    where
      first : (xs : List Pair) → ((n : ℕ) → length xs ≡ suc n → v ≡ (get_or xs n no_pair).frame) → (y : ℕ) (ys : List ℕ) → frames_of (reverse xs) ≡ y ∷ ys → v ≡ y
      first [] e y ys q = absurd (let z : ◌≡◌ {A = ℕ} 0 1 = cc in omega arith)
      first (x ∷ xs) e y ys q = let r = newest_first_lem (x ∷ xs) (length xs) refl in e (length xs) refl ∙ cc

  module _ (f : ℕ) (rest : List ℕ) (is : m.pool ≡ f ∷ rest) where
    pub taken_honest : ((taken k.link k.head).frame ≡ f) × (f < m.sizes.frames)
    taken_honest = (
      (pool_taken k.head k.link m.pool H.pooled f rest is).0,
      free_below m H.sound f (omega (arith, ap (sum (hit f)) is, hit_same f f refl)),
    )

    pub pooled_taken : (v : ℕ) → Pooled (taken k.link k.head).head (set k.link f v) rest
    pooled_taken v = (pool_taken k.head k.link m.pool H.pooled f rest is).1 v (not_again m H.sound f rest is)

    pub linked_paired : m.sizes.frames ≤ length k.link → (a p newest : ℕ) → a < places m.sizes → Newest m a newest → (b : ℕ)
        → Linked (set k.link f newest) (newest_first (with_pair m a p f rest) b)
    linked_paired long a p newest l e b = elim (ℕ_discrete b a) [
      | yes q ↦
          let c = chain_newest a newest e in
          rw (q, get_or-set_same m.held a (region m a ++ (record { place = p; frame = f } ∷ [])) [] (omega (arith, H.sound.held_are)), frames_snoc)
          (record {
            from = f;
            to = c.0;
            chain = (
              refl,
              rw (get_or-set_same k.link f newest 0 (omega (arith, taken_honest.1, long)))
                  (chain_kept k.link f newest newest c.0 (newest_first m a) (not_held m H.sound f rest is a) c.1),
            );
          })
      | no d ↦
          rw (get_or-set_other m.held a b (region m a ++ (record { place = p; frame = f } ∷ [])) [] d)
          (linked_kept k.link f newest (newest_first m b) (not_held m H.sound f rest is b) (H.links b))
    ]
