-- A start, a mark, a drop, a new pair, a release and a store each leave a sound state sound.
use Rattle.std.specs.Prelude.{◌≡◌, refl, ◌≢◌, Bool, true, false, List, [], ◌∷◌, ◌++◌, reverse, ℕ, ◌+◌, ◌<◌, length, get_or}
use Rattle.std.proofs.Common.{sym, ap, ◌∙◌, subst, true≢false, not-suc-le-zero, arith, length-set, get_or-set_same, get_or-set_other}
use Rattle.std.proofs.Math.Option.{some, some-injective}
use Rattle.std.proofs.Math.Decide.{ℕ_discrete, dec_lt}
use Rattle.std.proofs.lemmas.List.{length-replicate}
use Rattle.std.proofs.Math.ListN.{get_or-eq_default}
use Rattle.sequence.specs.Lists.{Each, each_snoc, get_or_same}
use Rattle.sequence.specs.Sums.{sum, sum_append, sum_reverse, sum_map, sum_set, sum_replicate, sum_none, hit, hit_same, hit_other}
use Rattle.machine.specs.Machine.{Sizes, places, sizes_ok, Pair, State, is_start, region, start_of, begun, with_start, with_pair, emptied, frames_of, with_ram}
use Rattle.machine.specs.Claims.{in_regions, no_pair, Sound}
use Rattle.machine.proofs.Laws.Sizes.{fit}
use Rattle.machine.proofs.Laws.Regions.{owner_of, own_marked, own_dropped}
use Rattle.machine.proofs.Laws.Lookup.{Unmapped, not_in}

-- ---- start

module _ (z : Sizes) (ram : List ℕ) (ok : sizes_ok z ≡ true) where
  none_held : (a : ℕ) → region (begun z ram) a ≡ []
  none_held a = get_or_same (places z) a []

  pub sound_begun : Sound (begun z ram)
  sound_begun =
      record {
        sizes_ok_lem = ok;
        starts_are = length-replicate (places z) false;
        held_are = length-replicate (places z) [];
        whole = λ g. omega (arith, sum_replicate (λ (xs : List Pair). sum (λ x. g x.frame) xs) (places z) [] refl);
        own = λ a. rw (none_held a) (λ k h. absurd (not-suc-le-zero h));
        once = λ p. omega (arith, sum_replicate (λ (xs : List Pair). sum (λ x. hit p x.place) xs) (places z) [] refl);
      }

-- ---- facts of a sound state

-- a region with a page in it has a start, and lies below T
pub start_of_pair : (m : State) → Sound m → (a k : ℕ) → k < length (region m a) → is_start m a ≡ true
start_of_pair m s a k h = (owner_of m.sizes.pages m.starts _ a (s.own a k h)).start

-- a place that is no start has none
pub none_elsewhere : (m : State) → Sound m → (p : ℕ) → is_start m p ≡ false → region m p ≡ []
none_elsewhere m s p e = go (region m p) refl
  where
    go : (xs : List Pair) → region m p ≡ xs → region m p ≡ []
    go [] r = r
    go (x ∷ xs) r = absurd (true≢false (sym (start_of_pair m s p 0 (rw r (omega arith))) ∙ e))

pub start_below : (m : State) → Sound m → (a : ℕ) → is_start m a ≡ true → a < places m.sizes
start_below m s a e = go (dec_lt a (length m.starts))
  where
    go : Dec (a < length m.starts) → a < places m.sizes
    go (yes l) = omega (arith, s.starts_are)
    go (no l) =
        absurd (let f : false ≡ true = sym (get_or-eq_default m.starts false (omega arith)) ∙ e in let z : ◌≡◌ {A = ℕ} 0 1 = cc in omega arith)

-- a region has a list
pub start_held : (m : State) → Sound m → (a : ℕ) → is_start m a ≡ true → a < length m.held
start_held m s a e = omega (arith, s.held_are, start_below m s a e)

module _ (m : State) (s : Sound m) where
  -- ---- mark and drop

  sound_starts : (p : ℕ) (v : Bool) → ((a : ℕ) → Each no_pair (λ x. start_of (with_start m p v) x.place ≡ some a) (region m a)) → Sound (with_start m p v)
  sound_starts p v own =
      record {
        sizes_ok_lem = s.sizes_ok_lem;
        starts_are = length-set m.starts p v ∙ s.starts_are;
        held_are = s.held_are;
        whole = s.whole;
        own = own;
        once = s.once;
      }

  pub sound_marked : (p : ℕ) → p < places m.sizes → ((a : ℕ) → start_of m p ≡ some a → region m a ≡ []) → Sound (with_start m p true)
  sound_marked p h empty =
      sound_starts p true
      (λ a k l.
      own_marked m.sizes.pages m.starts p _ a (omega (arith, s.starts_are)) (s.own a k l) (fit m.sizes s.sizes_ok_lem).some_pages
      (λ e. absurd (not-suc-le-zero (subst (λ (xs : List Pair). k < length xs) (empty a e) l))))

  pub sound_dropped : (p : ℕ) → p < places m.sizes → region m p ≡ [] → Sound (with_start m p false)
  sound_dropped p h empty =
      sound_starts p false
      (λ a k l.
      own_dropped m.sizes.pages m.starts p _ a (omega (arith, s.starts_are)) (s.own a k l)
      (λ e. absurd (not-suc-le-zero (subst (λ (xs : List Pair). k < length xs) (ap (region m) e ∙ empty) l))))

  -- ---- touch

  -- a page that its region's list doesn't have stands nowhere
  pub nowhere : (p a : ℕ) → Unmapped m p a → in_regions (λ x. hit p x.place) m ≡ 0
  nowhere p a u =
      sum_none [] (λ xs. sum (λ x. hit p x.place) xs) m.held
      (λ b _. sum_none no_pair (λ x. hit p x.place) (region m b) (λ k l. hit_other p _ (apart b k l)))
    where
      apart : (b k : ℕ) → k < length (region m b) → (get_or (region m b) k no_pair).place ≢ p
      apart b k l e =
          let same : b ≡ a = some-injective b a (sym (s.own b k l) ∙ ap (start_of m) e ∙ u.region_is) in
          not_in p (region m a) u.none_in k (subst (λ (c : ℕ). k < length (region m c)) same l)
          (ap (λ (c : ℕ). (get_or (region m c) k no_pair).place) (sym same) ∙ e)

  module _ (p a f : ℕ) (rest : List ℕ) (u : Unmapped m p a) (pool_is : m.pool ≡ f ∷ rest) where
    pair : Pair
    pair = record { place = p; frame = f }

    inside : a < length m.held
    inside = start_held m s a (owner_of m.sizes.pages m.starts p a u.region_is).start

    -- what the pair adds to a measure
    adds : (g : Pair → ℕ) → in_regions g (with_pair m a p f rest) ≡ in_regions g m + g (record { place = p; frame = f })
    adds g =
        omega (
          arith,
          sum_append g (region m a) (record { place = p; frame = f } ∷ []),
          sum_set (λ xs. sum g xs) m.held a (region m a ++ (record { place = p; frame = f } ∷ [])) [] inside,
        )

    pub sound_paired : Sound (with_pair m a p f rest)
    sound_paired =
        record {
          sizes_ok_lem = s.sizes_ok_lem;
          starts_are = s.starts_are;
          held_are = length-set m.held a _ ∙ s.held_are;
          whole = λ g. omega (arith, ap (sum g) pool_is, adds (λ x. g x.frame), s.whole g);
          own = λ b. elim (ℕ_discrete b a) [
            | yes e ↦
                rw (e, get_or-set_same m.held a (region m a ++ (record { place = p; frame = f } ∷ [])) [] inside)
                (each_snoc no_pair (λ x. start_of m x.place ≡ some a) (region m a) (record { place = p; frame = f }) (s.own a) u.region_is)
            | no d ↦ rw (get_or-set_other m.held a b (region m a ++ (record { place = p; frame = f } ∷ [])) [] d) (s.own b)
          ];
          once = λ q. elim (ℕ_discrete p q) [
            | yes e ↦ omega (arith, adds (λ x. hit q x.place), hit_same q p e, ap (λ (c : ℕ). in_regions (λ x. hit c x.place) m) e, nowhere p a u)
            | no d ↦ omega (arith, adds (λ x. hit q x.place), hit_other q p d, s.once q)
          ];
        }

  -- ---- release

  module _ (a : ℕ) (is_start_lem : is_start m a ≡ true) where
    takes : (g : Pair → ℕ) → in_regions g (emptied m a) + sum g (region m a) ≡ in_regions g m
    takes g = omega (arith, sum_set (λ xs. sum g xs) m.held a [] [] (start_held m s a is_start_lem))

    pub sound_emptied : Sound (emptied m a)
    sound_emptied =
        record {
          sizes_ok_lem = s.sizes_ok_lem;
          starts_are = s.starts_are;
          held_are = length-set m.held a [] ∙ s.held_are;
          whole = λ g.
              omega (
                arith,
                sum_append g (frames_of (reverse (region m a))) m.pool,
                sum_map g (λ (x : Pair). x.frame) (reverse (region m a)),
                sum_reverse (λ (x : Pair). g x.frame) (region m a),
                takes (λ x. g x.frame),
                s.whole g,
              );
          own = λ b. elim (ℕ_discrete b a) [
            | yes e ↦ rw (e, get_or-set_same m.held a [] [] (start_held m s a is_start_lem)) (λ k h. absurd (not-suc-le-zero h))
            | no d ↦ rw (get_or-set_other m.held a b [] [] d) (s.own b)
          ];
          once = λ q. omega (arith, takes (λ x. hit q x.place), s.once q);
        }

  -- ---- store

  pub sound_stored : (ram : List ℕ) → Sound (with_ram m ram)
  sound_stored ram =
      record { sizes_ok_lem = s.sizes_ok_lem; starts_are = s.starts_are; held_are = s.held_are; whole = s.whole; own = s.own; once = s.once }
