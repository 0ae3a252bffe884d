-- A page handed back: the last pair takes its position. What that leaves of a list, that the state stays sound, and who holds which frame then.
use Rattle.std.specs.Prelude.{◌≡◌, refl, ◌≢◌, Bool, true, false, cond, List, [], ◌∷◌, ℕ, suc, ◌+◌, ◌-◌, ◌≤◌, ◌<◌, eqb, length, get_or, set, take}
use Rattle.std.proofs.Common.{sym, ap, ◌∙◌, subst, arith, eqb-true, length-set, length-take-le, take-suc, take_all, get_or-take, get_or-set_same, get_or-set_other}
use Rattle.std.proofs.Math.Option.{some, none-ne-some}
use Rattle.std.proofs.Math.Decide.{ℕ_discrete}
use Rattle.sequence.specs.Sums.{sum, sum_append, sum_set, sum_at, hit, hit_same}
use Rattle.machine.specs.Machine.{State, Pair, no_pair, region, start_of, frame_in, Page, outside, unmapped, mapped, page_of, index_in, without_of, without}
use Rattle.machine.specs.Machine.{handed_back, give_back_page}
use Rattle.machine.specs.Claims.{Sound, in_regions}
use Rattle.machine.proofs.Laws.Regions.{owner_of}
use Rattle.machine.proofs.Laws.Lookup.{Entry, Mapped, is_mapped}
use Rattle.machine.proofs.Laws.Kept.{start_held}
use Rattle.machine.proofs.Laws.Holders.{in_held}
use Rattle.machine.proofs.Laws.Pairs.{Holder}

-- ---- where a page stands

-- the pair of place p and frame f is number i of the list
pub record Stands (p f i : ℕ) (xs : List Pair) : Type 0 where
  pub inside : i < length xs
  pub is : get_or xs i no_pair ≡ record { place = p; frame = f }

pub index_in_lem : (p f : ℕ) (xs : List Pair) → frame_in p xs ≡ some f → Stands p f (index_in p xs) xs
unfolding frame_in index_in
index_in_lem p f [] e = absurd (none-ne-some f e)
index_in_lem p f (x ∷ xs) e = go (eqb x.place p) refl e (index_in_lem p f xs)
  where
    go : (t : Bool) → eqb x.place p ≡ t → cond t (some x.frame) (frame_in p xs) ≡ some f → (frame_in p xs ≡ some f → Stands p f (index_in p xs) xs)
        → Stands p f (cond t 0 (suc (index_in p xs))) (x ∷ xs)
    go true s e rest =
        let same = eqb-true x.place p s in
        let its : x.frame ≡ f = cc in
        record { inside = omega arith; is = λ k. record { place = same k; frame = its k } }
    go false s e rest = let r = rest e in record { inside = omega (arith, r.inside); is = r.is }

-- ---- a list of n + 1 pairs without number i

module _ (n i : ℕ) (xs : List Pair) (e : length xs ≡ suc n) (h : i ≤ n) where
  abbrev ys : List Pair
  ys = set xs i (get_or xs n no_pair)

  long : length ys ≡ suc n
  long = length-set xs i (get_or xs n no_pair) ∙ e

  pub length_without : length (without_of n i xs) ≡ n
  length_without = length-take-le n ys (omega (arith, long))

  pub without_here : i < n → get_or (without_of n i xs) i no_pair ≡ get_or xs n no_pair
  without_here l = get_or-take n ys i no_pair l ∙ get_or-set_same xs i (get_or xs n no_pair) no_pair (omega arith)

  pub without_there : (j : ℕ) → j < n → j ≢ i → get_or (without_of n i xs) j no_pair ≡ get_or xs j no_pair
  without_there j l d = get_or-take n ys j no_pair l ∙ get_or-set_other xs i j (get_or xs n no_pair) no_pair d

  -- a pair that is left is one of before: the newest at the leaver's position, else the same
  pub left_is : (P : Pair → Type 0) (j : ℕ) → j < n → P (get_or xs n no_pair) → P (get_or xs j no_pair) → P (get_or (without_of n i xs) j no_pair)
  left_is P j l newest same = elim (ℕ_discrete j i) [
    | yes q ↦ subst P (sym (ap (λ (c : ℕ). get_or (without_of n i xs) c no_pair) q ∙ without_here (omega arith))) newest
    | no d ↦ subst P (sym (without_there j l d)) same
  ]

  -- the last pair is what it was, whichever left
  last_same : get_or ys n no_pair ≡ get_or xs n no_pair
  last_same = elim (ℕ_discrete n i) [
    | yes q ↦ rw (← q) (get_or-set_same xs n (get_or xs n no_pair) no_pair (omega arith))
    | no d ↦ get_or-set_other xs i n (get_or xs n no_pair) no_pair d
  ]

  -- every measure falls by what the leaver had
  pub sum_without : (g : Pair → ℕ) → sum g (without_of n i xs) + g (get_or xs i no_pair) ≡ sum g xs
  sum_without g =
      omega (
        arith,
        ap (sum g) (sym (take_all (suc n) ys (omega (arith, long))) ∙ take-suc ys n no_pair (omega (arith, long))),
        sum_append g (take n ys) (get_or ys n no_pair ∷ []),
        ap g last_same,
        sum_set g xs i (get_or xs n no_pair) no_pair (omega arith),
      )

  -- every other pair still stands, the newest at the leaver's position
  pub entry_without : (q g : ℕ) → (x : Entry q g xs) → x.at ≢ i → Entry q g (without_of n i xs)
  entry_without q g x apart = elim (ℕ_discrete x.at n) [
    | yes k ↦
        record {
          at = i;
          inside = omega (arith, length_without);
          is = without_here (omega arith) ∙ ap (λ (j : ℕ). get_or xs j no_pair) (sym k) ∙ x.is;
        }
    | no k ↦
        let low = x.inside in
        record { at = x.at; inside = omega (arith, length_without); is = without_there x.at (omega arith) apart ∙ x.is }
  ]

  -- and stood before
  pub entry_before : (q g : ℕ) → Entry q g (without_of n i xs) → Entry q g xs
  entry_before q g x =
      let low : x.at < n = omega (arith, x.inside, length_without) in
      elim (ℕ_discrete x.at i) [
        | yes k ↦
            record {
              at = n;
              inside = omega arith;
              is = sym (without_here (omega arith)) ∙ ap (λ (j : ℕ). get_or (without_of n i xs) j no_pair) (sym k) ∙ x.is;
            }
        | no k ↦ record { at = x.at; inside = omega arith; is = sym (without_there x.at low k) ∙ x.is }
      ]

-- ---- the state

module _ (m : State) (s : Sound m) (p a f : ℕ) (there : Mapped m p a f) where
  abbrev i : ℕ
  i = index_in p (region m a)

  abbrev n : ℕ
  n = length (region m a) - 1

  pub stands : Stands p f (index_in p (region m a)) (region m a)
  stands = index_in_lem p f (region m a) there.frame_is

  pub region_long : length (region m a) ≡ suc (length (region m a) - 1)
  region_long = omega (arith, stands.inside)

  pub at_most : index_in p (region m a) ≤ length (region m a) - 1
  at_most = omega (arith, stands.inside)

  inside : a < length m.held
  inside = start_held m s a (owner_of m.sizes.pages m.starts p a there.region_is).start

  pub region_here : region (handed_back m a p f) a ≡ without (index_in p (region m a)) (region m a)
  region_here = get_or-set_same m.held a _ [] inside

  pub region_there : (b : ℕ) → b ≢ a → region (handed_back m a p f) b ≡ region m b
  region_there b d = get_or-set_other m.held a b _ [] d

  -- what the pair takes from a measure
  takes : (g : Pair → ℕ) → in_regions g (handed_back m a p f) + g (record { place = p; frame = f }) ≡ in_regions g m
  takes g =
      omega (
        arith,
        sum_without n i (region m a) region_long at_most g,
        ap g stands.is,
        sum_set (λ xs. sum g xs) m.held a (without i (region m a)) [] inside,
      )

  pub sound_handed : Sound (handed_back m a p f)
  sound_handed =
      record {
        sizes_ok_lem = s.sizes_ok_lem;
        starts_are = s.starts_are;
        held_are = length-set m.held a _ ∙ s.held_are;
        whole = λ g. omega (arith, takes (λ x. g x.frame), s.whole g);
        own = λ b. elim (ℕ_discrete b a) [
          | yes e ↦
              rw (e, region_here)
              (λ j l.
              let low : j < length (region m a) - 1 = omega (arith, length_without n i (region m a) region_long at_most) in
              left_is n i (region m a) region_long at_most (λ x. start_of m x.place ≡ some a) j low (s.own a n (omega (arith, region_long)))
              (s.own a j (omega arith)))
          | no d ↦ rw (region_there b d) (s.own b)
        ];
        once = λ q. omega (arith, takes (λ x. hit q x.place), s.once q);
      }

  -- ---- who holds which frame

  pub handed_keeps : (q g : ℕ) → q ≢ p → Holder m q g → Holder (handed_back m a p f) q g
  handed_keeps q g d h = elim (ℕ_discrete h.start a) [
    | yes e ↦
        let x : Entry q g (region m a) = subst (λ (c : ℕ). Entry q g (region m c)) e h.entry in
        let apart : x.at ≢ i = λ k. d (ap (λ (y : Pair). y.place) (sym x.is ∙ ap (λ (j : ℕ). get_or (region m a) j no_pair) k ∙ stands.is)) in
        record { start = a; entry = rw region_here (entry_without n i (region m a) region_long at_most q g x apart) }
    | no k ↦ record { start = h.start; entry = rw (region_there h.start k) h.entry }
  ]

  pub handed_held : (q g : ℕ) → Holder (handed_back m a p f) q g → Holder m q g
  handed_held q g h = elim (ℕ_discrete h.start a) [
    | yes e ↦
        let x = subst (λ (xs : List Pair). Entry q g xs) (ap (region (handed_back m a p f)) e ∙ region_here) h.entry in
        record { start = a; entry = entry_before n i (region m a) region_long at_most q g x }
    | no k ↦ record { start = h.start; entry = rw (region_there h.start k) at h.entry }
  ]

  -- the page holds none any more
  pub handed_gone : (g : ℕ) → Holder (handed_back m a p f) p g → ⊥
  handed_gone g h =
      let x = h.entry in
      let after = handed_back m a p f in
      omega (
        arith,
        takes (λ y. hit p y.place),
        hit_same p p refl,
        s.once p,
        sum_at (λ ys. sum (λ y. hit p y.place) ys) after.held h.start [] (in_held after sound_handed h.start x.at x.inside),
        sum_at (λ y. hit p y.place) (region after h.start) x.at no_pair x.inside,
        hit_same p _ (ap (λ (y : Pair). y.place) x.is),
      )

-- ---- the call

pub sound_given : (m : State) → Sound m → (p : ℕ) → Sound (give_back_page m p (page_of m p)).after
sound_given m s p = go (page_of m p) refl
  where
    go : (x : Page) → page_of m p ≡ x → Sound (give_back_page m p x).after
    go outside e = s
    go (unmapped a) e = s
    go (mapped a f) e = sound_handed m s p a f (is_mapped m p a f e)
