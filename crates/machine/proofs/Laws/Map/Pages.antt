-- No page stands twice in a region of a sound state's file.
use Rattle.std.specs.Prelude.{◌≡◌, Bool, List, [], ◌∷◌, map, ltb, length, get_or}
use Rattle.std.proofs.Math.Path.{refl}
use Rattle.std.proofs.Common.{sym, ap, ◌∙◌, zero-add, mul-le-mul_right, suc-mul, arith, lt-ltb}
use Rattle.std.proofs.Math.Bool.{true, false}
use Prim.Native.Nat.{ℕ, zero, suc, ◌+◌, ◌-◌, ◌≤◌, ◌<◌}
use Rattle.std.proofs.Math.Decide.{ℕ_discrete, dec_lt}
use Rattle.sequence.specs.Lists.{Each}
use Rattle.sequence.specs.Sums.{sum, sum_at, sum_none, hit, hit_same, hit_other}
use Rattle.places.specs.Places.{all_new}
use Rattle.places.specs.Distinct.{one_if, once_new}
use Rattle.machine.specs.State.{place_of, State, Pair, is_start, region, records}
use Rattle.machine.specs.Claims.{Sound, no_pair}
use Rattle.machine.specs.Map.{entry_of, block_of, map_words, blocks_in, part_in}
use Rattle.machine.specs.MapRules.{entry_pages, pages_once}
use Rattle.machine.proofs.Laws.Map.Back.{blocks_of_lem}
use Rattle.machine.proofs.Laws.Map.Fine.{within, until_few}

hit_shift : (lo q p : ℕ) → lo ≤ p → hit q (p - lo) ≡ hit (lo + q) p
hit_shift lo q p h = elim (ℕ_discrete (p - lo) q) [
  | yes e ↦ hit_same q (p - lo) e ∙ sym (hit_same (lo + q) p (omega arith))
  | no d ↦ hit_other q (p - lo) d ∙ sym (hit_other (lo + q) p (λ e. d (omega arith)))
]

sum_pages : (lo q : ℕ) (xs : List Pair) → Each no_pair (λ x. lo ≤ x.place) xs
    → sum (hit q) (entry_pages (map (entry_of lo) xs)) ≡ sum (λ x. hit (lo + q) x.place) xs
sum_pages lo q [] h = refl
sum_pages lo q (x ∷ xs) h = omega (arith, hit_shift lo q x.place (h 0 (omega arith)), sum_pages lo q xs (λ k l. h (suc k) (omega arith)))

module _ (m : State) (s : Sound m) (i : ℕ) (inside : i < m.sizes.spaces) where
  abbrev N : ℕ
  N = m.sizes.pages

  abbrev lo : ℕ
  lo = place_of m.sizes i 0

  -- n pages after page b, to the space's end
  module _ (b n : ℕ) (ends : suc (b + n) ≡ m.sizes.pages) where
    abbrev xs : List Pair
    xs = region m (lo + b)

    long : lo + b < length m.held
    long = omega (arith, s.held_are, mul-le-mul_right N inside, suc-mul i N)

    above : Each no_pair (λ x. lo ≤ x.place) xs
    above k l = omega (arith, (within m s i b n ends k l).0)

    few : (q : ℕ) → Dec (q < N) → sum (hit q) (entry_pages (map (entry_of lo) xs)) + one_if false ≤ one_if (ltb q N)
    few q (yes l) =
        rw (lt-ltb q N l)
        (omega (
          arith,
          sum_pages lo q xs above,
          sum_at (λ ys. sum (λ x. hit (lo + q) x.place) ys) m.held (lo + b) [] long,
          s.once (lo + q),
        ))
    few q (no l) =
        let none = sum_none no_pair (λ x. hit (lo + q) x.place) xs (λ k h. hit_other (lo + q) _ (outside k h)) in
        omega (arith, sum_pages lo q xs above, none)
      where
        outside : (k : ℕ) → k < length xs → (get_or xs k no_pair).place ≡ lo + q → ⊥
        outside k h e = omega (arith, (within m s i b n ends k h).1, until_few (is_start m) (suc (lo + b)) n)

    region_new : all_new N (λ _. false) (entry_pages (map (entry_of lo) xs)) ≡ true
    region_new = once_new N (λ _. false) (entry_pages (map (entry_of lo) xs)) (λ q. few q (dec_lt q N))

  once_from : (b n : ℕ) → b + n ≡ m.sizes.pages → pages_once N (map (block_of m lo) (records m lo b n)) ≡ true
  unfolding pages_once records
  once_from b zero e = refl
  once_from b (suc n) e = go (is_start m (lo + b)) refl (once_from (suc b) n (omega arith))
    where
      go : (t : Bool) → is_start m (lo + b) ≡ t → pages_once N (map (block_of m lo) (records m lo (suc b) n)) ≡ true
          → pages_once N (map (block_of m lo) (records m lo b (suc n))) ≡ true
      go true t ih = rw (t, region_new b n (omega arith)) ih
      go false t ih = rw t ih

  pub pages_once_lem : pages_once N (blocks_in (part_in (map_words m) i)) ≡ true
  pages_once_lem = ap (pages_once N) (blocks_of_lem m s i inside) ∙ once_from 0 N (zero-add N)
