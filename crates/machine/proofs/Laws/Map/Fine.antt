-- The regions of a sound state's space lie one behind another up to its end, and each page in its own.
use Rattle.std.specs.Prelude.{◌≡◌, ◌⊎◌, Bool, true, false, cond, List, [], ◌∷◌, map, get_or}
use Rattle.std.proofs.Math.Path.{refl}
use Rattle.std.proofs.Common.{sym, ap, ◌∙◌, inl, inr, add-zero, suc-add, mod-lt, div-add-mod', mul-le-mul_right, suc-mul, arith}
use Rattle.std.proofs.lemmas.Bool.{false≢true}
use Prim.Native.Nat.{ℕ, zero, suc, ◌+◌, ◌-◌, ◌*◌, ◌/◌, ◌≤◌, ◌<◌}
use Rattle.std.proofs.Math.Nat.{add-suc}
use Rattle.std.proofs.Math.Decide.{dec_lt}
use borrow.Author.Tests.{eq-eqb, lt-ltb, le-leb}
use Rattle.sequence.specs.Lists.{Each}
use Rattle.machine.specs.State.{place_of, State, Pair, is_start, region, until_start, records}
use Rattle.machine.specs.Claims.{Sound, no_pair}
use Rattle.machine.specs.Map.{entry_of, block_of}
use Rattle.machine.specs.MapRules.{all_within, entry_pages, tiled}
use Rattle.machine.proofs.Laws.Sizes.{fit}
use Rattle.machine.proofs.Laws.Regions.{Owner, owner_of}

-- ---- pages of a region

within_pairs : (lo b e : ℕ) (xs : List Pair) → Each no_pair (λ x. (lo + b ≤ x.place) × (x.place < lo + e)) xs
    → all_within b e (entry_pages (map (entry_of lo) xs)) ≡ true
unfolding all_within
within_pairs lo b e [] h = refl
within_pairs lo b e (x ∷ xs) h =
    let (low, high) = h 0 (omega arith) in
    let first : b ≤ x.place - lo = omega arith in
    let last : x.place - lo < e = omega arith in
    rw (le-leb b (x.place - lo) first, lt-ltb (x.place - lo) e last) (within_pairs lo b e xs (λ k l. h (suc k) (omega arith)))

-- ---- up to the next start

pub until_few : (s : ℕ → Bool) (p n : ℕ) → until_start s p n ≤ n
unfolding until_start
until_few s p zero = omega arith
until_few s p (suc n) = go (s p) (until_few s (suc p) n)
  where
    go : (t : Bool) → until_start s (suc p) n ≤ n → cond t 0 (suc (until_start s (suc p) n)) ≤ suc n
    go true h = omega arith
    go false h = omega arith

-- all n, or a start ends them
until_end : (s : ℕ → Bool) (p n : ℕ) → (until_start s p n ≡ n) ⊎ (s (p + until_start s p n) ≡ true)
unfolding until_start
until_end s p zero = inl refl
until_end s p (suc n) = go (s p) refl (until_end s (suc p) n)
  where
    go : (t : Bool) → s p ≡ t → (until_start s (suc p) n ≡ n) ⊎ (s (suc p + until_start s (suc p) n) ≡ true)
        → (cond t 0 (suc (until_start s (suc p) n)) ≡ suc n) ⊎ (s (p + cond t 0 (suc (until_start s (suc p) n))) ≡ true)
    go true e ih = inr (rw add-zero e)
    go false e (inl h) = inl (ap suc h)
    go false e (inr h) = inr (rw add-suc (rw suc-add at h))

module _ (m : State) (sd : Sound m) (i : ℕ) where
  abbrev N : ℕ
  N = m.sizes.pages

  abbrev lo : ℕ
  lo = place_of m.sizes i 0

  -- a page that a start of this space owns lies in this space
  in_space : (p a : ℕ) → Owner N m.starts p a → a < i * N + N → p < i * N + N
  in_space p a o h = elim (dec_lt i (p / N)) [
    | yes l ↦ absurd (omega (arith, o.in_space, mul-le-mul_right N l, suc-mul i N))
    | no l ↦
        let q : p / N ≤ i = omega arith in
        omega (arith, mul-le-mul_right N q, div-add-mod' p N, mod-lt p (fit m.sizes sd.sizes_ok_lem).some_pages)
  ]

  -- n pages after page b, to the space's end
  module _ (b n : ℕ) (ends : suc (b + n) ≡ m.sizes.pages) where
    abbrev a : ℕ
    a = lo + b

    -- how many of them come before the next start
    abbrev free : ℕ
    free = until_start (is_start m) (suc a) n

    pub within : Each no_pair (λ x. (lo + b ≤ x.place) × (x.place < lo + (b + suc free))) (region m (lo + b))
    within k l = (o.at_most, go (until_end (is_start m) (suc a) n) (dec_lt p (a + suc free)))
      where
        p : ℕ
        p = (get_or (region m a) k no_pair).place

        o : Owner N m.starts p a
        o = owner_of N m.starts p a (sd.own a k l)

        space : p < i * N + N
        space = in_space p a o (omega arith)

        go : (free ≡ n) ⊎ (is_start m (suc a + free) ≡ true) → Dec (p < a + suc free) → p < lo + (b + suc free)
        go e (yes h) = omega arith
        go (inl e) (no h) = omega (arith, space)
        go (inr e) (no h) = absurd (false≢true (sym (o.clear (suc a + free) (omega arith) (omega arith)) ∙ e))

  abbrev filled : ℕ → ℕ → Bool
  filled b n = tiled N (b + until_start (is_start m) (lo + b) n) (map (block_of m lo) (records m lo b n))

  -- the regions from the first start on fill the space
  pub tiled_from : (b n : ℕ) → b + n ≡ m.sizes.pages → filled b n ≡ true
  unfolding tiled until_start records
  tiled_from b zero e = eq-eqb (b + 0) N e
  tiled_from b (suc n) e = go (is_start m (lo + b)) refl (tiled_from (suc b) n (omega arith))
    where
      next : suc b + until_start (is_start m) (lo + suc b) n ≡ b + suc (until_start (is_start m) (suc (lo + b)) n)
      next = rw add-suc (omega arith)

      inside : b + suc (until_start (is_start m) (suc (lo + b)) n) ≤ N
      inside = omega (arith, until_few (is_start m) (suc (lo + b)) n)

      go : (t : Bool) → is_start m (lo + b) ≡ t → filled (suc b) n ≡ true → filled b (suc n) ≡ true
      go true t ih =
          let end = b + suc (until_start (is_start m) (suc (lo + b)) n) in
          rw (
            t,
            add-zero,
            eq-eqb b b refl,
            lt-ltb 0 (suc (until_start (is_start m) (suc (lo + b)) n)) (omega arith),
            le-leb end N inside,
            within_pairs lo b end (region m (lo + b)) (within b n (omega arith)),
          )
          (rw next at ih)
      go false t ih = rw t (rw next at ih)
