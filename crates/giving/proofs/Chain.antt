-- A region's chain by its entries: each frame's link is the frame that stands before it. Two stores take one frame out and put the newest in its place.
use Rattle.std.specs.Prelude.{◌≡◌, refl, ◌≢◌, List, ◌∷◌, reverse, ℕ, zero, suc, ◌-◌, ◌≤◌, ◌<◌, ltb, length, get_or, set, take}
use Rattle.std.proofs.Common.{sym, ap, ◌∙◌, not-suc-le-zero, arith, lt-ltb, le-ltb, length-set, take-suc, get_or-set_same, get_or-set_other}
use Rattle.std.proofs.Math.Decide.{ℕ_discrete, dec_lt}
use Rattle.std.proofs.Math.Seq.{take-length}
use Rattle.machine.specs.Machine.{Pair, no_pair, frames_of, without_of}
use Rattle.machine.proofs.Laws.Handed.{length_without, without_here, without_there}
use Rattle.memory.specs.Memory.{at}
use Rattle.promise.specs.Holds.{Chain, Linked}
use Rattle.pool.specs.Pool.{frames_snoc}
use Rattle.giving.specs.Models.{relinked}

-- the frame of entry j
abbrev pub frame_at : List Pair → ℕ → ℕ
frame_at xs j = (get_or xs j no_pair).frame

abbrev pub Steps : List ℕ → List Pair → Type 0
Steps link xs = (j : ℕ) → suc j < length xs → at link (frame_at xs (suc j)) ≡ frame_at xs j

-- ---- the same as a chain from the newest to the oldest

module _ (link : List ℕ) (xs : List Pair) where
  newest : (n : ℕ) → n < length xs → frames_of (reverse (take (suc n) xs)) ≡ frame_at xs n ∷ frames_of (reverse (take n xs))
  newest n l = ap (λ (ys : List Pair). frames_of (reverse ys)) (take-suc xs n no_pair l) ∙ frames_snoc (take n xs) (get_or xs n no_pair)

  steps_from : Steps link xs → (n : ℕ) → n < length xs → Chain link (frame_at xs n) (frames_of (reverse (take (suc n) xs))) (at link (frame_at xs 0))
  steps_from st zero l = rw (newest zero l) (refl, refl)
  steps_from st (suc n) l = rw (newest (suc n) l) (refl, rw (st n l) (steps_from st n (omega arith)))

  pub steps_linked : Steps link xs → Linked link (frames_of (reverse xs))
  steps_linked st = go (length xs) refl
    where
      go : (n : ℕ) → length xs ≡ n → Linked link (frames_of (reverse xs))
      go zero e =
          let whole : take 0 xs ≡ xs = rw e at (take-length xs) in
          record { from = 0; to = 0; chain = rw (← whole) refl }
      go (suc n) e =
          let whole : take (suc n) xs ≡ xs = rw e at (take-length xs) in
          record { from = frame_at xs n; to = at link (frame_at xs 0); chain = rw whole at (steps_from st n (omega arith)) }

  chain_steps : (n v stop : ℕ) → n < length xs → Chain link v (frames_of (reverse (take (suc n) xs))) stop
      → (j : ℕ) → j < n → at link (frame_at xs (suc j)) ≡ frame_at xs j
  chain_steps zero v stop l c j h = absurd (not-suc-le-zero h)
  chain_steps (suc n) v stop l c j h =
      let c₁ = rw (newest (suc n) l) at c in
      let low : n < length xs = omega arith in
      elim (ℕ_discrete j n) [
        | yes e ↦ rw e (rw (newest n low) at c₁.1).0
        | no d ↦ chain_steps n (at link (frame_at xs (suc n))) stop low c₁.1 j (omega arith)
      ]

  pub linked_steps : Linked link (frames_of (reverse xs)) → Steps link xs
  linked_steps l j h =
      let n = length xs - 1 in
      let e : length xs ≡ suc n = omega arith in
      let whole : take (suc n) xs ≡ xs = rw e at (take-length xs) in
      chain_steps n l.from l.to (omega arith) (rw (← whole) at l.chain) j (omega arith)

-- ---- the stores

-- different entries have different frames, each with a link
pub record Apart (link : List ℕ) (xs : List Pair) : Type 0 where
  pub low : (j : ℕ) → j < length xs → frame_at xs j < length link
  pub differ : (j l : ℕ) → j < length xs → l < length xs → j ≢ l → frame_at xs j ≢ frame_at xs l

module _ (link : List ℕ) (n i : ℕ) (xs : List Pair) (e : length xs ≡ suc n) (h : i ≤ n) (d : Apart link xs) (st : Steps link xs) where
  abbrev ys : List Pair
  ys = without_of n i xs

  frame_here : i < n → frame_at (without_of n i xs) i ≡ frame_at xs n
  frame_here l = ap (λ (x : Pair). x.frame) (without_here n i xs e h l)

  frame_there : (j : ℕ) → j < n → j ≢ i → frame_at (without_of n i xs) j ≡ frame_at xs j
  frame_there j l q = ap (λ (x : Pair). x.frame) (without_there n i xs e h j l q)

  -- the newest leaves: the chain just gets shorter
  steps_shorter : i ≡ n → Steps link (without_of n i xs)
  steps_shorter q j l =
      let low : suc j < n = omega (arith, length_without n i xs e h) in
      ap (at link) (frame_there (suc j) low (omega arith)) ∙ st j (omega arith) ∙ sym (frame_there j (omega arith) (omega arith))

  -- another leaves: two stores, of which the second counts where the leaver is the newest's neighbour
  module _ (l : i < n) where
    abbrev led : List ℕ
    led = set link (frame_at xs (suc i)) (frame_at xs n)

    abbrev mended : List ℕ
    mended = set led (frame_at xs n) (at link (frame_at xs i))

    -- the newest, now at i, leads where the leaver led
    newest_leads : at mended (frame_at xs n) ≡ at link (frame_at xs i)
    newest_leads = get_or-set_same led (frame_at xs n) (at link (frame_at xs i)) 0 (rw length-set (d.low n (omega arith)))

    -- the leaver's younger neighbour leads to the newest
    next_leads : suc i ≢ n → at mended (frame_at xs (suc i)) ≡ frame_at xs n
    next_leads q =
        get_or-set_other led (frame_at xs n) (frame_at xs (suc i)) (at link (frame_at xs i)) 0 (d.differ (suc i) n (omega arith) (omega arith) q)
        ∙ get_or-set_same link (frame_at xs (suc i)) (frame_at xs n) 0 (d.low (suc i) (omega arith))

    -- the others lead where they led
    other_leads : (j : ℕ) → j < length xs → j ≢ n → j ≢ suc i → at mended (frame_at xs j) ≡ at link (frame_at xs j)
    other_leads j low q r =
        get_or-set_other led (frame_at xs n) (frame_at xs j) (at link (frame_at xs i)) 0 (d.differ j n low (omega arith) q)
        ∙ get_or-set_other link (frame_at xs (suc i)) (frame_at xs j) (frame_at xs n) 0 (d.differ j (suc i) low (omega arith) r)

    steps_relinked : Steps mended (without_of n i xs)
    steps_relinked j k = go (ℕ_discrete (suc j) i) (ℕ_discrete j i)
      where
        low : suc j < n
        low = omega (arith, length_without n i xs e h)

        go : Dec (suc j ≡ i) → Dec (j ≡ i) → at mended (frame_at ys (suc j)) ≡ frame_at ys j
        go (yes q) r =
            ap (at mended) (ap (frame_at ys) q ∙ frame_here l)
            ∙ newest_leads
            ∙ ap (λ (x : ℕ). at link (frame_at xs x)) (sym q)
            ∙ st j (omega (arith, low))
            ∙ sym (frame_there j (omega (arith, low)) (omega (arith, low)))
        go (no q) (yes r) =
            ap (at mended) (frame_there (suc j) low q ∙ ap (λ (x : ℕ). frame_at xs (suc x)) r)
            ∙ next_leads (omega (arith, low))
            ∙ sym (ap (frame_at ys) r ∙ frame_here l)
        go (no q) (no r) =
            ap (at mended) (frame_there (suc j) low q)
            ∙ other_leads (suc j) (omega (arith, low)) (omega (arith, low)) (omega (arith, low))
            ∙ st j (omega (arith, low))
            ∙ sym (frame_there j (omega (arith, low)) r)

  pub steps_without : Steps (relinked (ltb i n) link (frame_at xs i) (frame_at xs (suc i)) (frame_at xs n)) (without_of n i xs)
  steps_without = go (dec_lt i n)
    where
      go : Dec (i < n) → Steps (relinked (ltb i n) link (frame_at xs i) (frame_at xs (suc i)) (frame_at xs n)) (without_of n i xs)
      go (yes l) = rw (lt-ltb i n l) (steps_relinked l)
      go (no l) = rw (le-ltb i n (omega arith)) (steps_shorter (omega arith))
