-- No page twice: of a region, a window at a time; of a body, a region at a time; of all spaces, a body at a time.
use mathlib.Core.Path.{◌≡◌, refl, sym, ap, ap₂, ◌∙◌}
use mathlib.Core.Bool.{Bool, true, false, ◌&&◌}
use mathlib.Core.List.{List, [], ◌∷◌}
use Prim.Native.Nat.{ℕ, zero, suc, ◌+◌, ◌-◌, ◌*◌, ◌≤◌, ◌<◌}
use native.Mathlib.Omega.{arith}
use borrow.Author.Tests.{leb-true, ltb-true, lt-ltb}
use lib.Dec.{leb, ltb}
use lib.ListN.{length, get_or}
use lib.Seq.{slice}
use Rattle.places.specs.Places.{all_new}
use Rattle.machine.specs.Map.{blocks_in, whole_from}
use Rattle.machine.specs.MapRules.{all_within, tiled, fine_body, pages_once, bodies_fine}
use Rattle.machine.proofs.Laws.Sizes.{both}
use Rattle.machine.proofs.Laws.Map.Again.{First, first_picked}
use Rattle.distinct.specs.Distinct.{picked, Reach, in_window, from_on}
use Rattle.distinct.specs.Windows.{from_skip, from_keep, window_split}
use Rattle.walking.specs.declared.Body.{Body}
use Rattle.walking.specs.Walking.{BodyAt}
use Rattle.walking.specs.Laws.{start_at, length_at, count_at, next_at, pages_picked}
use Rattle.walking.specs.Regions.{block_at, region_fits, blocks_next, blocks_end, whole_next}
use Rattle.bodies.specs.Bodies.{FineAt}
use Rattle.bodies.specs.Laws.{fine_parts}

-- ---- a region

module _ (lo hi : ℕ) where
  within_first : (x : ℕ) (xs : List ℕ) → all_within lo hi (x ∷ xs) ≡ true → (lo ≤ x) × (x < hi) × (all_within lo hi xs ≡ true)
  unfolding all_within
  within_first x xs h =
      let (first, others) = both (leb lo x && ltb x hi) (all_within lo hi xs) h in
      let (low, high) = both (leb lo x) (ltb x hi) first in
      (leb-true lo x low, ltb-true x hi high, others)

  from_all : (xs : List ℕ) → all_within lo hi xs ≡ true → from_on lo xs ≡ xs
  unfolding from_on
  from_all [] h = refl
  from_all (x ∷ xs) h =
      let w = within_first x xs h in
      from_keep lo x xs w.0 ∙ ap (λ (ys : List ℕ). x ∷ ys) (from_all xs w.2)

  from_none : (at : ℕ) (xs : List ℕ) → hi ≤ at → all_within lo hi xs ≡ true → from_on at xs ≡ []
  unfolding from_on
  from_none at [] l h = refl
  from_none at (x ∷ xs) l h =
      let w = within_first x xs h in
      from_skip at x xs (omega (arith, w.1)) ∙ from_none at xs l w.2

  module _ (t : ℕ) (room : hi ≤ t) (xs : List ℕ) (within : all_within lo hi xs ≡ true) where
    pub once_begin : all_new t (λ _. false) xs ≡ all_new t (λ _. false) (from_on lo xs)
    once_begin = ap (all_new t (λ _. false)) (sym (from_all xs within))

    pub once_end : (at : ℕ) → hi ≤ at → all_new t (λ _. false) (from_on at xs) ≡ true
    unfolding all_new
    once_end at l = ap (all_new t (λ _. false)) (from_none at xs l within)

  -- one page, or none, is no page twice
  pub few_once : (t : ℕ) → hi ≤ t → (ws : List ℕ) (from n : ℕ) → n < 2 → all_within lo hi (picked ws from 2 n) ≡ true
      → all_new t (λ _. false) (picked ws from 2 n) ≡ true
  unfolding picked all_new
  few_once t room ws from zero l h = refl
  few_once t room ws from (suc zero) l h = rw (lt-ltb (get_or ws from 0) t (omega (arith, (within_first (get_or ws from 0) [] h).1))) refl
  few_once t room ws from (suc (suc n)) l h = absurd (omega arith)

module _ (t at n : ℕ) (room : at + n ≤ t) (xs : List ℕ) where
  pub window_good : all_new n (λ _. false) (in_window at n xs) ≡ true → all_new t (λ _. false) (from_on at xs) ≡ all_new t (λ _. false) (from_on (at + n) xs)
  window_good e = window_split t at n room (λ _. false) xs ∙ ap (λ (b : Bool). b && all_new t (λ _. false) (from_on (at + n) xs)) e

  pub window_bad : all_new n (λ _. false) (in_window at n xs) ≡ false → all_new t (λ _. false) (from_on at xs) ≡ false
  window_bad e = window_split t at n room (λ _. false) xs ∙ ap (λ (b : Bool). b && all_new t (λ _. false) (from_on (at + n) xs)) e

-- ---- a body from a region on

-- from word at on the body is whole, its regions following each other from page `next` on; and what is left decides
pub record Left (n : ℕ) (ws : List ℕ) (first to at : ℕ) : Type 0 where
  pub next : ℕ
  pub whole : whole_from 0 (slice at to ws) ≡ true
  pub tiles : tiled n next (blocks_in (slice at to ws)) ≡ true
  pub low : at ≤ to
  pub same : pages_once n (blocks_in (slice first to ws)) ≡ pages_once n (blocks_in (slice at to ws))

pub all_left : {bytes : ℕ} {ws : List ℕ} {first to n : ℕ} → FineAt bytes ws first to n → Left n ws first to first
all_left {bytes} {ws} {first} {to} {n} f =
    let (b, whole, tiles) = fine_parts n (slice first to ws) f.fine in
    record { next = b; whole = whole; tiles = tiles; low = f.low; same = refl }

module _ {n : ℕ} {ws : List ℕ} {first to at : ℕ} (x : Left n ws first to at) where
  pub none_left : to ≤ at → pages_once n (blocks_in (slice first to ws)) ≡ true
  unfolding pages_once
  none_left h = x.same ∙ ap (pages_once n) (blocks_end ws at to x.low h)

  module _ (long : to ≤ length ws) (some : at < to) where
    pub next_fits : next_at ws at ≤ to
    next_fits = region_fits ws at to long some x.whole

    split : blocks_in (slice at to ws) ≡ block_at ws at ∷ blocks_in (slice (next_at ws at) to ws)
    split = blocks_next ws at to long some x.whole

    first_is : First n x.next (block_at ws at) (blocks_in (slice (next_at ws at) to ws))
    first_is = first_picked n x.next (block_at ws at) _ (sym (ap (tiled n x.next) split) ∙ x.tiles)

    -- with the start, the length and the number of entries that were read
    module _ (lo l k : ℕ) (lo-is : lo ≡ start_at ws at) (l-is : l ≡ length_at ws at) (k-is : k ≡ count_at ws at) where
      pub region_ends : at + (3 + 2 * k) ≤ to
      region_ends = omega (arith, next_fits)

      pub region_below : lo + l ≤ n
      region_below = omega (arith, first_is.start_is, first_is.inside)

      pub region_within : all_within lo (lo + l) (picked ws (at + 3) 2 k) ≡ true
      region_within =
          rw (lo-is, l-is, k-is, first_is.start_is, ← pages_picked ws (at + 3) (count_at ws at)) first_is.pages

      pub region_reach : (bytes : ℕ) → 4 * to ≤ bytes → Reach bytes (at + 3) 2 k
      region_reach bytes h j q = omega (arith, region_ends)

      abbrev rest : Bool
      rest = pages_once n (blocks_in (slice (at + (3 + 2 * k)) to ws))

      once_next : pages_once n (blocks_in (slice first to ws)) ≡ all_new n (λ _. false) (picked ws (at + 3) 2 k) && rest
      unfolding pages_once
      once_next =
          x.same ∙ ap (pages_once n) split ∙ rw (k-is, pages_picked ws (at + 3) (count_at ws at)) refl

      pub region_good : all_new n (λ _. false) (picked ws (at + 3) 2 k) ≡ true → Left n ws first to (at + (3 + 2 * k))
      region_good e =
          record {
            next = x.next + length_at ws at;
            whole = ap (λ (i : ℕ). whole_from 0 (slice (at + (3 + 2 * i)) to ws)) k-is ∙ whole_next ws at to long some x.whole;
            tiles =
                ap (λ (i : ℕ). tiled n (x.next + length_at ws at) (blocks_in (slice (at + (3 + 2 * i)) to ws))) k-is ∙ first_is.rest;
            low = region_ends;
            same = once_next ∙ ap (λ (t : Bool). t && rest) e;
          }

      pub region_bad : all_new n (λ _. false) (picked ws (at + 3) 2 k) ≡ false → pages_once n (blocks_in (slice first to ws)) ≡ false
      region_bad e = once_next ∙ ap (λ (t : Bool). t && rest) e

-- ---- the bodies from number i on

pub bodies_end : (n : ℕ) (ws : List ℕ) (i spaces : ℕ) → spaces ≤ i → bodies_fine n ws i (spaces - i) ≡ true
unfolding bodies_fine
bodies_end n ws i spaces h = let none : spaces - i ≡ 0 = omega arith in ap (bodies_fine n ws i) none

module _ (n : ℕ) {bytes : ℕ} {ws : List ℕ} {i : ℕ} {b : Body} (at : BodyAt bytes ws i b) (spaces : ℕ) (more : i < spaces) where
  abbrev words : List ℕ
  words = slice b.first b.to ws

  bodies_next : bodies_fine n ws i (spaces - i) ≡ fine_body n words && pages_once n (blocks_in words) && bodies_fine n ws (i + 1) (spaces - (i + 1))
  unfolding bodies_fine
  bodies_next =
      let count : spaces - i ≡ suc (spaces - (i + 1)) = omega arith in
      let next : suc i ≡ i + 1 = omega arith in
      ap (bodies_fine n ws i) count
      ∙ ap₂ (λ (j : ℕ) (xs : List ℕ). fine_body n xs && pages_once n (blocks_in xs) && bodies_fine n ws j (spaces - (i + 1))) next (sym at.part)

  pub body_bad : fine_body n words ≡ false → bodies_fine n ws i (spaces - i) ≡ false
  body_bad f = bodies_next ∙ ap (λ (t : Bool). t && pages_once n (blocks_in words) && bodies_fine n ws (i + 1) (spaces - (i + 1))) f

  module _ (f : fine_body n words ≡ true) where
    pub body_twice : pages_once n (blocks_in words) ≡ false → bodies_fine n ws i (spaces - i) ≡ false
    body_twice o = bodies_next ∙ ap₂ (λ (t u : Bool). t && u && bodies_fine n ws (i + 1) (spaces - (i + 1))) f o

    pub body_good : pages_once n (blocks_in words) ≡ true → bodies_fine n ws i (spaces - i) ≡ bodies_fine n ws (i + 1) (spaces - (i + 1))
    body_good o = bodies_next ∙ ap₂ (λ (t u : Bool). t && u && bodies_fine n ws (i + 1) (spaces - (i + 1))) f o
