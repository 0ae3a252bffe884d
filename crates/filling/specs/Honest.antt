-- From memory that stands for the state before the first pair, with the file of a sound state: every page can be mapped, and what is left stands for the state.
use Rattle.std.proofs.Math.Path.{◌≡◌, refl, ap, subst}
use Rattle.std.proofs.Common.{sym, ◌∙◌, suc-mul, mul-le-mul_right, drop-cons}
use Rattle.std.specs.Prelude.{Bool, get_or}
use Rattle.std.proofs.Math.Bool.{true, false}
use mathlib.Core.List.{List, [], ◌∷◌, map}
use Prim.Native.Nat.{ℕ, zero, suc, ◌+◌, ◌-◌, ◌*◌, ◌≤◌, ◌<◌}
use native.Mathlib.Omega.{arith}
use Rattle.std.proofs.Math.ListN.{length, drop}
use Rattle.std.proofs.Math.Seq.{drop-length}
use Rattle.sequence.specs.Lists.{Each}
use Rattle.machine.specs.Machine.{places, place_of, State, Pair, is_start, region, records}
use Rattle.machine.specs.Claims.{Sound, no_pair}
use Rattle.machine.specs.Map.{Block, entry_of, block_of, blocks_in, part_in, map_words}
use Rattle.machine.specs.MapRules.{entry_pages}
use Rattle.machine.proofs.Laws.Regions.{owner_of}
use Rattle.machine.proofs.Laws.Kept.{none_elsewhere}
use Rattle.machine.proofs.Laws.Records.{records_start, records_none}
use Rattle.machine.proofs.Laws.Map.Back.{blocks_of_lem}
use Rattle.memory.specs.Memory.{Memory}
use Rattle.entries.specs.Models.{map_entry}
use Rattle.filling.specs.Partial.{partial}
use Rattle.filling.specs.Stands.{Stands, Fills, fills_none, fills_more}
use Rattle.filling.specs.Filling.{map_all, CanAll, places_from, map_blocks, CanBlocks, map_spaces, CanSpaces}
use Rattle.filling.specs.Laws.{next_fills, region_done, all_done}

-- ---- one region

abbrev places_of : List Pair → List ℕ
places_of xs = map (λ x. x.place) xs

module _ (m : State) (s : Sound m) where
  -- the pages ps of the region at a, from memory k on
  abbrev PagesFill : Memory → ℕ → List ℕ → State → Type 0
  PagesFill k a ps n = Fills m.sizes (CanAll k a ps) k (map_all k a ps) n

  module _ (a : ℕ) where
    abbrev full : State
    full = partial m a (length (region m a))

    pairs_fill : (n j : ℕ) → j + n ≡ length (region m a) → (k : Memory) → Stands (partial m a j) k → PagesFill k a (places_of (drop j (region m a))) full
    unfolding map_all CanAll
    pairs_fill zero j e k st =
        let all : j ≡ length (region m a) = omega arith in
        let none : drop j (region m a) ≡ [] = ap (λ (i : ℕ). drop i (region m a)) all ∙ drop-length (region m a) in
        subst (λ (xs : List Pair). PagesFill k a (places_of xs) full) (sym none)
        (fills_none (subst (λ (i : ℕ). Stands (partial m a i) k) all st))
    pairs_fill (suc n) j e k st =
        let more : j < length (region m a) = omega arith in
        let first = next_fills m s a j more k st in
        let rest = pairs_fill n (suc j) (omega arith) (map_entry k a (get_or (region m a) j no_pair).place) first.stands in
        subst (λ (xs : List Pair). PagesFill k a (places_of xs) full) (sym (drop-cons (region m a) j no_pair more)) (fills_more first rest)

    region_fill : a < places m.sizes → (k : Memory) → Stands (partial m a 0) k → PagesFill k a (places_of (region m a)) (partial m (suc a) 0)
    region_fill low k st =
        subst (λ (n : State). PagesFill k a (places_of (region m a)) n) (region_done m s a low) (pairs_fill (length (region m a)) 0 (omega arith) k st)

  -- ---- one space

  -- some regions of the space from place lo on
  abbrev BlocksFill : Memory → ℕ → List Block → State → Type 0
  BlocksFill k lo bs n = Fills m.sizes (CanBlocks k lo bs) k (map_blocks k lo bs) n

  -- a page's place is its number, from the space's first place on
  from_lo : (lo : ℕ) (xs : List Pair) → Each no_pair (λ x. lo ≤ x.place) xs → places_from lo (entry_pages (map (entry_of lo) xs)) ≡ places_of xs
  from_lo lo [] h = refl
  from_lo lo (x ∷ xs) h =
      let same : lo + (x.place - lo) ≡ x.place = omega (arith, h 0 (omega arith)) in
      ap (λ (y : ℕ). y ∷ places_from lo (entry_pages (map (entry_of lo) xs))) same
      ∙ ap (λ (ys : List ℕ). x.place ∷ ys) (from_lo lo xs (λ i l. h (suc i) (omega arith)))

  module _ (lo : ℕ) where
    above : (a : ℕ) → lo ≤ a → Each no_pair (λ x. lo ≤ x.place) (region m a)
    above a l j h = omega (arith, (owner_of m.sizes.pages m.starts _ a (s.own a j h)).at_most)

    abbrev blocks_from : ℕ → ℕ → List Block
    blocks_from b n = map (block_of m lo) (records m lo b n)

    module _ (n b : ℕ) (l : lo + b + suc n ≤ places m.sizes) (k : Memory) (st : Stands (partial m (lo + b) 0) k)
        (later : (k' : Memory) → Stands (partial m (lo + suc b) 0) k' → BlocksFill k' lo (blocks_from (suc b) n) (partial m (lo + suc b + n) 0)) where
      abbrev ps : List ℕ
      ps = places_from lo (entry_pages (map (entry_of lo) (region m (lo + b))))

      filled : PagesFill k (lo + b) (places_of (region m (lo + b))) (partial m (lo + suc b) 0)
      filled =
          let next : suc (lo + b) ≡ lo + suc b = omega arith in
          subst (λ (i : ℕ). PagesFill k (lo + b) (places_of (region m (lo + b))) (partial m i 0)) next (region_fill (lo + b) (omega arith) k st)

      filled_so : PagesFill k (lo + b) ps (partial m (lo + suc b) 0)
      filled_so =
          subst (λ (xs : List ℕ). PagesFill k (lo + b) xs (partial m (lo + suc b) 0))
          (sym (from_lo lo (region m (lo + b)) (above (lo + b) (omega arith)))) filled

      rest : (k' : Memory) → Stands (partial m (lo + suc b) 0) k' → BlocksFill k' lo (blocks_from (suc b) n) (partial m (lo + b + suc n) 0)
      rest k' st' =
          let last : lo + suc b + n ≡ lo + b + suc n = omega arith in
          subst (λ (i : ℕ). BlocksFill k' lo (blocks_from (suc b) n) (partial m i 0)) last (later k' st')

      -- a place that is no start has no pairs
      passed : (xs : List Pair) → xs ≡ [] → PagesFill k (lo + b) (places_of xs) (partial m (lo + suc b) 0) → Stands (partial m (lo + suc b) 0) k
      unfolding map_all
      passed [] x h = h.stands
      passed (y ∷ ys) x h = absurd (let z : ◌≡◌ {A = ℕ} 0 1 = cc in omega arith)

      one_record : BlocksFill k lo (blocks_from b (suc n)) (partial m (lo + b + suc n) 0)
      unfolding map_blocks CanBlocks
      one_record = go (is_start m (lo + b)) refl
        where
          go : (t : Bool) → is_start m (lo + b) ≡ t → BlocksFill k lo (blocks_from b (suc n)) (partial m (lo + b + suc n) 0)
          go true e =
              subst (λ rs. BlocksFill k lo (map (block_of m lo) rs) (partial m (lo + b + suc n) 0)) (sym (records_start m lo b n e))
              (fills_more filled_so (rest (map_all k (lo + b) ps) filled_so.stands))
          go false e =
              subst (λ rs. BlocksFill k lo (map (block_of m lo) rs) (partial m (lo + b + suc n) 0)) (sym (records_none m lo b n e))
              (rest k (passed (region m (lo + b)) (none_elsewhere m s (lo + b) e) filled))

    records_fill : (n b : ℕ) → lo + b + n ≤ places m.sizes → (k : Memory) → Stands (partial m (lo + b) 0) k
        → BlocksFill k lo (blocks_from b n) (partial m (lo + b + n) 0)
    unfolding records map_blocks CanBlocks
    records_fill zero b l k st =
        let end : lo + b ≡ lo + b + 0 = omega arith in
        fills_none (subst (λ (i : ℕ). Stands (partial m i 0) k) end st)
    records_fill (suc n) b l k st = one_record n b l k st (λ k' st'. records_fill n (suc b) (omega arith) k' st')

  -- ---- all spaces

  abbrev N : ℕ
  N = m.sizes.pages

  space_fill : (i : ℕ) → i < m.sizes.spaces → (k : Memory) → Stands (partial m (i * N) 0) k
      → BlocksFill k (i * N) (blocks_in (part_in (map_words m) i)) (partial m (suc i * N) 0)
  space_fill i l k st =
      let lo : place_of m.sizes i 0 ≡ i * N = omega arith in
      let begin : i * N ≡ i * N + 0 = omega arith in
      let end : i * N + 0 + N ≡ suc i * N = omega (arith, suc-mul i N) in
      let inside : i * N + 0 + N ≤ places m.sizes = omega (arith, suc-mul i N, mul-le-mul_right N l) in
      subst (λ (bs : List Block). BlocksFill k (i * N) bs (partial m (suc i * N) 0)) (sym (blocks_of_lem m s i l))
      (subst (λ (j : ℕ). BlocksFill k (i * N) (map (block_of m j) (records m j 0 N)) (partial m (suc i * N) 0)) (sym lo)
      (subst (λ (j : ℕ). BlocksFill k (i * N) (map (block_of m (i * N)) (records m (i * N) 0 N)) (partial m j 0)) end
      (records_fill (i * N) N 0 inside k (subst (λ (j : ℕ). Stands (partial m j 0) k) begin st))))

  -- n spaces from space i on
  abbrev SpacesFill : Memory → ℕ → ℕ → State → Type 0
  SpacesFill k i n x = Fills m.sizes (CanSpaces k N (map_words m) i n) k (map_spaces k N (map_words m) i n) x

  spaces_fill : (n i : ℕ) → i + n ≡ m.sizes.spaces → (k : Memory) → Stands (partial m (i * N) 0) k → SpacesFill k i n m
  unfolding map_spaces CanSpaces
  spaces_fill zero i e k st =
      let same : i ≡ m.sizes.spaces = omega arith in
      let all : partial m (i * N) 0 ≡ m = ap (λ (j : ℕ). partial m (j * N) 0) same ∙ all_done m s in
      fills_none (subst (λ (n : State). Stands n k) all st)
  spaces_fill (suc n) i e k st =
      let here = space_fill i (omega arith) k st in
      fills_more here (spaces_fill n (suc i) (omega arith) (map_blocks k (i * N) (blocks_in (part_in (map_words m) i))) here.stands)

  -- the whole file
  pub file_fill : (k : Memory) → Stands (partial m 0 0) k
      → Fills m.sizes (CanSpaces k m.sizes.pages (map_words m) 0 m.sizes.spaces) k (map_spaces k m.sizes.pages (map_words m) 0 m.sizes.spaces) m
  file_fill k st =
      let none : 0 ≡ 0 * N = omega arith in
      spaces_fill m.sizes.spaces 0 (omega arith) k (subst (λ (j : ℕ). Stands (partial m j 0) k) none st)
