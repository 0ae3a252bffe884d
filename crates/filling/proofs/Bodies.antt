-- The loop over a body's regions, and the one over all bodies: what is mapped so far, and what is left to map.
use mathlib.Core.Path.{◌≡◌, refl, sym, ap, ◌∙◌, subst}
use mathlib.Core.Bool.{true}
use mathlib.Core.List.{List, [], ◌∷◌}
use Prim.Native.Nat.{ℕ, suc, ◌+◌, ◌-◌, ◌*◌, ◌≤◌, ◌<◌}
use native.Mathlib.Omega.{arith}
use lib.ListN.{length, get_or}
use lib.Seq.{slice}
use Rattle.machine.specs.Map.{Block, blocks_in, part_in, whole_from}
use Rattle.machine.specs.MapRules.{entry_pages}
use Rattle.memory.specs.Memory.{Memory, lengths}
use Rattle.distinct.specs.Distinct.{picked, Reach}
use Rattle.walking.specs.Laws.{count_at, next_at, pages_picked}
use Rattle.walking.specs.Regions.{block_at, region_fits, blocks_next, whole_next, blocks_end}
use Rattle.filling.specs.Filling.{map_all, CanAll, map_blocks, CanBlocks, map_spaces, CanSpaces, places_from}
use Rattle.filling.proofs.Pages.{lengths_all}

-- ---- the loop over regions

lengths_blocks : (k : Memory) (lo : ℕ) (bs : List Block) → lengths (map_blocks k lo bs) ≡ lengths k
unfolding map_blocks
lengths_blocks k lo [] = refl
lengths_blocks k lo (b ∷ bs) =
    let ps = places_from lo (entry_pages b.entries) in
    lengths_blocks (map_all k (lo + b.start) ps) lo bs ∙ lengths_all k (lo + b.start) ps

-- the blocks bs₀ from memory k₀ on are those from word at on from memory k on
pub record BodyFilling (lo : ℕ) (k₀ : List ℕ → List ℕ → Memory) (bs₀ : List Block) (ws : List ℕ) (at to : ℕ) (k : List ℕ → List ℕ → Memory) : Type
    0 where
  pub all : (index ram : List ℕ) → map_blocks (k₀ index ram) lo bs₀ ≡ map_blocks (k index ram) lo (blocks_in (slice at to ws))
  pub size : lengths (k [] []) ≡ lengths (k₀ [] [])
  pub can : CanBlocks (k [] []) lo (blocks_in (slice at to ws))
  pub whole : whole_from 0 (slice at to ws) ≡ true
  pub low : at ≤ to

pub begin_body : {lo : ℕ} {k : List ℕ → List ℕ → Memory} (ws : List ℕ) (first to : ℕ) → first ≤ to → whole_from 0 (slice first to ws) ≡ true
    → CanBlocks (k [] []) lo (blocks_in (slice first to ws)) → BodyFilling lo k (blocks_in (slice first to ws)) ws first to k
begin_body ws first to l w h = record { all = λ index ram. refl; size = refl; can = h; whole = w; low = l }

module _ {lo : ℕ} {k₀ k : List ℕ → List ℕ → Memory} {bs₀ : List Block} {ws : List ℕ} {at to : ℕ} (so_far : BodyFilling lo k₀ bs₀ ws at to k) where
  pub body_filled : to ≤ at → (index ram : List ℕ) → k index ram ≡ map_blocks (k₀ index ram) lo bs₀
  unfolding map_blocks
  body_filled h index ram = sym (so_far.all index ram ∙ ap (map_blocks (k index ram) lo) (blocks_end ws at to so_far.low h))

  module _ (long : to ≤ length ws) (some : at < to) where
    abbrev rest : List Block
    rest = blocks_in (slice (next_at ws at) to ws)

    next_blocks : blocks_in (slice at to ws) ≡ block_at ws at ∷ rest
    next_blocks = blocks_next ws at to long some so_far.whole

    pub fits : next_at ws at ≤ to
    fits = region_fits ws at to long some so_far.whole

    cans : CanBlocks (k [] []) lo (block_at ws at ∷ rest)
    cans = subst (λ (bs : List Block). CanBlocks (k [] []) lo bs) next_blocks so_far.can

    module _ (s n : ℕ) (s-is : s ≡ get_or ws at 0) (n_is : n ≡ get_or ws (at + 2) 0) where
      abbrev ps : List ℕ
      ps = places_from lo (picked ws (at + 3) 2 n)

      ps_are : places_from lo (entry_pages (block_at ws at).entries) ≡ ps
      ps_are = ap (places_from lo) (pages_picked ws (at + 3) (count_at ws at) ∙ ap (picked ws (at + 3) 2) (sym n_is))

      pub region_can : CanAll (k [] []) (lo + s) (places_from lo (picked ws (at + 3) 2 n))
      unfolding CanBlocks
      region_can =
          let start : lo + get_or ws at 0 ≡ lo + s = ap (λ (x : ℕ). lo + x) (sym s-is) in
          subst (λ (a : ℕ). CanAll (k [] []) a ps) start (subst (λ (xs : List ℕ). CanAll (k [] []) (lo + get_or ws at 0) xs) ps_are cans.0)

      pub region_ends : at + (3 + 2 * n) ≤ to
      region_ends = omega (arith, fits)

      pub region_reach : (bytes : ℕ) → 4 * to ≤ bytes → Reach bytes (at + 3) 2 n
      region_reach bytes h j l = omega (arith, fits)

      pub region_filled : {k' : List ℕ → List ℕ → Memory}
          → ((index ram : List ℕ) → k' index ram ≡ map_all (k index ram) (lo + s) (places_from lo (picked ws (at + 3) 2 n)))
          → BodyFilling lo k₀ bs₀ ws (at + (3 + 2 * n)) to k'
      unfolding map_blocks CanBlocks
      region_filled {k'} e =
          let there : next_at ws at ≡ at + (3 + 2 * n) = ap (λ (x : ℕ). at + (3 + 2 * x)) (sym n_is) in
          let is : (index ram : List ℕ) → k' index ram ≡ map_all (k index ram) (lo + get_or ws at 0) (places_from lo (entry_pages (block_at ws at).entries)) =
          λ index ram.
          e index ram ∙ ap (λ (x : ℕ). map_all (k index ram) (lo + x) ps) s-is ∙ ap (map_all (k index ram) (lo + get_or ws at 0)) (sym ps_are) in
          subst (λ (i : ℕ). BodyFilling lo k₀ bs₀ ws i to k') there
          (record {
            all = λ index ram.
                so_far.all index ram ∙ ap (map_blocks (k index ram) lo) next_blocks ∙ ap (λ (x : Memory). map_blocks x lo rest) (sym (is index ram));
            size = ap lengths (e [] []) ∙ lengths_all (k [] []) (lo + s) ps ∙ so_far.size;
            can = subst (λ (x : Memory). CanBlocks x lo rest) (sym (is [] [])) cans.1;
            whole = whole_next ws at to long some so_far.whole;
            low = fits;
          })

-- ---- the loop over bodies

-- all spaces from memory k₀ on are those from space i on from memory k on
pub record SpacesFilling (pages : ℕ) (ws : List ℕ) (spaces : ℕ) (k₀ k : List ℕ → List ℕ → Memory) (i : ℕ) : Type 0 where
  pub all : (index ram : List ℕ) → map_spaces (k₀ index ram) pages ws 0 spaces ≡ map_spaces (k index ram) pages ws i (spaces - i)
  pub size : lengths (k [] []) ≡ lengths (k₀ [] [])
  pub can : CanSpaces (k [] []) pages ws i (spaces - i)

pub begin_spaces : {pages : ℕ} {ws : List ℕ} {spaces : ℕ} {k : List ℕ → List ℕ → Memory} → CanSpaces (k [] []) pages ws 0 spaces
    → SpacesFilling pages ws spaces k k 0
begin_spaces {pages} {ws} {spaces} {k} h =
    let all_left : spaces ≡ spaces - 0 = omega arith in
    record {
      all = λ index ram. ap (map_spaces (k index ram) pages ws 0) all_left;
      size = refl;
      can = subst (λ (n : ℕ). CanSpaces (k [] []) pages ws 0 n) all_left h;
    }

module _ {pages : ℕ} {ws : List ℕ} {spaces : ℕ} {k₀ k : List ℕ → List ℕ → Memory} {i : ℕ} (so_far : SpacesFilling pages ws spaces k₀ k i) where
  pub spaces_filled : spaces ≤ i → (index ram : List ℕ) → k index ram ≡ map_spaces (k₀ index ram) pages ws 0 spaces
  unfolding map_spaces
  spaces_filled h index ram =
      let none : spaces - i ≡ 0 = omega arith in
      sym (so_far.all index ram ∙ ap (map_spaces (k index ram) pages ws i) none)

  module _ (some : i < spaces) where
    more : spaces - i ≡ suc (spaces - (i + 1))
    more = omega arith

    one : suc i ≡ i + 1
    one = omega arith

    still_can : CanSpaces (k [] []) pages ws i (suc (spaces - (i + 1)))
    still_can = subst (λ (n : ℕ). CanSpaces (k [] []) pages ws i n) more so_far.can

    module _ (first to : ℕ) (part : slice first to ws ≡ part_in ws i) where
      pub space_can : CanBlocks (k [] []) (i * pages) (blocks_in (slice first to ws))
      unfolding CanSpaces
      space_can = subst (λ (xs : List ℕ). CanBlocks (k [] []) (i * pages) (blocks_in xs)) (sym part) still_can.0

      pub space_filled : {k' : List ℕ → List ℕ → Memory}
          → ((index ram : List ℕ) → k' index ram ≡ map_blocks (k index ram) (i * pages) (blocks_in (slice first to ws)))
          → SpacesFilling pages ws spaces k₀ k' (i + 1)
      unfolding map_spaces CanSpaces
      space_filled {k'} e =
          let is : (index ram : List ℕ) → k' index ram ≡ map_blocks (k index ram) (i * pages) (blocks_in (part_in ws i)) =
          λ index ram. e index ram ∙ ap (λ (xs : List ℕ). map_blocks (k index ram) (i * pages) (blocks_in xs)) part in
          record {
            all = λ index ram.
                so_far.all index ram
                ∙ ap (map_spaces (k index ram) pages ws i) more
                ∙ ap (λ (x : Memory). map_spaces x pages ws (suc i) (spaces - (i + 1))) (sym (is index ram))
                ∙ ap (λ (j : ℕ). map_spaces (k' index ram) pages ws j (spaces - (i + 1))) one;
            size = ap lengths (e [] []) ∙ lengths_blocks (k [] []) (i * pages) (blocks_in (slice first to ws)) ∙ so_far.size;
            can =
                subst (λ (j : ℕ). CanSpaces (k' [] []) pages ws j (spaces - (i + 1))) one
                (subst (λ (x : Memory). CanSpaces x pages ws (suc i) (spaces - (i + 1))) (sym (is [] [])) still_can.1);
          }
