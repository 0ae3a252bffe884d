-- The loop over a region's entries: what is mapped so far, and what is left to map.
use mathlib.Core.Path.{◌≡◌, refl, sym, ap, ◌∙◌, subst}
use mathlib.Core.List.{List, [], ◌∷◌}
use Prim.Native.Nat.{ℕ, ◌+◌, ◌*◌, ◌≤◌, ◌<◌}
use lib.ListN.{get_or, length-set}
use Rattle.memory.specs.Memory.{Memory, memory, lengths}
use Rattle.memory.specs.declared.Head.{Head}
use Rattle.pool.specs.declared.Taken.{Taken}
use Rattle.entries.specs.Fits.{Mapped}
use Rattle.entries.specs.Models.{map_entry}
use Rattle.distinct.specs.Distinct.{picked_on}
use Rattle.distinct.specs.Laws.{picked_next, picked_end}
use Rattle.filling.specs.Filling.{CanMap, map_all, CanAll, places_from}

-- ---- one page

pub page_filled : (h : Head) (count table helper stack cache link : List ℕ) (a p : ℕ) (r : Taken) (count' table' helper' stack' cache' link' : List ℕ)
    → Mapped h count table helper stack cache link a p r count' table' helper' stack' cache' link' → (index ram : List ℕ)
    → memory r.head index count' table' helper' stack' cache' link' ram ≡ map_entry (memory h index count table helper stack cache link ram) a p
page_filled h count table helper stack cache link a p r count' table' helper' stack' cache' link' m index ram =
    rw (m.count_is, m.table_is, m.helper_is, m.stack_is, m.cache_is, m.link_is, m.first) refl

lengths_entry : (k : Memory) (a p : ℕ) → lengths (map_entry k a p) ≡ lengths k
lengths_entry k a p = simp length-set refl

pub lengths_all : (k : Memory) (a : ℕ) (ps : List ℕ) → lengths (map_all k a ps) ≡ lengths k
unfolding map_all
lengths_all k a [] = refl
lengths_all k a (p ∷ ps) = lengths_all (map_entry k a p) a ps ∙ lengths_entry k a p

-- ---- a region's pages

-- the pages ps₀ from memory k₀ on are the pages ps from memory k on; whatever index and RAM, which are not lent
pub record Filling (a : ℕ) (k₀ : List ℕ → List ℕ → Memory) (ps₀ : List ℕ) (k : List ℕ → List ℕ → Memory) (ps : List ℕ) : Type 0 where
  pub all : (index ram : List ℕ) → map_all (k₀ index ram) a ps₀ ≡ map_all (k index ram) a ps
  pub size : lengths (k [] []) ≡ lengths (k₀ [] [])
  pub can : CanAll (k [] []) a ps

module _ (lo : ℕ) (ws : List ℕ) (from n i : ℕ) {a : ℕ} {k₀ k : List ℕ → List ℕ → Memory} {ps₀ : List ℕ}
    (so_far : Filling a k₀ ps₀ k (places_from lo (picked_on ws from 2 n i))) where
  pub all_filled : n ≤ i → (index ram : List ℕ) → k index ram ≡ map_all (k₀ index ram) a ps₀
  unfolding map_all
  all_filled h index ram = sym (so_far.all index ram ∙ ap (λ (xs : List ℕ). map_all (k index ram) a (places_from lo xs)) (picked_end ws from 2 n i h))

  module _ (some : i < n) (w : ℕ) (w-is : w ≡ get_or ws (from + 2 * i) 0) where
    abbrev rest : List ℕ
    rest = places_from lo (picked_on ws from 2 n (i + 1))

    more : places_from lo (picked_on ws from 2 n i) ≡ (lo + w) ∷ rest
    more = ap (places_from lo) (picked_next ws from 2 n i w some w-is)

    cans : CanAll (k [] []) a ((lo + w) ∷ rest)
    cans = subst (λ (ps : List ℕ). CanAll (k [] []) a ps) more so_far.can

    pub next_can : CanMap (k [] []) a (lo + w)
    unfolding CanAll
    next_can = cans.0

    pub one_filled : {k' : List ℕ → List ℕ → Memory} → ((index ram : List ℕ) → k' index ram ≡ map_entry (k index ram) a (lo + w))
        → Filling a k₀ ps₀ k' rest
    unfolding map_all CanAll
    one_filled {k'} e =
        record {
          all = λ index ram.
              so_far.all index ram ∙ ap (map_all (k index ram) a) more ∙ ap (λ (x : Memory). map_all x a rest) (sym (e index ram));
          size = ap lengths (e [] []) ∙ lengths_entry (k [] []) a (lo + w) ∙ so_far.size;
          can = subst (λ (x : Memory). CanAll x a rest) (sym (e [] [])) cans.1;
        }
