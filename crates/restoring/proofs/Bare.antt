-- Mapping pages looks neither at the index nor at the RAM.
use mathlib.Core.Path.{◌≡◌, refl, ap, ◌∙◌, subst}
use mathlib.Core.List.{List, [], ◌∷◌}
use Prim.Native.Nat.{ℕ, zero, suc, ◌+◌, ◌*◌}
use Rattle.memory.specs.Memory.{Memory, memory}
use Rattle.machine.specs.Map.{Block, blocks_in, part_in}
use Rattle.machine.specs.MapRules.{entry_pages}
use Rattle.entries.specs.Models.{map_entry}
use Rattle.filling.specs.Filling.{map_all, CanAll, map_blocks, CanBlocks, CanSpaces, places_from}

-- without them
abbrev bare : Memory → Memory
bare k = memory k.head [] k.count k.table k.helper k.stack k.cache k.link []

bare_all : (k : Memory) (a : ℕ) (ps : List ℕ) → bare (map_all k a ps) ≡ map_all (bare k) a ps
unfolding map_all
bare_all k a [] = refl
bare_all k a (p ∷ ps) = bare_all (map_entry k a p) a ps

can_all : (k : Memory) (a : ℕ) (ps : List ℕ) → CanAll k a ps → CanAll (bare k) a ps
unfolding CanAll
can_all k a [] c = tt
can_all k a (p ∷ ps) c = (c.0, can_all (map_entry k a p) a ps c.1)

bare_blocks : (k : Memory) (lo : ℕ) (bs : List Block) → bare (map_blocks k lo bs) ≡ map_blocks (bare k) lo bs
unfolding map_blocks
bare_blocks k lo [] = refl
bare_blocks k lo (b ∷ bs) =
    let ps = places_from lo (entry_pages b.entries) in
    bare_blocks (map_all k (lo + b.start) ps) lo bs ∙ ap (λ (x : Memory). map_blocks x lo bs) (bare_all k (lo + b.start) ps)

can_blocks : (k : Memory) (lo : ℕ) (bs : List Block) → CanBlocks k lo bs → CanBlocks (bare k) lo bs
unfolding CanBlocks
can_blocks k lo [] c = tt
can_blocks k lo (b ∷ bs) c =
    let ps = places_from lo (entry_pages b.entries) in
    let rest = can_blocks (map_all k (lo + b.start) ps) lo bs c.1 in
    (can_all k (lo + b.start) ps c.0, subst (λ (x : Memory). CanBlocks x lo bs) (bare_all k (lo + b.start) ps) rest)

pub can_spaces : (k : Memory) (pages : ℕ) (ws : List ℕ) (n i : ℕ) → CanSpaces k pages ws i n → CanSpaces (bare k) pages ws i n
unfolding CanSpaces
can_spaces k pages ws zero i c = tt
can_spaces k pages ws (suc n) i c =
    let bs = blocks_in (part_in ws i) in
    let rest = can_spaces (map_blocks k (i * pages) bs) pages ws n (suc i) c.1 in
    (can_blocks k (i * pages) bs c.0, subst (λ (x : Memory). CanSpaces x pages ws (suc i) n) (bare_blocks k (i * pages) bs) rest)
