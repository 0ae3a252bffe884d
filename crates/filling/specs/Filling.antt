-- Pages mapped one after another, on any memory: what the loops that fill the tables do, and what they may take for granted.
use Rattle.std.specs.Prelude.{List, [], ◌∷◌, map, ℕ, zero, suc, ◌+◌, ◌*◌}
use Rattle.machine.specs.Map.{Block, blocks_in, part_in}
use Rattle.machine.specs.MapRules.{entry_pages}
use Rattle.memory.specs.Memory.{Memory}
use Rattle.entries.specs.Fits.{Mappable}
use Rattle.entries.specs.Models.{map_entry}

abbrev pub CanMap : Memory → ℕ → ℕ → Type 0
CanMap k a p = Mappable k.head k.count k.table k.helper k.stack k.cache k.link a p

-- the pages at places ps, into the region at a
unfoldable pub map_all : Memory → ℕ → List ℕ → Memory
map_all k a [] = k
map_all k a (p ∷ ps) = map_all (map_entry k a p) a ps

unfoldable pub CanAll : Memory → ℕ → List ℕ → Type 0
CanAll k a [] = Unit {0}
CanAll k a (p ∷ ps) = CanMap k a p × CanAll (map_entry k a p) a ps

-- the places of pages of the space from place lo on
abbrev pub places_from : ℕ → List ℕ → List ℕ
places_from lo pages = map (λ b. lo + b) pages

-- the pages of some regions of the space from place lo on
unfoldable pub map_blocks : Memory → ℕ → List Block → Memory
unfolding map_all
map_blocks k lo [] = k
map_blocks k lo (b ∷ bs) = map_blocks (map_all k (lo + b.start) (places_from lo (entry_pages b.entries))) lo bs

unfoldable pub CanBlocks : Memory → ℕ → List Block → Type 0
unfolding map_all CanAll
CanBlocks k lo [] = Unit {0}
CanBlocks k lo (b ∷ bs) =
    let a = lo + b.start in
    let ps = places_from lo (entry_pages b.entries) in
    CanAll k a ps × CanBlocks (map_all k a ps) lo bs

-- the pages of n spaces of so many pages each, from space i on, as a file's words tell them
unfoldable pub map_spaces : Memory → ℕ → List ℕ → ℕ → ℕ → Memory
unfolding map_blocks
map_spaces k pages ws i zero = k
map_spaces k pages ws i (suc n) = map_spaces (map_blocks k (i * pages) (blocks_in (part_in ws i))) pages ws (suc i) n

unfoldable pub CanSpaces : Memory → ℕ → List ℕ → ℕ → ℕ → Type 0
unfolding map_blocks CanBlocks
CanSpaces k pages ws i zero = Unit {0}
CanSpaces k pages ws i (suc n) =
    let bs = blocks_in (part_in ws i) in
    CanBlocks k (i * pages) bs × CanSpaces (map_blocks k (i * pages) bs) pages ws (suc i) n
