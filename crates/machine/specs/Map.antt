-- The map file of document 02, W-202: the words that a state is written as, and the state that words tell of. Definitions only.
use Rattle.std.specs.Prelude.{Bool, true, false, cond, List, [], ◌∷◌, ◌++◌, map, ℕ, zero, suc, ◌+◌, ◌-◌, ◌*◌, ◌/◌, ◌%◌, eqb, length, get_or, take, drop}
use Rattle.std.proofs.Math.Option.{Option, none, some}
use Rattle.sequence.specs.Lists.{tabulate}
use Rattle.sequence.specs.Sums.{sum}
use Rattle.words.specs.Words.{bytes_of}
use Rattle.machine.specs.declared.Region.{Region}
use Rattle.machine.specs.State.{Sizes, places, place_of, State, Pair, region, records_of}

-- ---- a space's body

-- "page and frame pairs in mapping order"
pub record Entry : Type 0 where
  pub page : ℕ
  pub frame : ℕ

-- a region as its space's body has it
pub record Block : Type 0 where
  pub start : ℕ
  pub length : ℕ
  pub entries : List Entry

unfoldable pub entry_words : List Entry → List ℕ
entry_words [] = []
entry_words (x ∷ xs) = x.page ∷ x.frame ∷ entry_words xs

-- "for each region ascending: start, length, resident count, then page and frame pairs"
unfoldable pub body_words : List Block → List ℕ
unfolding entry_words
body_words [] = []
body_words (b ∷ bs) = b.start ∷ b.length ∷ length b.entries ∷ (entry_words b.entries ++ body_words bs)

-- ---- the file

-- a space's body with its resident pages, or the pool with its length
pub record Part : Type 0 where
  pub words : List ℕ
  pub count : ℕ

-- "three words: where its body starts, its length in words, and its resident pages (for the pool, its length)", the first body at word n
unfoldable pub rows : ℕ → List Part → List ℕ
rows n [] = []
rows n (x ∷ xs) = n ∷ length x.words ∷ x.count ∷ rows (n + length x.words) xs

-- "Bodies follow in order with no gaps"
unfoldable pub bodies : List Part → List ℕ
bodies [] = []
bodies (x ∷ xs) = x.words ++ bodies xs

-- the words of the contents of a file of s spaces, where the first body starts (W-210: 5 S + 7)
abbrev pub first_body : ℕ → ℕ
first_body s = 4 + 3 * suc s

unfoldable pub file_words : Sizes → List Part → List ℕ
unfolding rows bodies
file_words z xs = z.spaces ∷ z.pages ∷ z.frames ∷ z.page ∷ (rows (first_body z.spaces) xs ++ bodies xs)

-- ---- a state as a file

abbrev pub entry_of : ℕ → Pair → Entry
entry_of lo x = record { page = x.place - lo; frame = x.frame }

-- lo is the first place of the region's space
abbrev pub block_of : State → ℕ → Region → Block
block_of m lo r = record { start = r.start; length = r.length; entries = map (entry_of lo) (region m (lo + r.start)) }

abbrev pub blocks_of : State → ℕ → List Block
blocks_of m i = map (block_of m (place_of m.sizes i 0)) (records_of m i)

abbrev pub space_part : State → ℕ → Part
space_part m i = record { words = body_words (blocks_of m i); count = sum (λ b. length b.entries) (blocks_of m i) }

abbrev pub pool_part : State → Part
pool_part m = record { words = m.pool; count = length m.pool }

abbrev pub parts_of : State → List Part
parts_of m = tabulate (space_part m) m.sizes.spaces ++ (pool_part m ∷ [])

abbrev pub map_words : State → List ℕ
map_words m = file_words m.sizes (parts_of m)

-- "the whole machine state but for the RAM"
abbrev pub map_of : State → List ℕ
map_of m = bytes_of (map_words m)

-- ---- a file as a state: words read as far as they go; what they tell counts only if it is written as these very words

-- the entries still to come of a block, and the blocks after it
pub record Rest : Type 0 where
  pub entries : List Entry
  pub blocks : List Block

abbrev pub nothing : Rest
nothing = record { entries = []; blocks = [] }

-- k entries, then blocks. A body that ends inside a region ends there, "a cut head or pair uncounted" (W-212)
unfoldable pub rest_in : ℕ → List ℕ → Rest
rest_in zero (a ∷ b ∷ n ∷ ws) = let r = rest_in n ws in record { entries = []; blocks = record { start = a; length = b; entries = r.entries } ∷ r.blocks }
rest_in zero (a ∷ b ∷ []) = nothing
rest_in zero (a ∷ []) = nothing
rest_in zero [] = nothing
rest_in (suc k) (p ∷ f ∷ ws) = let r = rest_in k ws in record { entries = record { page = p; frame = f } ∷ r.entries; blocks = r.blocks }
rest_in (suc k) (p ∷ []) = nothing
rest_in (suc k) [] = nothing

abbrev pub blocks_in : List ℕ → List Block
blocks_in ws = (rest_in 0 ws).blocks

-- no head and no pair is cut
unfoldable pub whole_from : ℕ → List ℕ → Bool
whole_from zero (a ∷ b ∷ n ∷ ws) = whole_from n ws
whole_from zero (a ∷ b ∷ []) = false
whole_from zero (a ∷ []) = false
whole_from zero [] = true
whole_from (suc k) (p ∷ f ∷ ws) = whole_from k ws
whole_from (suc k) (p ∷ []) = false
whole_from (suc k) [] = false

abbrev pub sizes_in : List ℕ → Sizes
sizes_in ws = record { spaces = get_or ws 0 0; pages = get_or ws 1 0; frames = get_or ws 2 0; page = get_or ws 3 0 }

-- the three words of row i, that of the pool for i = S: where its body starts, its length in words, and its resident pages, of the pool its length
abbrev pub row_start : List ℕ → ℕ → ℕ
row_start ws i = get_or ws (4 + 3 * i) 0

abbrev pub row_length : List ℕ → ℕ → ℕ
row_length ws i = get_or ws (4 + (3 * i + 1)) 0

abbrev pub row_count : List ℕ → ℕ → ℕ
row_count ws i = get_or ws (4 + (3 * i + 2)) 0

-- the body of space i; of the pool, for i = S
abbrev pub part_in : List ℕ → ℕ → List ℕ
part_in ws i = take (row_length ws i) (drop (row_start ws i) ws)

-- what the block that starts at page b has, if there is one
unfoldable pub entries_at : List Block → ℕ → Option (List Entry)
entries_at [] b = none
entries_at (x ∷ xs) b = let r = entries_at xs b in cond (eqb x.start b) (some x.entries) r

abbrev pub is_some : Option (List Entry) → Bool
is_some none = false
is_some (some xs) = true

abbrev pub or_empty : Option (List Entry) → List Entry
or_empty none = []
or_empty (some xs) = xs

abbrev pub pair_of : ℕ → Entry → Pair
pair_of lo x = record { place = lo + x.page; frame = x.frame }

-- at place p, of n pages a space
abbrev pub found_at : ℕ → List ℕ → ℕ → Option (List Entry)
found_at n ws p = entries_at (blocks_in (part_in ws (p / n))) (p % n)

abbrev pub held_at : ℕ → List ℕ → ℕ → List Pair
held_at n ws p = map (pair_of (p / n * n)) (or_empty (found_at n ws p))

abbrev pub state_in : List ℕ → List ℕ → State
state_in ram ws =
    let z = sizes_in ws in
    record {
      sizes = z;
      starts = tabulate (λ p. is_some (found_at z.pages ws p)) (places z);
      held = tabulate (held_at z.pages ws) (places z);
      pool = part_in ws z.spaces;
      ram = ram;
    }
