-- What a file must be to describe a state: the rules on its words, one for each rule of the plain machine. Definitions only.
use Rattle.std.specs.Prelude.{Bool, true, false, cond, ◌&&◌, List, [], ◌∷◌, ◌++◌, map, ℕ, zero, suc, ◌+◌, ◌*◌, ◌%◌, eqb, leb, ltb, length}
use Rattle.std.proofs.Math.Option.{Option, none, some}
use Rattle.sequence.specs.Lists.{tabulate}
use Rattle.places.specs.Places.{all_new}
use Rattle.words.specs.Words.{words_in}
use Rattle.machine.specs.State.{State, sizes_ok}
use Rattle.machine.specs.Map.{Entry, Block, Part, first_body, file_words, sizes_in, part_in, whole_from, blocks_in, state_in}

-- all from lo on and below hi
unfoldable pub all_within : ℕ → ℕ → List ℕ → Bool
all_within lo hi [] = true
all_within lo hi (x ∷ xs) = leb lo x && ltb x hi && all_within lo hi xs

abbrev pub entry_pages : List Entry → List ℕ
entry_pages xs = map (λ x. x.page) xs

abbrev pub entry_frames : List Entry → List ℕ
entry_frames xs = map (λ x. x.frame) xs

-- "A region runs from its start to just before the next start of its space, or to the space's end": from page b on to page n
unfoldable pub tiled : ℕ → ℕ → List Block → Bool
tiled n b [] = eqb b n
tiled n b (x ∷ xs) =
    let end = b + x.length in
    eqb x.start b && ltb 0 x.length && leb end n && all_within b end (entry_pages x.entries) && tiled n end xs

unfoldable pub fine_from : ℕ → ℕ → List ℕ → Bool
fine_from n b ws = whole_from 0 ws && tiled n b (blocks_in ws)

-- the body of a space of n pages; a space without a region has none
abbrev pub fine_body : ℕ → List ℕ → Bool
fine_body n [] = true
fine_body n (a ∷ ws) = fine_from n a (a ∷ ws)

-- "no page twice": of n pages, in each region
unfoldable pub pages_once : ℕ → List Block → Bool
pages_once n [] = true
pages_once n (x ∷ xs) = all_new n (λ _. false) (entry_pages x.entries) && pages_once n xs

unfoldable pub entries_of : List Block → List Entry
entries_of [] = []
entries_of (x ∷ xs) = x.entries ++ entries_of xs

-- of n bodies from number i on, each
unfoldable pub bodies_fine : ℕ → List ℕ → ℕ → ℕ → Bool
bodies_fine pages ws i zero = true
bodies_fine pages ws i (suc n) = fine_body pages (part_in ws i) && pages_once pages (blocks_in (part_in ws i)) && bodies_fine pages ws (suc i) n

unfoldable pub held_frames : List ℕ → ℕ → ℕ → List ℕ
held_frames ws i zero = []
held_frames ws i (suc n) = entry_frames (entries_of (blocks_in (part_in ws i))) ++ held_frames ws (suc i) n

abbrev pub all_frames : List ℕ → List ℕ
all_frames ws = let z = sizes_in ws in held_frames ws 0 z.spaces ++ part_in ws z.spaces

-- the bodies, each with the number that its contents' row must have
abbrev pub space_in : List ℕ → ℕ → Part
space_in ws i = record { words = part_in ws i; count = length (entries_of (blocks_in (part_in ws i))) }

abbrev pub pool_in : List ℕ → Part
pool_in ws = let body = part_in ws (sizes_in ws).spaces in record { words = body; count = length body }

abbrev pub parts_in : List ℕ → List Part
parts_in ws = tabulate (space_in ws) (sizes_in ws).spaces ++ (pool_in ws ∷ [])

unfoldable pub same : List ℕ → List ℕ → Bool
same [] [] = true
same [] (y ∷ ys) = false
same (x ∷ xs) [] = false
same (x ∷ xs) (y ∷ ys) = eqb x y && same xs ys

unfoldable pub rules_ok : List ℕ → Bool
rules_ok ws =
    let z = sizes_in ws in
    sizes_ok z
    -- contents that these bodies ask for, bodies "in order with no gaps", and no word more
    && same (file_words z (parts_in ws)) ws
    && bodies_fine z.pages ws 0 z.spaces
    -- "each frame stands once"
    && eqb (length (all_frames ws)) z.frames && all_new z.frames (λ _. false) (all_frames ws)

-- the state that a file's words describe, if they describe any
abbrev pub restored : List ℕ → List ℕ → Option State
restored ram ws = cond (rules_ok ws) (some (state_in ram ws)) none

-- ---- the same of bytes

-- how many words the contents have, by what the file's own words tell (W-210: of which kind the file is)
abbrev pub contents_words : List ℕ → ℕ
contents_words ws = first_body (sizes_in ws).spaces

-- not so: "contents cut short"
abbrev pub contents_whole : List ℕ → Bool
contents_whole file = leb (4 * contents_words (words_in file)) (length file)

-- not so: "contents cut short or sizes outside their limits"
abbrev pub contents_ok : List ℕ → Bool
contents_ok file = sizes_ok (sizes_in (words_in file)) && contents_whole file

-- "The file is exactly the bytes given": whole words that keep the rules
abbrev pub file_ok : List ℕ → Bool
file_ok file = eqb (length file % 4) 0 && rules_ok (words_in file)

abbrev pub described : List ℕ → List ℕ → Option State
described ram file = cond (file_ok file) (some (state_in ram (words_in file))) none
