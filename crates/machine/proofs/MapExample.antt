-- A small state and its map file, by computing from the definitions; damaged files, which describe nothing; and what contents tell alone.
use Rattle.std.specs.Prelude.{◌≡◌, refl, true, false, List, [], ◌∷◌, ◌++◌, ℕ, set, take, replicate}
use Rattle.std.proofs.Math.Option.{Option, none, some}
use Rattle.sequence.specs.Lists.{tabulate}
use Rattle.places.specs.Places.{all_new, any_from}
use Rattle.words.specs.Words.{bytes_of, words_in}
use Rattle.machine.specs.State.{sizes, State, sizes_ok, is_page_size, until_start, records}
use Rattle.machine.specs.Machine.{Answer, pages, refused}
use Rattle.machine.specs.Fullness.{fullness_of}
use Rattle.machine.specs.Map.{entry_words, body_words, rows, bodies, file_words, map_words, map_of, rest_in, whole_from, entries_at}
use Rattle.machine.specs.MapRules.{all_within, tiled, fine_from, pages_once, entries_of, bodies_fine, held_frames, same, rules_ok, described}

-- two spaces of four pages, three frames of 256 bytes; in space 0 regions at pages 0 and 2, at 2 first page 3 was mapped, then page 2
abbrev small : State
small =
    record {
      sizes = sizes 2 4 3 256;
      starts = true ∷ false ∷ true ∷ false ∷ false ∷ false ∷ false ∷ false ∷ [];
      held = [] ∷ [] ∷ (record { place = 3; frame = 1 } ∷ record { place = 2; frame = 0 } ∷ []) ∷ [] ∷ [] ∷ [] ∷ [] ∷ [] ∷ [];
      pool = 2 ∷ [];
      ram = [];
    }

abbrev small_words : List ℕ
small_words =
    -- S, N, F, P
    2 ∷ 4 ∷ 3 ∷ 256
    -- space 0, space 1, the pool
    ∷ 13 ∷ 10 ∷ 2
    ∷ 23 ∷ 0 ∷ 0
    ∷ 23 ∷ 1 ∷ 1
    -- page 0: two pages, none resident; page 2: two pages, both resident
    ∷ 0 ∷ 2 ∷ 0
    ∷ 2 ∷ 2 ∷ 2 ∷ 3 ∷ 1 ∷ 2 ∷ 0
    -- the pool
    ∷ 2
    ∷ []

small_words_lem : map_words small ≡ small_words
unfolding file_words rows bodies body_words entry_words tabulate until_start records
small_words_lem = refl

-- the state that words describe as a file, with every definition open
unfoldable told : List ℕ → Option State
unfolding bytes_of words_in rules_ok sizes_ok is_page_size any_from same file_words rows bodies bodies_fine fine_from whole_from rest_in tiled all_within pages_once all_new
    entries_of held_frames entries_at tabulate
told ws = described [] (bytes_of ws)

small_told : told small_words ≡ some small
unfolding told
small_told = refl

small_back : described [] (map_of small) ≡ some small
unfolding told body_words entry_words until_start records
small_back = refl

-- frame 1 twice, frame 0 nowhere
frame_twice : told (set small_words 22 1) ≡ none
unfolding told
frame_twice = refl

-- page 3 twice
page_twice : told (set small_words 21 3) ≡ none
unfolding told
page_twice = refl

-- one word more at the end
word_more : told (small_words ++ (0 ∷ [])) ≡ none
unfolding told
word_more = refl

-- the second region starts at page 3, so that page 2 isn't its own
start_moved : told (set (set (set small_words 14 3) 16 3) 17 1) ≡ none
unfolding told
start_moved = refl

-- half a word more
bytes_more : described [] (bytes_of small_words ++ (0 ∷ 0 ∷ [])) ≡ none
unfolding told
bytes_more = refl

-- ---- W-203: how full a space is, by the contents alone

-- the first 52 bytes
abbrev small_contents : List ℕ
small_contents = bytes_of (take 13 small_words)

unfoldable full : List ℕ → ℕ → Answer
unfolding bytes_of words_in
full bytes i = fullness_of bytes i

full_of_each : full small_contents 0 ∷ full small_contents 1 ∷ [] ≡ pages 2 ∷ pages 0 ∷ []
unfolding full
full_of_each = refl

-- the pool's row is no space's
pool_is_no_space : full small_contents 2 ≡ refused 2
unfolding full
pool_is_no_space = refl

-- with a byte of the contents missing, or all of them; before a space that isn't there is minded
cut_contents : full (take 51 small_contents) 0 ∷ full (take 51 small_contents) 2 ∷ full (take 3 small_contents) 0 ∷ full [] 0 ∷ []
    ≡ refused 1 ∷ refused 1 ∷ refused 1 ∷ refused 1 ∷ []
unfolding full
cut_contents = refl

-- S of 0 and of 65
spaces_outside : full (bytes_of (set small_words 0 0)) 0 ∷ full (bytes_of (65 ∷ replicate 201 0)) 0 ∷ [] ≡ refused 1 ∷ refused 1 ∷ []
unfolding full
spaces_outside = refl

-- "as it stands": of other words only S counts, so N, F, P, places and lengths may be any
as_it_stands : full (bytes_of (2 ∷ replicate 5 0 ++ (4294967295 ∷ 9 ∷ 9 ∷ 7 ∷ replicate 3 0))) 0 ≡ pages 4294967295
unfolding full
as_it_stands = refl
