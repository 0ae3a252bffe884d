-- W-202's map, by computing from the definitions: as the session's line `map` answers it, bytes in, bytes out; and its two calls.
use Rattle.std.specs.Prelude.{◌≡◌, refl, List, [], ◌∷◌, ◌++◌, map, ℕ, replicate}
use Prim.Native.String.{String}
use Rattle.places.specs.Places.{all_new}
use Rattle.words.specs.Words.{bytes_of, words_in}
use Rattle.machine.specs.Machine.{sizes, unstarted, start, touch, look, free, read, write_map, read_map, done, new, resident, frames, bytes, map_file, refused}
use Rattle.machine.specs.Machine.{refused_after}
use Rattle.machine.specs.Map.{entry_words, body_words, rows, bodies, file_words, rest_in, whole_from, entries_at}
use Rattle.machine.specs.MapRules.{all_within, tiled, fine_from, pages_once, entries_of, bodies_fine, held_frames, same, rules_ok}
use Rattle.digits.specs.Text.{hex_text}
use Rattle.examples.specs.Session.{all, played, codes, answers_from}
use Rattle.examples.specs.Corners.{nothing}

-- ---- lines

-- an answer cut into parts: sizes, a row for each space and the pool, then regions and the pool
abbrev pub joined : List String → List ℕ
joined [] = []
joined (s ∷ ss) = codes s ++ joined ss

-- no start made; a pool alone; two regions with three pages, one of them released; two spaces, the pool empty; no other line with the name
abbrev lines : List (String × List String)
lines =
    ("map", "no 1" ∷ [])
    ∷ ("start 1 8 3 256", "ok" ∷ [])
    ∷ ("map", "map 01000000080000000300000000010000" ∷ "0a0000000000000000000000" ∷ "0a0000000300000003000000" ∷ "000000000100000002000000" ∷ [])
    ∷ ("mark 0 0", "ok" ∷ [])
    ∷ ("mark 0 4", "ok" ∷ [])
    ∷ ("touch 0 5", "frame 0 new 1" ∷ [])
    ∷ ("touch 0 1", "frame 1 new 1" ∷ [])
    ∷ ("touch 0 6", "frame 2 new 1" ∷ [])
    ∷ (
      "map",
      "map 01000000080000000300000000010000" ∷ "0a0000000c00000003000000" ∷ "160000000000000000000000"
          ∷ "0000000004000000010000000100000001000000" ∷ "04000000040000000200000005000000000000000600000002000000" ∷ [],
    )
    ∷ ("release 0 4", "pages 2" ∷ [])
    ∷ (
      "map",
      "map 01000000080000000300000000010000" ∷ "0a0000000800000001000000" ∷ "120000000200000002000000"
          ∷ "0000000004000000010000000100000001000000" ∷ "040000000400000000000000" ∷ "0200000000000000" ∷ [],
    )
    ∷ ("start 2 4 1 512", "ok" ∷ [])
    ∷ ("mark 1 0", "ok" ∷ [])
    ∷ ("mark 1 1", "ok" ∷ [])
    ∷ ("mark 0 2", "ok" ∷ [])
    ∷ ("touch 1 3", "frame 0 new 1" ∷ [])
    ∷ (
      "map",
      "map 02000000040000000100000000020000" ∷ "0d0000000300000000000000" ∷ "100000000800000001000000" ∷ "180000000000000000000000"
          ∷ "020000000200000000000000" ∷ "000000000100000000000000" ∷ "0100000003000000010000000300000000000000" ∷ [],
    )
    ∷ ("map 0", "bad line" ∷ [])
    ∷ ("map ", "bad line" ∷ [])
    ∷ ("maps", "bad line" ∷ [])
    ∷ []

map_lines : answers_from (unstarted (replicate 32768 0)) (map (λ l. codes l.0) lines) ≡ map (λ l. joined l.1) lines
unfolding answers_from entry_words body_words rows bodies file_words bytes_of hex_text
map_lines = refl

-- ---- calls

-- one space of 4 pages, 2 frames: a region from page 1 on with page 2 on frame 1; frame 0 in the pool
abbrev contents : List ℕ
contents = 1 ∷ 4 ∷ 2 ∷ 256 ∷ 10 ∷ 5 ∷ 1 ∷ 15 ∷ 1 ∷ 1 ∷ []

abbrev file : List ℕ
file = bytes_of (contents ++ (1 ∷ 3 ∷ 1 ∷ 2 ∷ 1 ∷ 0 ∷ []))

-- the same with page 3 on frame 0
abbrev mapped : List ℕ
mapped = bytes_of (1 ∷ 4 ∷ 2 ∷ 256 ∷ 10 ∷ 7 ∷ 2 ∷ 17 ∷ 0 ∷ 0 ∷ 1 ∷ 3 ∷ 2 ∷ 2 ∷ 1 ∷ 3 ∷ 0 ∷ [])

-- frame 1 twice
abbrev twice : List ℕ
twice = bytes_of (contents ++ (1 ∷ 3 ∷ 1 ∷ 2 ∷ 1 ∷ 1 ∷ []))

-- a reading needs no start, and its resident page shows the RAM as it stands, a page mapped later zeros; 13 for one byte too few; in reading 12 for
-- contents cut short or sizes outside their limits, then 1, then 12, a byte more or a frame twice; a refused reading keeps the state
map_calls :
    played
    (write_map 64 all
    ∷ read_map file all
    ∷ free
    ∷ look 0 0 all
    ∷ look 0 2 all
    ∷ read 0 512 1 all
    ∷ write_map 64 all
    ∷ touch 0 3 all
    ∷ read 0 768 1 all
    ∷ write_map 67 all
    ∷ write_map 68 all
    ∷ read_map (bytes_of (1 ∷ 4 ∷ 2 ∷ 256 ∷ [])) all
    ∷ read_map (bytes_of (65 ∷ contents)) nothing
    ∷ read_map file nothing
    ∷ read_map twice nothing
    ∷ read_map twice all
    ∷ read_map (file ++ (0 ∷ [])) all
    ∷ free
    ∷ read_map file all
    ∷ free
    ∷ start (sizes 1 4 2 256) all
    ∷ free
    ∷ [])
    ≡ refused 1
    ∷ done
    ∷ frames 1
    ∷ refused_after 4 1
    ∷ resident 1
    ∷ bytes (7 ∷ [])
    ∷ map_file file
    ∷ new 0 1
    ∷ bytes (0 ∷ [])
    ∷ refused 13
    ∷ map_file mapped
    ∷ refused 12
    ∷ refused 12
    ∷ refused 1
    ∷ refused 1
    ∷ refused 12
    ∷ refused 12
    ∷ frames 0
    ∷ done
    ∷ frames 1
    ∷ done
    ∷ frames 2
    ∷ []
unfolding played entry_words body_words rows bodies file_words bytes_of words_in rest_in whole_from entries_at all_within tiled fine_from pages_once entries_of bodies_fine
    held_frames same rules_ok all_new
map_calls = refl
