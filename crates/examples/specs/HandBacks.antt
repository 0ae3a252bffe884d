-- W-205's hand-back, by computing from the definitions: the list that it leaves, the calls, and the session's line `give`, bytes in, bytes out.
use Rattle.std.specs.Prelude.{◌≡◌, refl, List, [], ◌∷◌, map, ℕ, replicate}
use Prim.Native.String.{String}
use Rattle.words.specs.Words.{bytes_of}
use Rattle.machine.specs.Machine.{sizes, unstarted, start, mark, drop, touch, look, release, give_back, free, read, write, Pair, index_in, without}
use Rattle.machine.specs.Machine.{done, new, absent, pages, frames, bytes, handed, refused}
use Rattle.machine.specs.Map.{entry_words, body_words, rows, bodies, file_words}
use Rattle.digits.specs.Text.{hex_text}
use Rattle.examples.specs.Session.{all, played, codes, answers_from}
use Rattle.examples.specs.Corners.{nothing, says}
use Rattle.examples.specs.Maps.{joined}

-- ---- the list

abbrev on : ℕ → ℕ → Pair
on p f = record { place = p; frame = f }

abbrev four : List Pair
four = on 4 0 ∷ on 7 1 ∷ on 5 2 ∷ on 6 3 ∷ []

abbrev leaves : ℕ → List Pair → List Pair
leaves p xs = without (index_in p xs) xs

middle : leaves 7 four ≡ on 4 0 ∷ on 6 3 ∷ on 5 2 ∷ []
unfolding index_in
middle = refl

newest's_neighbour : leaves 5 four ≡ on 4 0 ∷ on 7 1 ∷ on 6 3 ∷ []
unfolding index_in
newest's_neighbour = refl

oldest : leaves 4 four ≡ on 6 3 ∷ on 7 1 ∷ on 5 2 ∷ []
unfolding index_in
oldest = refl

newest : leaves 6 four ≡ on 4 0 ∷ on 7 1 ∷ on 5 2 ∷ []
unfolding index_in
newest = refl

only : leaves 3 (on 3 9 ∷ []) ≡ []
unfolding index_in
only = refl

-- ---- the calls

-- each refusal; a page in the middle, and again; then the release gives the list's last first, and the frame handed back comes after
in_the_middle : says
    (give_back 0 0 all
    ∷ start (sizes 1 8 6 256) all
    ∷ mark 0 1 all
    ∷ give_back 0 1 nothing
    ∷ give_back 1 0 all
    ∷ give_back 0 8 all
    ∷ give_back 0 0 all
    ∷ give_back 0 1 all
    ∷ touch 0 1 all
    ∷ touch 0 2 all
    ∷ touch 0 3 all
    ∷ touch 0 4 all
    ∷ give_back 0 2 all
    ∷ give_back 0 2 all
    ∷ free
    ∷ release 0 1 all
    ∷ touch 0 1 all
    ∷ touch 0 2 all
    ∷ touch 0 3 all
    ∷ touch 0 4 all
    ∷ touch 0 5 all
    ∷ [])
    (refused 1 ∷ done ∷ done ∷ refused 1 ∷ refused 2 ∷ refused 3 ∷ refused 4 ∷ refused 10 ∷ new 0 1 ∷ new 1 1 ∷ new 2 1 ∷ new 3 1
    ∷ handed ∷ refused 10 ∷ frames 3 ∷ pages 3 ∷ new 2 1 ∷ new 3 1 ∷ new 0 1 ∷ new 1 1 ∷ new 4 1 ∷ [])
unfolding played
in_the_middle = refl

-- the newest, the newest's neighbour, the oldest, the only one; the region is empty then and its start stays
one_by_one : says
    (start (sizes 1 8 5 256) all
    ∷ mark 0 0 all
    ∷ touch 0 0 all
    ∷ touch 0 1 all
    ∷ touch 0 2 all
    ∷ touch 0 3 all
    ∷ give_back 0 3 all
    ∷ give_back 0 1 all
    ∷ give_back 0 0 all
    ∷ give_back 0 2 all
    ∷ look 0 2 all
    ∷ release 0 0 all
    ∷ touch 0 7 all
    ∷ touch 0 6 all
    ∷ touch 0 5 all
    ∷ touch 0 4 all
    ∷ touch 0 3 all
    ∷ release 0 0 all
    ∷ drop 0 0 all
    ∷ give_back 0 7 all
    ∷ [])
    (done ∷ done ∷ new 0 1 ∷ new 1 1 ∷ new 2 1 ∷ new 3 1 ∷ handed ∷ handed ∷ handed ∷ handed ∷ absent 1 ∷ pages 0
    ∷ new 2 1 ∷ new 0 1 ∷ new 1 1 ∷ new 3 1 ∷ new 4 1 ∷ pages 5 ∷ done ∷ refused 4 ∷ [])
unfolding played
one_by_one = refl

-- "a byte now also ends with an accepted hand-back of its page", and with no other page's; a new page reads as zeros
bytes_end : says
    (start (sizes 1 8 3 256) all
    ∷ mark 0 0 all
    ∷ write 0 255 (5 ∷ 6 ∷ []) all
    ∷ give_back 0 7 all
    ∷ give_back 0 0 all
    ∷ read 0 256 1 all
    ∷ read 0 255 1 all
    ∷ touch 0 0 all
    ∷ read 0 255 2 all
    ∷ [])
    (done ∷ done ∷ done ∷ refused 10 ∷ handed ∷ bytes (6 ∷ []) ∷ refused 10 ∷ new 0 1 ∷ bytes (0 ∷ 6 ∷ []) ∷ [])
unfolding played
bytes_end = refl

-- ---- lines

-- the map has the pages of a region in its list's order
abbrev lines : List (String × List String)
lines =
    ("give 0 0", "no 1" ∷ [])
    ∷ ("start 1 8 4 256", "ok" ∷ [])
    ∷ ("mark 0 4", "ok" ∷ [])
    ∷ ("touch 0 4", "frame 0 new 1" ∷ [])
    ∷ ("touch 0 5", "frame 1 new 1" ∷ [])
    ∷ ("touch 0 6", "frame 2 new 1" ∷ [])
    ∷ ("touch 0 7", "frame 3 new 1" ∷ [])
    ∷ ("give 0 5", "done" ∷ [])
    ∷ ("give 0 5", "no 10" ∷ [])
    ∷ ("give 0 3", "no 4" ∷ [])
    ∷ ("give 0 8", "no 3" ∷ [])
    ∷ ("give 1 0", "no 2" ∷ [])
    ∷ ("give 0", "bad line" ∷ [])
    ∷ ("gives 0 4", "bad line" ∷ [])
    ∷ (
      "map",
      "map 01000000080000000400000000010000" ∷ "0a0000000900000003000000" ∷ "130000000100000001000000"
          ∷ "040000000400000003000000040000000000000007000000030000000600000002000000" ∷ "01000000" ∷ [],
    )
    ∷ ("release 0 4", "pages 3" ∷ [])
    ∷ ("touch 0 5", "frame 2 new 1" ∷ [])
    ∷ []

session_gives : answers_from (unstarted (replicate 32768 0)) (map (λ l. codes l.0) lines) ≡ map (λ l. joined l.1) lines
unfolding answers_from entry_words body_words rows bodies file_words bytes_of hex_text
session_gives = refl
