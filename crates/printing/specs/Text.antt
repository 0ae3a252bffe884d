-- The text of an answer: document 01, "One session whole"; of a map, W-202. Definitions only.
use Rattle.std.specs.Prelude.{List, ◌++◌, ℕ, length}
use Rattle.machine.specs.Machine.{Answer, done, old, new, resident, absent, pages, frames, at, bytes, regions, map_file, handed, refused, refused_after}
use Rattle.requests.specs.Requests.{region_numbers}
use Rattle.digits.specs.Text.{decimal, hex_text, numbers_text, blank}
use Rattle.texts.specs.Text.{ok_word, frame_word, old_word, new_word, resident_word, no_words, absent_word, pages_word, free_word, at_word, bytes_word, bytes_text}
use Rattle.texts.specs.Text.{regions_word, map_word, done_word, no_word}

abbrev pub text : Answer → List ℕ
text done = ok_word
text (old n) = frame_word ++ (decimal n ++ old_word)
text (new n w) = frame_word ++ (decimal n ++ (new_word ++ decimal w))
text (resident n) = resident_word ++ (decimal n ++ no_words)
text (absent w) = absent_word ++ decimal w
text (pages n) = pages_word ++ decimal n
text (frames n) = free_word ++ decimal n
text (at p) = at_word ++ decimal p
text (bytes vs) = bytes_word ++ bytes_text vs
text (regions rs) = regions_word ++ (decimal (length rs) ++ numbers_text (region_numbers rs))
text (map_file vs) = map_word ++ hex_text vs
-- W-205: "The answer is only" this
text handed = done_word
text (refused k) = no_word ++ decimal k
-- "for touch and look then the index words"
text (refused_after k w) = no_word ++ (decimal k ++ (blank ++ decimal w))
