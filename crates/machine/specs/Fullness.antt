-- How full one space is, from a map file's contents alone: document 02, W-203. Definitions only.
use Rattle.std.specs.Prelude.{Bool, true, false, ◌&&◌, List, ℕ, ltb}
use Rattle.words.specs.Words.{words_in}
use Rattle.machine.specs.State.{between}
use Rattle.machine.specs.Machine.{Answer, pages, refused}
use Rattle.machine.specs.Map.{sizes_in, row_count}
use Rattle.machine.specs.MapRules.{contents_whole}

-- "1 for contents cut short or S outside its limits, 2 for the space"
abbrev pub fullness_if : Bool → Bool → ℕ → Answer
fullness_if false below n = refused 1
fullness_if true false n = refused 2
fullness_if true true n = pages n

-- "the space's third word as it stands": S, that word and how long the contents are is all that is looked at
abbrev pub fullness_of : List ℕ → ℕ → Answer
fullness_of bytes i =
    let ws = words_in bytes in
    let s = (sizes_in ws).spaces in
    fullness_if (between 1 64 s && contents_whole bytes) (ltb i s) (row_count ws i)
