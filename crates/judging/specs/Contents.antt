-- What is judged of a map file's contents. Definitions only.
use Rattle.std.specs.Prelude.{◌≡◌, Option, Some, None, Bool, true, false, ◌&&◌, List, ℕ, zero, suc, ◌+◌, eqb, length}
use Rattle.words.specs.Words.{words_in}
use Rattle.machine.specs.Map.{first_body, sizes_in, row_start, row_length, row_count, part_in, blocks_in}
use Rattle.machine.specs.MapRules.{entries_of, contents_ok}
use Rattle.memory.specs.Memory.{sizes_of}
use Rattle.memory.specs.declared.Head.{Head}

-- ---- rows

-- "Bodies follow in order with no gaps": those of n rows from number i on, the first from word `at` on, the last to before word `end`
unfoldable pub tiles_from : List ℕ → ℕ → ℕ → ℕ → ℕ → Bool
tiles_from ws i zero at end = eqb at end
tiles_from ws i (suc n) at end = eqb (row_start ws i) at && tiles_from ws (suc i) n (at + row_length ws i) end

-- the bodies of so many spaces, and the pool, are all that follows the contents
abbrev pub rows_tile : List ℕ → ℕ → Bool
rows_tile ws spaces = tiles_from ws 0 (suc spaces) (first_body spaces) (length ws)

-- the third words of n spaces from number i on, each the number of its body's pairs, then the pool's, its length
unfoldable pub counts_from : List ℕ → ℕ → ℕ → Bool
counts_from ws i zero = eqb (row_count ws i) (length (part_in ws i))
counts_from ws i (suc n) = eqb (row_count ws i) (length (entries_of (blocks_in (part_in ws i)))) && counts_from ws (suc i) n

-- the third words of n rows from number i on, added up
unfoldable pub told_from : List ℕ → ℕ → ℕ → ℕ
told_from ws i zero = 0
told_from ws i (suc n) = row_count ws i + told_from ws (suc i) n

-- ---- sizes

-- a head with the sizes that the contents tell, and nothing in its pool; or contents that aren't ok
abbrev pub ContentsAre : List ℕ → Option Head → Type 0
ContentsAre file (Some h) = (contents_ok file ≡ true) × (sizes_of h ≡ sizes_in (words_in file)) × (h.first ≡ 0) × (h.many ≡ 0) × (h.fresh ≡ 0)
ContentsAre file None = contents_ok file ≡ false

-- contents that are ok tell so many spaces, pages and frames
pub record Sized (file : List ℕ) (spaces pages frames : ℕ) : Type 0 where
  pub ok : contents_ok file ≡ true
  pub spaces_is : spaces ≡ (sizes_in (words_in file)).spaces
  pub pages_is : pages ≡ (sizes_in (words_in file)).pages
  pub frames_is : frames ≡ (sizes_in (words_in file)).frames
