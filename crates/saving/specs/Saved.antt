-- What the tables of any memory tell, as the map file of document 02, W-202, has it: total, a word past a table's end is 0.
use Rattle.std.specs.Prelude.{◌≡◌, Bool, true, false, cond, ◌&&◌, List, [], ◌∷◌, ◌++◌, ℕ, zero, suc, ◌+◌, ◌-◌, ◌*◌, ◌≤◌, ◌<◌, eqb, leb, length, drop, Result, Ok, IsErrAnd}
use Rattle.sequence.specs.Lists.{tabulate}
use Rattle.sequence.specs.Sums.{sum, sum_from}
use Rattle.words.specs.Words.{bytes_of}
use Rattle.layer.specs.Words.{bit_at}
use Rattle.machine.specs.Machine.{every_buffer, places, sizes_ok, enough}
use Rattle.machine.specs.State.{until_start}
use Rattle.machine.specs.Map.{Entry, Block, body_words, Part, file_words}
use Rattle.refusals.specs.declared.Refusal.{Refusal}
use Rattle.refusals.specs.Refusals.{number}
use Rattle.memory.specs.Memory.{Memory, at, sizes_of}
use Rattle.memory.specs.declared.Head.{Head}
use Rattle.promise.specs.Did.{frames_left}
use Rattle.promise.specs.Holds.{unused}
use Rattle.laws.specs.Models.{lent_of, release_lengths}

-- ---- a space's body

-- the page at place q of the space whose first place is lo
abbrev pub entry_at : List ℕ → ℕ → ℕ → Entry
entry_at table lo q = record { page = q - lo; frame = at table q }

-- the n pages whose places stand in the stack from a on
abbrev pub entries_from : List ℕ → List ℕ → ℕ → ℕ → ℕ → List Entry
entries_from table stack lo a n = tabulate (λ j. entry_at table lo (at stack (a + j))) n

-- the regions of the n pages from page b on, as `records` of the plain machine
unfoldable pub blocks_from : List ℕ → List ℕ → List ℕ → List ℕ → ℕ → ℕ → ℕ → List Block
blocks_from index count table stack lo b zero = []
blocks_from index count table stack lo b (suc n) =
    let rest = blocks_from index count table stack lo (suc b) n in
    let p = lo + b in
    cond (bit_at index p)
    (record { start = b; length = suc (until_start (bit_at index) (suc p) n); entries = entries_from table stack lo p (at count p) } ∷ rest)
    rest

abbrev pub entries_by : Memory → ℕ → ℕ → ℕ → List Entry
entries_by k lo a n = entries_from k.table k.stack lo a n

abbrev pub blocks_by : Memory → ℕ → ℕ → ℕ → List Block
blocks_by k lo b n = blocks_from k.index k.count k.table k.stack lo b n

abbrev pub part_of : List Block → Part
part_of bs = record { words = body_words bs; count = sum (λ b. length b.entries) bs }

-- the part of space i, of so many pages a space
abbrev pub space_from : List ℕ → List ℕ → List ℕ → List ℕ → ℕ → ℕ → Part
space_from index count table stack pages i = part_of (blocks_from index count table stack (i * pages) 0 pages)

abbrev pub spaces_by : Memory → List Part
spaces_by k = tabulate (space_from k.index k.count k.table k.stack k.head.pages) k.head.spaces

-- ---- the pool

-- n frames, from a on along the links
unfoldable pub chained : List ℕ → ℕ → ℕ → List ℕ
chained link a zero = []
chained link a (suc n) = a ∷ chained link (at link a) n

abbrev pub pool_from : Head → List ℕ → List ℕ
pool_from h link = chained link h.first h.many ++ unused h.fresh h.frames

abbrev pub pool_by : Memory → List ℕ
pool_by k = pool_from k.head k.link

-- ---- the file

abbrev pub parts_by : Memory → List Part
parts_by k = spaces_by k ++ (record { words = pool_by k; count = length (pool_by k) } ∷ [])

abbrev pub saved_words : Memory → List ℕ
saved_words k = file_words (sizes_of k.head) (parts_by k)

-- ---- whether there is one

-- the starts among the n places from p on, and the resident counts there
abbrev pub starts_in : List ℕ → ℕ → ℕ → ℕ
starts_in index p n = sum_from (λ q. cond (bit_at index q) 1 0) p n

abbrev pub counts_in : List ℕ → List ℕ → ℕ → ℕ → ℕ
counts_in index count p n = sum_from (λ q. cond (bit_at index q) (at count q) 0) p n

-- the resident pages of all regions and the frames of the pool are all frames
unfoldable pub adds_up : Memory → Bool
adds_up k =
    let resident = counts_in k.index k.count 0 (places (sizes_of k.head)) in
    leb k.head.fresh k.head.frames && eqb (resident + frames_left k.head) k.head.frames

-- sizes within their limits, and buffers long enough for them
abbrev pub saveable : Memory → Bool
saveable k = sizes_ok (sizes_of k.head) && enough every_buffer (sizes_of k.head) (lent_of (release_lengths k))

-- ---- what a writing promises on any memory

-- a refusal, and nothing stored
pub record NotSaved (n : ℕ) (file : List ℕ) (r : Result ℕ Refusal) (file' : List ℕ) : Type 0 where
  pub answer : IsErrAnd r (λ e. number e ≡ n)
  pub kept : file' ≡ file

-- these words and their number of bytes; the rest of the buffer stays
pub record Written (ws file : List ℕ) (r : Result ℕ Refusal) (file' : List ℕ) : Type 0 where
  pub answer : r ≡ Ok (4 * length ws)
  pub stored : file' ≡ bytes_of ws ++ drop (4 * length ws) file

-- 1, then 9, then 13, else the file
pub record Saves (k : Memory) (file : List ℕ) (r : Result ℕ Refusal) (file' : List ℕ) : Type 0 where
  pub unfit : saveable k ≡ false → NotSaved 1 file r file'
  pub damaged : saveable k ≡ true → adds_up k ≡ false → NotSaved 9 file r file'
  pub short : saveable k ≡ true → adds_up k ≡ true → length file < 4 * length (saved_words k) → NotSaved 13 file r file'
  pub saved : saveable k ≡ true → adds_up k ≡ true → 4 * length (saved_words k) ≤ length file → Written (saved_words k) file r file'
