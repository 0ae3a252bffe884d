-- How many words are saved, by the starts and the resident counts; the contents' rows, which ask for no more than that.
use Rattle.std.specs.Prelude.{◌≡◌, Bool}
use Rattle.std.proofs.Math.Path.{refl, ap}
use Rattle.std.proofs.Common.{sym, ◌∙◌, add-zero, zero-add, zero-mul}
use Rattle.std.proofs.Math.Bool.{true, false, cond}
use mathlib.Core.List.{List, [], ◌∷◌, ◌++◌, append_assoc, append-nil}
use Prim.Native.Nat.{ℕ, zero, suc, ◌+◌, ◌-◌, ◌*◌}
use Rattle.std.proofs.Math.Nat.{add-suc}
use native.Mathlib.Omega.{arith}
use Rattle.std.proofs.Math.ListN.{length, length-append}
use Rattle.sequence.specs.Lists.{suc_across, tabulate, length_tabulate}
use Rattle.sequence.specs.Sums.{sum, sum_from, sum_blocks}
use Rattle.layer.specs.Words.{bit_at}
use Rattle.machine.specs.Map.{Block, Part, rows, bodies, first_body, file_words}
use Rattle.machine.proofs.Laws.Map.Contents.{length_rows}
use Rattle.machine.proofs.Laws.Map.Length.{length_body}
use Rattle.memory.specs.Memory.{Memory, at, sizes_of}
use Rattle.memory.specs.declared.Head.{Head}
use Rattle.promise.specs.Did.{frames_left}
use Rattle.promise.specs.Holds.{unused}
use Rattle.saving.specs.Saved.{entries_from, blocks_from, space_from, spaces_by, chained, pool_by, parts_by, saved_words, starts_in, counts_in}

-- ---- words

pub length_chain : (link : List ℕ) (a n : ℕ) → length (chained link a n) ≡ n
unfolding chained
length_chain link a zero = refl
length_chain link a (suc n) = ap suc (length_chain link (at link a) n)

pub how_many : (table stack : List ℕ) (lo a n : ℕ) → length (entries_from table stack lo a n) ≡ n
how_many table stack lo a n = length_tabulate _ n

-- ---- a space

module _ (index count table stack : List ℕ) (lo : ℕ) where
  starts_are : (b n : ℕ) → length (blocks_from index count table stack lo b n) ≡ starts_in index (lo + b) n
  unfolding blocks_from
  starts_are b zero = refl
  starts_are b (suc n) = go (bit_at index (lo + b)) _ (rw add-suc at (starts_are (suc b) n))
    where
      go : (v : Bool) (x : Block) → length (blocks_from index count table stack lo (suc b) n) ≡ starts_in index (suc (lo + b)) n
          → (let rest = blocks_from index count table stack lo (suc b) n in length (cond v (x ∷ rest) rest) ≡ cond v 1 0 + starts_in index (suc (lo + b)) n)
      go true x rest = omega (arith, rest)
      go false x rest = omega (arith, rest)

  counts_are : (b n : ℕ) → sum (λ x. length x.entries) (blocks_from index count table stack lo b n) ≡ counts_in index count (lo + b) n
  unfolding blocks_from
  counts_are b zero = refl
  counts_are b (suc n) =
      go (bit_at index (lo + b)) _ (how_many table stack lo (lo + b) (at count (lo + b))) (rw add-suc at (counts_are (suc b) n))
    where
      go : (v : Bool) (x : Block) → length x.entries ≡ at count (lo + b)
          → sum (λ x. length x.entries) (blocks_from index count table stack lo (suc b) n) ≡ counts_in index count (suc (lo + b)) n
          → (let rest = blocks_from index count table stack lo (suc b) n in
          sum (λ x. length x.entries) (cond v (x ∷ rest) rest) ≡ cond v (at count (lo + b)) 0 + counts_in index count (suc (lo + b)) n)
      go true x many rest = omega (arith, rest)
      go false x many rest = omega (arith, rest)

-- the words of a body of n places from lo on
abbrev pub body_size : List ℕ → List ℕ → ℕ → ℕ → ℕ
body_size index count lo n = 3 * starts_in index lo n + 2 * counts_in index count lo n

-- those of space i, and its resident pages
abbrev pub space_size : List ℕ → List ℕ → ℕ → ℕ → ℕ
space_size index count pages i = body_size index count (i * pages) pages

abbrev pub space_count : List ℕ → List ℕ → ℕ → ℕ → ℕ
space_count index count pages i = counts_in index count (i * pages) pages

module _ (index count table stack : List ℕ) (pages : ℕ) where
  count_is : (i : ℕ) → (space_from index count table stack pages i).count ≡ space_count index count pages i
  count_is i = counts_are index count table stack (i * pages) 0 pages ∙ ap (λ (p : ℕ). counts_in index count p pages) (add-zero (i * pages))

  size_is : (i : ℕ) → length (space_from index count table stack pages i).words ≡ space_size index count pages i
  size_is i =
      omega (
        arith,
        length_body (blocks_from index count table stack (i * pages) 0 pages),
        starts_are index count table stack (i * pages) 0 pages ∙ ap (λ (p : ℕ). starts_in index p pages) (add-zero (i * pages)),
        count_is i,
      )

-- ---- all spaces

-- the rows of n spaces from space i on, whose body starts at word `body`
unfoldable pub space_rows : List ℕ → List ℕ → ℕ → ℕ → ℕ → ℕ → List ℕ
space_rows index count pages body i zero = []
space_rows index count pages body i (suc n) =
    let size = space_size index count pages i in
    body ∷ size ∷ space_count index count pages i ∷ space_rows index count pages (body + size) (suc i) n

-- parts of these sizes and counts
pub record Sized (index count : List ℕ) (pages i : ℕ) (f : ℕ → Part) : Type 0 where
  pub size : (j : ℕ) → length (f j).words ≡ space_size index count pages (i + j)
  pub many : (j : ℕ) → (f j).count ≡ space_count index count pages (i + j)

module _ (index count : List ℕ) (pages : ℕ) where
  sized_next : (i : ℕ) (f : ℕ → Part) → Sized index count pages i f → Sized index count pages (suc i) (λ j. f (suc j))
  sized_next i f s =
      record {
        size = λ j. s.size (suc j) ∙ ap (space_size index count pages) (sym (suc_across i j));
        many = λ j. s.many (suc j) ∙ ap (space_count index count pages) (sym (suc_across i j));
      }

  rows_are : (body i n : ℕ) (f : ℕ → Part) → Sized index count pages i f → rows body (tabulate f n) ≡ space_rows index count pages body i n
  unfolding rows tabulate space_rows
  rows_are body i zero f s = refl
  rows_are body i (suc n) f s =
      let size : length (f 0).words ≡ space_size index count pages i = s.size 0 ∙ ap (space_size index count pages) (add-zero i) in
      let many : (f 0).count ≡ space_count index count pages i = s.many 0 ∙ ap (space_count index count pages) (add-zero i) in
      rw (size, many, rows_are (body + space_size index count pages i) (suc i) n (λ j. f (suc j)) (sized_next i f s))

  bodies_are : (i n : ℕ) (f : ℕ → Part) → Sized index count pages i f → length (bodies (tabulate f n)) ≡ sum_from (space_size index count pages) i n
  unfolding bodies tabulate
  bodies_are i zero f s = refl
  bodies_are i (suc n) f s =
      omega (
        arith,
        length-append (f 0).words (bodies (tabulate (λ j. f (suc j)) n)),
        s.size 0 ∙ ap (space_size index count pages) (add-zero i),
        bodies_are (suc i) n (λ j. f (suc j)) (sized_next i f s),
      )

  sizes_sum : (i n : ℕ) → sum_from (space_size index count pages) i n
      ≡ 3 * sum_from (λ b. starts_in index (b * pages) pages) i n + 2 * sum_from (λ b. counts_in index count (b * pages) pages) i n
  sizes_sum i zero = refl
  sizes_sum i (suc n) = omega (arith, sizes_sum (suc i) n)

  -- the bodies of all spaces, by all places
  pub sizes_add : (n : ℕ) → sum_from (space_size index count pages) 0 n ≡ 3 * starts_in index 0 (n * pages) + 2 * counts_in index count 0 (n * pages)
  sizes_add n =
      omega (
        arith,
        sizes_sum 0 n,
        sum_blocks (λ q. cond (bit_at index q) 1 0) pages 0 n ∙ ap (λ (p : ℕ). starts_in index p (n * pages)) (zero-mul pages),
        sum_blocks (λ q. cond (bit_at index q) (at count q) 0) pages 0 n ∙ ap (λ (p : ℕ). counts_in index count p (n * pages)) (zero-mul pages),
      )

-- ---- the file

rows_append : (n : ℕ) (xs ys : List Part) → rows n (xs ++ ys) ≡ rows n xs ++ rows (n + length (bodies xs)) ys
unfolding rows bodies
rows_append n [] ys = rw add-zero
rows_append n (x ∷ xs) ys =
    let long = length-append x.words (bodies xs) in
    let on : n + length x.words + length (bodies xs) ≡ n + length (x.words ++ bodies xs) = omega arith in
    rw (rows_append (n + length x.words) xs ys, on)

bodies_append : (xs ys : List Part) → bodies (xs ++ ys) ≡ bodies xs ++ bodies ys
unfolding bodies
bodies_append [] ys = refl
bodies_append (x ∷ xs) ys = rw (bodies_append xs ys) (sym (append_assoc x.words (bodies xs) (bodies ys)))

-- the words of the bodies of all spaces
abbrev pub space_words : Head → List ℕ → List ℕ → ℕ
space_words h index count = sum_from (space_size index count h.pages) 0 h.spaces

-- the contents: sizes, the spaces' rows, the pool's
abbrev pub size_words : Head → List ℕ
size_words h = h.spaces ∷ h.pages ∷ h.frames ∷ (sizes_of h).page ∷ []

abbrev pub row_words : Head → List ℕ → List ℕ → List ℕ
row_words h index count = space_rows index count h.pages (first_body h.spaces) 0 h.spaces

abbrev pub pool_row : Head → List ℕ → List ℕ → List ℕ
pool_row h index count = (first_body h.spaces + space_words h index count) ∷ frames_left h ∷ frames_left h ∷ []

abbrev pub content_words : Head → List ℕ → List ℕ → List ℕ
content_words h index count = size_words h ++ (row_words h index count ++ pool_row h index count)

module _ (k : Memory) where
  sized : Sized k.index k.count k.head.pages 0 (space_from k.index k.count k.table k.stack k.head.pages)
  sized =
      let n = k.head.pages in
      record {
        size = λ j. size_is k.index k.count k.table k.stack n j ∙ ap (space_size k.index k.count n) (sym (zero-add j));
        many = λ j. count_is k.index k.count k.table k.stack n j ∙ ap (space_count k.index k.count n) (sym (zero-add j));
      }

  pub length_pool : length (pool_by k) ≡ frames_left k.head
  length_pool =
      omega (
        arith,
        length-append (chained k.link k.head.first k.head.many) (unused k.head.fresh k.head.frames),
        length_chain k.link k.head.first k.head.many,
        length_tabulate (λ (j : ℕ). k.head.fresh + j) (k.head.frames - k.head.fresh),
      )

  length_spaces : length (bodies (spaces_by k)) ≡ space_words k.head k.index k.count
  length_spaces = bodies_are k.index k.count k.head.pages 0 k.head.spaces _ sized

  -- the file in the order in which it is stored: contents, bodies, pool
  pub saved_order : saved_words k ≡ content_words k.head k.index k.count ++ (bodies (spaces_by k) ++ pool_by k)
  unfolding file_words rows bodies
  saved_order =
      rw (
        rows_append (first_body k.head.spaces) (spaces_by k) (record { words = pool_by k; count = length (pool_by k) } ∷ []),
        bodies_append (spaces_by k) (record { words = pool_by k; count = length (pool_by k) } ∷ []),
        rows_are k.index k.count k.head.pages (first_body k.head.spaces) 0 k.head.spaces _ sized,
        length_spaces,
        length_pool,
        append-nil (pool_by k),
        append_assoc (row_words k.head k.index k.count) (pool_row k.head k.index k.count) (bodies (spaces_by k) ++ pool_by k),
      )

  pub saved_size : length (saved_words k) ≡ first_body k.head.spaces + space_words k.head k.index k.count + frames_left k.head
  unfolding file_words bodies
  saved_size =
      omega (
        arith,
        length-append (rows (first_body k.head.spaces) (parts_by k)) (bodies (parts_by k)),
        length_rows (first_body k.head.spaces) (parts_by k),
        length-append (spaces_by k) (record { words = pool_by k; count = length (pool_by k) } ∷ []),
        length_tabulate (space_from k.index k.count k.table k.stack k.head.pages) k.head.spaces,
        ap length (bodies_append (spaces_by k) (record { words = pool_by k; count = length (pool_by k) } ∷ [])),
        length-append (bodies (spaces_by k)) (pool_by k ++ []),
        length-append (pool_by k) [],
        length_spaces,
        length_pool,
      )
