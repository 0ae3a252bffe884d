-- The contents: where each body is found by its row.
use Rattle.std.specs.Prelude.{◌≡◌, List, [], ◌∷◌, ◌++◌, length, get_or, take, drop}
use Rattle.std.proofs.Math.Path.{refl}
use Rattle.std.proofs.Common.{◌∙◌}
use Prim.Native.Nat.{ℕ, zero, suc, ◌+◌, ◌*◌, ◌≤◌, ◌<◌}
use native.Mathlib.Omega.{arith}
use Rattle.std.proofs.Math.ListN.{length-append, get_or-append}
use Rattle.std.proofs.Math.Seq.{take-append_seam, drop-append-add}
use Rattle.sequence.specs.Lists.{tabulate, length_tabulate, get_or_tabulate}
use Rattle.machine.specs.State.{Sizes}
use Rattle.machine.specs.Map.{Part, rows, bodies, first_body, file_words, sizes_in, row_count, part_in}

-- the part that stands past a list's end
abbrev pub no_part : Part
no_part = record { words = []; count = 0 }

three : (i : ℕ) → 3 * suc i ≡ suc (suc (suc (3 * i)))
three i = omega arith

pub length_rows : (n : ℕ) (xs : List Part) → length (rows n xs) ≡ 3 * length xs
unfolding rows
length_rows n [] = refl
length_rows n (x ∷ xs) = rw (three (length xs), length_rows (n + length x.words) xs)

-- how far behind the first body's start the body of part i starts
unfoldable pub before : ℕ → List Part → ℕ
before i [] = 0
before zero (x ∷ xs) = 0
before (suc i) (x ∷ xs) = length x.words + before i xs

pub row_start_lem : (n i : ℕ) (xs : List Part) (ws : List ℕ) → i < length xs → get_or (rows n xs ++ ws) (3 * i) 0 ≡ n + before i xs
unfolding rows before
row_start_lem n i [] ws h = absurd (omega arith)
row_start_lem n zero (x ∷ xs) ws h = omega arith
row_start_lem n (suc i) (x ∷ xs) ws h = rw (three i) (row_start_lem (n + length x.words) i xs ws (omega arith) ∙ omega arith)

pub row_length_lem : (n i : ℕ) (xs : List Part) (ws : List ℕ) → i < length xs → get_or (rows n xs ++ ws) (3 * i + 1) 0 ≡ length (get_or xs i no_part).words
unfolding rows
row_length_lem n i [] ws h = absurd (omega arith)
row_length_lem n zero (x ∷ xs) ws h = refl
row_length_lem n (suc i) (x ∷ xs) ws h =
    let e : 3 * suc i + 1 ≡ suc (suc (suc (3 * i + 1))) = omega arith in
    rw e (row_length_lem (n + length x.words) i xs ws (omega arith))

pub row_count_lem : (n i : ℕ) (xs : List Part) (ws : List ℕ) → i < length xs → get_or (rows n xs ++ ws) (3 * i + 2) 0 ≡ (get_or xs i no_part).count
unfolding rows
row_count_lem n i [] ws h = absurd (omega arith)
row_count_lem n zero (x ∷ xs) ws h = refl
row_count_lem n (suc i) (x ∷ xs) ws h =
    let e : 3 * suc i + 2 ≡ suc (suc (suc (3 * i + 2))) = omega arith in
    rw e (row_count_lem (n + length x.words) i xs ws (omega arith))

body_at : (i : ℕ) (xs : List Part) → i < length xs → take (length (get_or xs i no_part).words) (drop (before i xs) (bodies xs)) ≡ (get_or xs i no_part).words
unfolding bodies before
body_at i [] h = absurd (omega arith)
body_at zero (x ∷ xs) h = take-append_seam x.words (bodies xs)
body_at (suc i) (x ∷ xs) h = rw (drop-append-add x.words (bodies xs) (before i xs)) (body_at i xs (omega arith))

-- ---- the parts of a file: those of n spaces, then the pool's

module _ (f : ℕ → Part) (n : ℕ) (pool : Part) where
  pub parts_many : length (tabulate f n ++ (pool ∷ [])) ≡ suc n
  parts_many = omega (arith, length-append (tabulate f n) (pool ∷ []), length_tabulate f n)

  pub part_of : (i : ℕ) → i < n → get_or (tabulate f n ++ (pool ∷ [])) i no_part ≡ f i
  part_of i h = get_or-append (tabulate f n) (pool ∷ []) no_part i (omega (arith, length_tabulate f n)) ∙ get_or_tabulate f n i no_part h

-- ---- the file

module _ (z : Sizes) (xs : List Part) (all : length xs ≡ suc z.spaces) where
  pub sizes_back : sizes_in (file_words z xs) ≡ z
  unfolding file_words
  sizes_back = refl

  abbrev first : ℕ
  first = first_body z.spaces

  word_after : (k : ℕ) → get_or (file_words z xs) (4 + k) 0 ≡ get_or (rows first xs ++ bodies xs) k 0
  unfolding file_words
  word_after k = let e : 4 + k ≡ suc (suc (suc (suc k))) = omega arith in rw e

  bodies_after : (n : ℕ) → drop (first + n) (file_words z xs) ≡ drop n (bodies xs)
  unfolding file_words
  bodies_after n =
      let e : first + n ≡ suc (suc (suc (suc (length (rows first xs) + n)))) = omega (arith, length_rows first xs, all) in
      rw e (drop-append-add (rows first xs) (bodies xs) n)

  pub part_back : (i : ℕ) → i < length xs → part_in (file_words z xs) i ≡ (get_or xs i no_part).words
  part_back i h =
      rw (
        word_after (3 * i + 1),
        word_after (3 * i),
        row_length_lem first i xs (bodies xs) h,
        row_start_lem first i xs (bodies xs) h,
        bodies_after (before i xs),
      )
      (body_at i xs h)

  pub count_back : (i : ℕ) → i < length xs → row_count (file_words z xs) i ≡ (get_or xs i no_part).count
  count_back i h = word_after (3 * i + 2) ∙ row_count_lem first i xs (bodies xs) h

  -- the contents stand before the bodies
  pub contents_fit : first_body z.spaces ≤ length (file_words z xs)
  unfolding file_words
  contents_fit = omega (arith, length-append (rows first xs) (bodies xs), length_rows first xs, all)
