-- A file's words are those that its bodies ask for exactly if the rows tile it and their third words are right.
use Rattle.std.specs.Prelude.{◌≡◌, refl, Bool, true, false, ◌&&◌, eqb, take}
use Rattle.std.proofs.Math.Path.{sym, ap}
use Rattle.std.proofs.Common.{ap₂, ◌∙◌, length-drop, take-append-drop, drop_of_length-le, drop-cons, drop-drop, length-take-le, get_or-drop}
use mathlib.Core.List.{List, [], ◌∷◌, ◌++◌}
use Prim.Native.Nat.{ℕ, zero, suc, ◌+◌, ◌*◌, ◌≤◌, ◌<◌}
use native.Mathlib.Omega.{arith}
use borrow.Author.Tests.{eq-eqb, eqb-true}
use Rattle.std.proofs.Math.ListN.{length, get_or, drop, length-append}
use Rattle.sequence.specs.Lists.{tabulate}
use Rattle.machine.specs.Map.{Part, first_body, rows, bodies, file_words, blocks_in, sizes_in, row_start, row_length, row_count, part_in}
use Rattle.machine.specs.MapRules.{entries_of, space_in, parts_in, same}
use Rattle.machine.proofs.Laws.Sizes.{both}
use Rattle.machine.proofs.Laws.Map.Contents.{length_rows}
use Rattle.machine.proofs.Laws.Map.Rules.{is_same, same_is}
use Rattle.judging.specs.Contents.{tiles_from, rows_tile, counts_from}
use Rattle.judging.specs.Tiles.{Tile, tile, tiles_end}

-- two tests that hold together
either : (a b : Bool) → (a ≡ true → b ≡ true) → (b ≡ true → a ≡ true) → a ≡ b
either true b f g = sym (f refl)
either false true f g = g refl
either false false f g = refl

-- ---- the parts, one row after another

-- the pool's, after i spaces
abbrev pool_after : List ℕ → ℕ → Part
pool_after ws i = record { words = part_in ws i; count = length (part_in ws i) }

-- those of n spaces from number i on, then the pool's
unfoldable parts_from : List ℕ → ℕ → ℕ → List Part
parts_from ws i zero = pool_after ws i ∷ []
parts_from ws i (suc n) = space_in ws i ∷ parts_from ws (suc i) n

parts_from_lem : (ws : List ℕ) (f : ℕ → Part) (i n : ℕ) → ((k : ℕ) → f k ≡ space_in ws (i + k)) → tabulate f n ++ (pool_after ws (i + n) ∷ []) ≡ parts_from ws i n
unfolding tabulate parts_from
parts_from_lem ws f i zero h = let e : i + 0 ≡ i = omega arith in ap (λ (j : ℕ). pool_after ws j ∷ []) e
parts_from_lem ws f i (suc n) h =
    let e : i + 0 ≡ i = omega arith in
    let next : i + suc n ≡ suc i + n = omega arith in
    ap₂ (λ (x : Part) (j : ℕ). x ∷ (tabulate (λ k. f (suc k)) n ++ (pool_after ws j ∷ []))) (h 0 ∙ ap (space_in ws) e) next
    ∙ ap (λ (xs : List Part). space_in ws i ∷ xs)
    (parts_from_lem ws (λ k. f (suc k)) (suc i) n (λ k. let o : i + suc k ≡ suc i + k = omega arith in h (suc k) ∙ ap (space_in ws) o))

parts_are : (ws : List ℕ) → parts_in ws ≡ parts_from ws 0 (sizes_in ws).spaces
parts_are ws =
    let s = (sizes_in ws).spaces in
    let none : s ≡ 0 + s = omega arith in
    ap (λ (j : ℕ). tabulate (space_in ws) s ++ (pool_after ws j ∷ [])) none
    ∙ parts_from_lem ws (space_in ws) 0 s (λ k. let e : k ≡ 0 + k = omega arith in ap (space_in ws) e)

-- ---- the words of a row

row_words_lem : (ws : List ℕ) (i : ℕ) → 4 + 3 * suc i ≤ length ws
    → drop (4 + 3 * i) ws ≡ row_start ws i ∷ row_length ws i ∷ row_count ws i ∷ drop (4 + 3 * suc i) ws
row_words_lem ws i h =
    let one : suc (4 + 3 * i) ≡ 4 + (3 * i + 1) = omega arith in
    let two : suc (4 + (3 * i + 1)) ≡ 4 + (3 * i + 2) = omega arith in
    let three : suc (4 + (3 * i + 2)) ≡ 4 + 3 * suc i = omega arith in
    drop-cons ws (4 + 3 * i) 0 (omega arith)
    ∙ ap (λ (xs : List ℕ). row_start ws i ∷ xs)
    (ap (λ (k : ℕ). drop k ws) one
    ∙ drop-cons ws (4 + (3 * i + 1)) 0 (omega arith)
    ∙ ap (λ (xs : List ℕ). row_length ws i ∷ xs)
    (ap (λ (k : ℕ). drop k ws) two
    ∙ drop-cons ws (4 + (3 * i + 2)) 0 (omega arith)
    ∙ ap (λ (k : ℕ). row_count ws i ∷ drop k ws) three))

-- ---- rows that are right

part_long : (ws : List ℕ) (i n at : ℕ) → Tile ws i n at (length ws) → length (part_in ws i) ≡ row_length ws i
part_long ws i n at t =
    length-take-le (row_length ws i) (drop (row_start ws i) ws)
    (omega (arith, t.start_is, t.inside, length-drop (row_start ws i) ws))

rows_right : (ws : List ℕ) (i n at : ℕ) → 4 + 3 * suc (i + n) ≤ length ws → tiles_from ws i (suc n) at (length ws) ≡ true → counts_from ws i n ≡ true
    → rows at (parts_from ws i n) ++ drop (4 + 3 * suc (i + n)) ws ≡ drop (4 + 3 * i) ws
unfolding rows parts_from counts_from
rows_right ws i zero at h t c =
    let f = tile ws i 0 at (length ws) t in
    let end : i + 0 ≡ i = omega arith in
    ap (λ (k : ℕ). at ∷ length (part_in ws i) ∷ length (part_in ws i) ∷ drop (4 + 3 * suc k) ws) end
    ∙ ap₂ (λ (a k : ℕ). a ∷ k ∷ length (part_in ws i) ∷ drop (4 + 3 * suc i) ws) (sym f.start_is) (part_long ws i 0 at f)
    ∙ ap (λ (k : ℕ). row_start ws i ∷ row_length ws i ∷ k ∷ drop (4 + 3 * suc i) ws)
    (sym (eqb-true (row_count ws i) (length (part_in ws i)) c))
    ∙ sym (row_words_lem ws i (omega arith))
rows_right ws i (suc n) at h t c =
    let f = tile ws i (suc n) at (length ws) t in
    let count = length (entries_of (blocks_in (part_in ws i))) in
    let (here, later) = both (eqb (row_count ws i) count) _ c in
    let next : i + suc n ≡ suc i + n = omega arith in
    let long = part_long ws i (suc n) at f in
    ap (λ (k : ℕ). at ∷ length (part_in ws i) ∷ count ∷ (rows (at + length (part_in ws i)) (parts_from ws (suc i) n) ++ drop (4 + 3 * suc k) ws)) next
    ∙ ap₂ (λ (a k : ℕ). a ∷ k ∷ count ∷ (rows (at + k) (parts_from ws (suc i) n) ++ drop (4 + 3 * suc (suc i + n)) ws)) (sym f.start_is) long
    ∙ ap₂ (λ (k : ℕ) (xs : List ℕ). row_start ws i ∷ row_length ws i ∷ k ∷ xs)
    (sym (eqb-true (row_count ws i) count here))
    (rows_right ws (suc i) n (at + row_length ws i) (omega arith) f.rest later)
    ∙ sym (row_words_lem ws i (omega arith))

bodies_right : (ws : List ℕ) (i n at : ℕ) → tiles_from ws i (suc n) at (length ws) ≡ true → bodies (parts_from ws i n) ≡ drop at ws
unfolding bodies parts_from
bodies_right ws i zero at t =
    let f = tile ws i 0 at (length ws) t in
    let k = row_length ws i in
    let end = tiles_end ws (suc i) (at + k) (length ws) f.rest in
    ap₂ (λ (a : ℕ) (xs : List ℕ). take k (drop a ws) ++ xs) f.start_is (sym (drop_of_length-le ws {i = at + k} (omega (arith, end))))
    ∙ ap (λ (xs : List ℕ). take k (drop at ws) ++ xs) (sym (drop-drop k at ws))
    ∙ take-append-drop k (drop at ws)
bodies_right ws i (suc n) at t =
    let f = tile ws i (suc n) at (length ws) t in
    let k = row_length ws i in
    ap₂ (λ (a : ℕ) (xs : List ℕ). take k (drop a ws) ++ xs) f.start_is (bodies_right ws (suc i) n (at + k) f.rest)
    ∙ ap (λ (xs : List ℕ). take k (drop at ws) ++ xs) (sym (drop-drop k at ws))
    ∙ take-append-drop k (drop at ws)

-- ---- rows that the words have

module _ (ws : List ℕ) where
  head_of : (i a b c : ℕ) (xs : List ℕ) → drop (4 + 3 * i) ws ≡ a ∷ b ∷ c ∷ xs
      → (row_start ws i ≡ a) × (row_length ws i ≡ b) × (row_count ws i ≡ c) × (drop (4 + 3 * suc i) ws ≡ xs)
  head_of i a b c xs e =
      let zeroth : 4 + 3 * i + 0 ≡ 4 + 3 * i = omega arith in
      let one : 4 + 3 * i + 1 ≡ 4 + (3 * i + 1) = omega arith in
      let two : 4 + 3 * i + 2 ≡ 4 + (3 * i + 2) = omega arith in
      let three : 4 + 3 * i + 3 ≡ 4 + 3 * suc i = omega arith in (
        ap (λ (k : ℕ). get_or ws k 0) (sym zeroth) ∙ sym (get_or-drop (4 + 3 * i) ws 0 0) ∙ ap (λ (ys : List ℕ). get_or ys 0 0) e,
        ap (λ (k : ℕ). get_or ws k 0) (sym one) ∙ sym (get_or-drop (4 + 3 * i) ws 1 0) ∙ ap (λ (ys : List ℕ). get_or ys 1 0) e,
        ap (λ (k : ℕ). get_or ws k 0) (sym two) ∙ sym (get_or-drop (4 + 3 * i) ws 2 0) ∙ ap (λ (ys : List ℕ). get_or ys 2 0) e,
        ap (λ (k : ℕ). drop k ws) (sym three) ∙ sym (drop-drop 3 (4 + 3 * i) ws) ∙ ap (drop 3) e,
      )

  tiles_right : (i at : ℕ) (xs : List Part) (rest : List ℕ) → drop (4 + 3 * i) ws ≡ rows at xs ++ rest
      → tiles_from ws i (length xs) at (at + length (bodies xs)) ≡ true
  unfolding rows bodies tiles_from
  tiles_right i at [] rest e = eq-eqb at (at + 0) (omega arith)
  tiles_right i at (x ∷ xs) rest e =
      let n = length x.words in
      let h = head_of i at n x.count (rows (at + n) xs ++ rest) e in
      let end : at + length (x.words ++ bodies xs) ≡ at + n + length (bodies xs) = omega (arith, length-append x.words (bodies xs)) in
      rw (eq-eqb (row_start ws i) at h.0, h.1, end)
      (tiles_right (suc i) (at + n) xs rest h.3)

  counts_right : (i n at : ℕ) (rest : List ℕ) → drop (4 + 3 * i) ws ≡ rows at (parts_from ws i n) ++ rest → counts_from ws i n ≡ true
  unfolding rows parts_from counts_from
  counts_right i zero at rest e =
      let h = head_of i at (length (part_in ws i)) (length (part_in ws i)) rest e in
      eq-eqb (row_count ws i) (length (part_in ws i)) h.2
  counts_right i (suc n) at rest e =
      let count = length (entries_of (blocks_in (part_in ws i))) in
      let h = head_of i at (length (part_in ws i)) count (rows (at + length (part_in ws i)) (parts_from ws (suc i) n) ++ rest) e in
      rw (eq-eqb (row_count ws i) count h.2) (counts_right (suc i) n (at + length (part_in ws i)) rest h.3)

-- ---- the file

length_parts : (ws : List ℕ) (i n : ℕ) → length (parts_from ws i n) ≡ suc n
unfolding parts_from
length_parts ws i zero = refl
length_parts ws i (suc n) = ap suc (length_parts ws (suc i) n)

module _ (ws : List ℕ) where
  length_file : length (file_words (sizes_in ws) (parts_in ws)) ≡ first_body (sizes_in ws).spaces + length (bodies (parts_from ws 0 (sizes_in ws).spaces))
  unfolding file_words
  length_file =
      let s = (sizes_in ws).spaces in
      let xs = parts_from ws 0 s in
      ap (λ (ys : List Part). length (file_words (sizes_in ws) ys)) (parts_are ws)
      ∙ omega (arith, length-append (rows (first_body s) xs) (bodies xs), length_rows (first_body s) xs, length_parts ws 0 s)

  -- contents that are cut short are those of no file
  pub same_short : length ws < first_body (sizes_in ws).spaces → same (file_words (sizes_in ws) (parts_in ws)) ws ≡ false
  same_short h = go (same (file_words (sizes_in ws) (parts_in ws)) ws) refl
    where
      go : (t : Bool) → same (file_words (sizes_in ws) (parts_in ws)) ws ≡ t → t ≡ false
      go false e = refl
      go true e = absurd (omega (arith, length_file, ap length (same_is (file_words (sizes_in ws) (parts_in ws)) ws e)))

  after_sizes : file_words (sizes_in ws) (parts_in ws) ≡ ws
      → drop (4 + 3 * 0) ws ≡ rows (first_body (sizes_in ws).spaces) (parts_from ws 0 (sizes_in ws).spaces) ++ bodies (parts_from ws 0 (sizes_in ws).spaces)
  unfolding file_words
  after_sizes e = ap (drop 4) (sym e) ∙ ap (λ (xs : List Part). rows (first_body (sizes_in ws).spaces) xs ++ bodies xs) (parts_are ws)

  has_rows : file_words (sizes_in ws) (parts_in ws) ≡ ws → rows_tile ws (sizes_in ws).spaces && counts_from ws 0 (sizes_in ws).spaces ≡ true
  has_rows e =
      let s = (sizes_in ws).spaces in
      let xs = parts_from ws 0 s in
      let end : first_body s + length (bodies xs) ≡ length ws = sym length_file ∙ ap length e in
      let tiles : rows_tile ws s ≡ true =
      ap₂ (λ (n k : ℕ). tiles_from ws 0 n (first_body s) k) (sym (length_parts ws 0 s)) (sym end)
      ∙ tiles_right ws 0 (first_body s) xs (bodies xs) (after_sizes e) in
      rw (tiles, counts_right ws 0 s (first_body s) (bodies xs) (after_sizes e)) refl

  module _ (long : first_body (sizes_in ws).spaces ≤ length ws) where
    is_file : rows_tile ws (sizes_in ws).spaces ≡ true → counts_from ws 0 (sizes_in ws).spaces ≡ true → file_words (sizes_in ws) (parts_in ws) ≡ ws
    unfolding file_words
    is_file t c =
        let s = (sizes_in ws).spaces in
        let xs = parts_from ws 0 s in
        let all : first_body (0 + s) ≡ first_body s = omega arith in
        ap (file_words (sizes_in ws)) (parts_are ws)
        ∙ ap (λ (ys : List ℕ). get_or ws 0 0 ∷ get_or ws 1 0 ∷ get_or ws 2 0 ∷ get_or ws 3 0 ∷ (rows (first_body s) xs ++ ys))
        (bodies_right ws 0 s (first_body s) t ∙ ap (λ (k : ℕ). drop k ws) (sym all))
        ∙ ap (λ (ys : List ℕ). get_or ws 0 0 ∷ get_or ws 1 0 ∷ get_or ws 2 0 ∷ get_or ws 3 0 ∷ ys) (rows_right ws 0 s (first_body s) (omega arith) t c)
        ∙ sym (drop-cons ws 0 0 (omega arith)
        ∙ ap (λ (ys : List ℕ). get_or ws 0 0 ∷ ys) (drop-cons ws 1 0 (omega arith)
        ∙ ap (λ (ys : List ℕ). get_or ws 1 0 ∷ ys) (drop-cons ws 2 0 (omega arith) ∙ ap (λ (ys : List ℕ). get_or ws 2 0 ∷ ys) (drop-cons ws 3 0 (omega arith)))))

    -- contents that are all there
    pub same_rows : same (file_words (sizes_in ws) (parts_in ws)) ws ≡ rows_tile ws (sizes_in ws).spaces && counts_from ws 0 (sizes_in ws).spaces
    same_rows =
        either (same (file_words (sizes_in ws) (parts_in ws)) ws) (rows_tile ws (sizes_in ws).spaces && counts_from ws 0 (sizes_in ws).spaces)
        (λ e. has_rows (same_is (file_words (sizes_in ws) (parts_in ws)) ws e))
        (λ e.
        let (t, c) = both (rows_tile ws (sizes_in ws).spaces) (counts_from ws 0 (sizes_in ws).spaces) e in
        is_same (file_words (sizes_in ws) (parts_in ws)) ws (is_file t c))
