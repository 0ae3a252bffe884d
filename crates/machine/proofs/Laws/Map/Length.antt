-- What the contents tell of a space; and how long the map of a sound state is at most: by its spaces, its places and its frames.
use Rattle.std.specs.Prelude.{◌≡◌, Bool, List, [], ◌∷◌, ◌++◌, map}
use Rattle.std.proofs.Math.Path.{refl, ap}
use Rattle.std.proofs.Common.{◌∙◌, add-zero, zero-add}
use Rattle.std.proofs.Math.Bool.{true, false}
use Prim.Native.Nat.{ℕ, zero, suc, ◌+◌, ◌*◌, ◌≤◌}
use Rattle.std.proofs.Math.Nat.{suc-mul}
use native.Mathlib.Omega.{arith}
use Rattle.std.proofs.Math.ListN.{length, length-append, length-map}
use Rattle.sequence.specs.Lists.{suc_across, tabulate, length_tabulate}
use Rattle.sequence.specs.Sums.{sum, sum_map, sum_from}
use Rattle.words.specs.Laws.{length_bytes}
use Rattle.machine.specs.declared.Region.{Region}
use Rattle.machine.specs.State.{places, place_of, State, is_start, region, records, records_of}
use Rattle.machine.specs.Claims.{Sound}
use Rattle.machine.proofs.Laws.Holders.{pool_and_resident}
use Rattle.machine.proofs.Laws.Records.{records_start, records_none, listed_pages_lem}
use Rattle.machine.specs.Map.{Entry, Block, entry_words, body_words, Part, rows, bodies, first_body, file_words, entry_of, block_of, space_part, pool_part}
use Rattle.machine.specs.Map.{parts_of, map_words, map_of}
use Rattle.machine.proofs.Laws.Map.Contents.{length_rows}

-- ---- words

length_entries : (xs : List Entry) → length (entry_words xs) ≡ 2 * length xs
unfolding entry_words
length_entries [] = refl
length_entries (x ∷ xs) = omega (arith, length_entries xs)

pub length_body : (bs : List Block) → length (body_words bs) ≡ 3 * length bs + 2 * sum (λ b. length b.entries) bs
unfolding body_words
length_body [] = refl
length_body (b ∷ bs) = omega (arith, length-append (entry_words b.entries) (body_words bs), length_entries b.entries, length_body bs)

-- ---- bodies

module _ (m : State) where
  -- a space has no more regions than pages
  records_few : (lo b n : ℕ) → length (records m lo b n) ≤ n
  unfolding records
  records_few lo b zero = omega arith
  records_few lo b (suc n) = go (is_start m (lo + b)) refl (records_few lo (suc b) n)
    where
      go : (t : Bool) → is_start m (lo + b) ≡ t → length (records m lo (suc b) n) ≤ n → length (records m lo b (suc n)) ≤ suc n
      go true e ih = omega (arith, ih, ap length (records_start m lo b n e))
      go false e ih = omega (arith, ih, ap length (records_none m lo b n e))

  -- the resident pages of a space
  abbrev listed : ℕ → ℕ
  listed i = sum (λ r. r.resident) (records_of m i)

  abbrev entries : ℕ → Region → ℕ
  entries lo r = length (map (entry_of lo) (region m (lo + r.start)))

  -- a region's entries are its resident pages
  entries_listed : (lo b n : ℕ) → sum (entries lo) (records m lo b n) ≡ sum (λ r. r.resident) (records m lo b n)
  unfolding records
  entries_listed lo b zero = refl
  entries_listed lo b (suc n) = go (is_start m (lo + b)) refl (entries_listed lo (suc b) n)
    where
      go : (t : Bool) → is_start m (lo + b) ≡ t → sum (entries lo) (records m lo (suc b) n) ≡ sum (λ r. r.resident) (records m lo (suc b) n)
          → sum (entries lo) (records m lo b (suc n)) ≡ sum (λ r. r.resident) (records m lo b (suc n))
      go true e ih = rw (records_start m lo b n e, length-map, ih)
      go false e ih = rw (records_none m lo b n e) ih

  -- what the contents tell of a space are the resident pages of its records
  pub part_listed : (i : ℕ) → (space_part m i).count ≡ listed i
  part_listed i =
      let lo = place_of m.sizes i 0 in
      sum_map (λ b. length b.entries) (block_of m lo) (records_of m i) ∙ entries_listed lo 0 m.sizes.pages

  space_size_lem : (i : ℕ) → length (space_part m i).words ≤ 3 * m.sizes.pages + 2 * listed i
  space_size_lem i =
      let lo = place_of m.sizes i 0 in
      let rs = records_of m i in
      omega (
        arith,
        length_body (map (block_of m lo) rs),
        length-map rs (block_of m lo),
        records_few lo 0 m.sizes.pages,
        part_listed i,
      )

  -- n spaces from number i on
  spaces_size : (i n : ℕ) (f : ℕ → Part) → ((j : ℕ) → length (f j).words ≤ 3 * m.sizes.pages + 2 * listed (i + j))
      → length (bodies (tabulate f n)) ≤ 3 * (n * m.sizes.pages) + 2 * sum_from listed i n
  unfolding bodies tabulate
  spaces_size i zero f h = omega arith
  spaces_size i (suc n) f h =
      omega (
        arith,
        length-append (f 0).words (bodies (tabulate (λ j. f (suc j)) n)),
        h 0,
        ap listed (add-zero i),
        suc-mul n m.sizes.pages,
        spaces_size (suc i) n (λ j. f (suc j)) (λ j. rw (suc_across i j) (h (suc j))),
      )

-- ---- the file

bodies_append : (xs ys : List Part) → length (bodies (xs ++ ys)) ≡ length (bodies xs) + length (bodies ys)
unfolding bodies
bodies_append [] ys = omega arith
bodies_append (x ∷ xs) ys =
    omega (arith, length-append x.words (bodies (xs ++ ys)), length-append x.words (bodies xs), bodies_append xs ys)

-- contents, three words for each place, all of them starts, and two for each frame, all of them held by a page
pub map_length : (m : State) → Sound m → length (map_of m) ≤ 4 * (first_body m.sizes.spaces + 3 * places m.sizes + 2 * m.sizes.frames)
unfolding file_words bodies
map_length m s =
    let z = m.sizes in
    let spaces = tabulate (space_part m) z.spaces in
    omega (
      arith,
      length_bytes (map_words m),
      length-append (rows (first_body z.spaces) (parts_of m)) (bodies (parts_of m)),
      length_rows (first_body z.spaces) (parts_of m),
      length-append spaces (pool_part m ∷ []),
      length_tabulate (space_part m) z.spaces,
      bodies_append spaces (pool_part m ∷ []),
      length-append m.pool [],
      spaces_size m 0 z.spaces (space_part m) (λ j. rw zero-add (space_size_lem m j)),
      listed_pages_lem m s,
      pool_and_resident m s,
    )
