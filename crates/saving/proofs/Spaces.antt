-- The spaces one after another: their bodies and their rows underway.
use mathlib.Core.Path.{◌≡◌, refl, sym, ap}
use mathlib.Core.List.{List, [], ◌∷◌}
use Prim.Native.Nat.{ℕ, suc, ◌+◌, ◌-◌, ◌*◌, ◌≤◌, ◌<◌}
use native.Mathlib.Nat.{suc-mul, mul-le-mul_right, sub-zero}
use native.Mathlib.Numerals.{add-one}
use native.Mathlib.Omega.{arith}
use lib.ListN.{length}
use Rattle.sequence.specs.Lists.{tabulate}
use Rattle.sequence.specs.Sums.{sum_from}
use Rattle.machine.specs.Map.{body_words, bodies, first_body}
use Rattle.saving.specs.Saved.{blocks_from, space_from, counts_in}
use Rattle.saving.specs.Storing.{Room, Storing, Stored, Splits, none_stored, still_to_store, part_room, part_stored, all_stored}
use Rattle.saving.specs.Steps.{rest_all, rest_next, rest_done}
use Rattle.saving.specs.Sizes.{body_size, space_size, space_rows}
use Rattle.saving.specs.Asked.{Walkable}

-- ---- a space among all places

module _ {index count : List ℕ} (pages spaces i : ℕ) (w : Walkable index count 0 (spaces * pages)) (l : i < spaces) where
  pub space_inside : i * pages + pages ≤ spaces * pages
  space_inside = omega (arith, suc-mul i pages, mul-le-mul_right pages l)

  pub space_walkable : Walkable index count (i * pages) (i * pages + pages)
  space_walkable =
      let inside = space_inside in
      record {
        low = omega arith;
        few = omega (arith, w.few);
        index_long = omega (arith, w.index_long);
        count_long = omega (arith, w.count_long);
      }

-- ---- bodies

module _ (index count table stack : List ℕ) (pages spaces : ℕ) where
  -- those from space i on
  abbrev pub bodies_left : ℕ → List ℕ
  bodies_left i = bodies (tabulate (λ j. space_from index count table stack pages (i + j)) (spaces - i))

  pub bodies_all : bodies (tabulate (space_from index count table stack pages) spaces) ≡ bodies_left 0
  bodies_all = ap bodies (rest_all (space_from index count table stack pages) 0 spaces refl)

  pub bodies_done : (i : ℕ) → spaces ≤ i → bodies_left i ≡ []
  unfolding bodies
  bodies_done i h = ap bodies (rest_done (space_from index count table stack pages) i spaces h)

  pub body_next : (i : ℕ) → i < spaces
      → Splits (bodies_left i) (body_words (blocks_from index count table stack (i * pages) 0 (i * pages + pages - i * pages))) (bodies_left (i + 1))
  unfolding bodies
  body_next i l =
      let all : i * pages + pages - i * pages ≡ pages = omega arith in
      record { is = rw all (ap bodies (rest_next (space_from index count table stack pages) i spaces l)) }

-- ---- rows

-- the rows of the spaces before i are stored, and `body` is where that space's body starts
pub record StoringRows (index count : List ℕ) (pages spaces : ℕ) (file₀ file : List ℕ) (i body : ℕ) : Type 0 where
  pub storing : Storing file₀ 4 (space_rows index count pages (first_body spaces) 0 spaces) file (4 + 3 * i) (space_rows index count pages body i (spaces - i))
  pub sizes_are : body + sum_from (space_size index count pages) i (spaces - i) ≡ first_body spaces + sum_from (space_size index count pages) 0 spaces

module _ {index count : List ℕ} {pages spaces : ℕ} {file₀ : List ℕ} where
  pub rows_begun : StoringRows index count pages spaces file₀ file₀ 0 (7 + 3 * spaces)
  rows_begun =
      let first : 7 + 3 * spaces ≡ first_body spaces = omega arith in
      rw first
      (record {
        storing = none_stored file₀ 4 _ _ (ap (space_rows index count pages (first_body spaces) 0) (sym (sub-zero spaces)));
        sizes_are = rw sub-zero;
      })

  module _ {file : List ℕ} {i body : ℕ} (r : StoringRows index count pages spaces file₀ file i body) where
    module _ (l : i < spaces) where
      more : spaces - i ≡ suc (spaces - (i + 1))
      more = omega arith

      all : i * pages + pages - i * pages ≡ pages
      all = omega arith

      row_next : Splits (space_rows index count pages body i (spaces - i))
          (body ∷ body_size index count (i * pages) (i * pages + pages - i * pages) ∷ counts_in index count (i * pages) (i * pages + pages - i * pages) ∷ [])
          (space_rows index count pages (body + body_size index count (i * pages) (i * pages + pages - i * pages)) (i + 1) (spaces - (i + 1)))
      unfolding space_rows
      row_next = record { is = rw (all, more, add-one i) }

      sum_more : sum_from (space_size index count pages) i (spaces - i)
          ≡ body_size index count (i * pages) (i * pages + pages - i * pages) + sum_from (space_size index count pages) (i + 1) (spaces - (i + 1))
      sum_more = rw (all, more, add-one i)

      pub row_asks : Walkable index count 0 (spaces * pages) → Room file₀ 4 (space_rows index count pages (first_body spaces) 0 spaces)
          → first_body spaces + sum_from (space_size index count pages) 0 spaces < 4294967296
          → Walkable index count (i * pages) (i * pages + pages) × (4 * (4 + 3 * i + 3) ≤ length file)
          × (body + body_size index count (i * pages) (i * pages + pages - i * pages) < 4294967296)
      row_asks w room fits = (
        space_walkable pages spaces i w l,
        part_room room r.storing row_next,
        omega (arith, r.sizes_are, sum_more),
      )

      pub row_stored : {file' : List ℕ} {next : ℕ}
          → Stored file (4 + 3 * i)
          (body ∷ body_size index count (i * pages) (i * pages + pages - i * pages) ∷ counts_in index count (i * pages) (i * pages + pages - i * pages) ∷ [])
          file' (4 + 3 * i + 3)
          → next ≡ body + body_size index count (i * pages) (i * pages + pages - i * pages)
          → StoringRows index count pages spaces file₀ file' (i + 1) next
      row_stored d e =
          let on : 4 + 3 * (i + 1) ≡ 4 + 3 * i + 3 = omega arith in
          record {
            storing = rw (on, e) (part_stored r.storing row_next d);
            sizes_are = omega (arith, r.sizes_are, sum_more);
          }

    pub rows_stored : i ≡ spaces
        → Stored file₀ 4 (space_rows index count pages (first_body spaces) 0 spaces) file (4 + 3 * spaces)
        × (body ≡ first_body spaces + sum_from (space_size index count pages) 0 spaces)
    unfolding space_rows
    rows_stored last =
        let none : spaces - i ≡ 0 = omega arith in
        (rw last at (all_stored (still_to_store r.storing (rw none))), omega (arith, rw none at r.sizes_are))
