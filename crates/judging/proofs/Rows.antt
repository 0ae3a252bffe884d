-- The loops over the rows of the contents.
use mathlib.Core.Path.{◌≡◌, refl, sym, ap, ap₂, ◌∙◌}
use mathlib.Core.Bool.{Bool, false, ◌&&◌}
use mathlib.Core.List.{List}
use Prim.Native.Nat.{ℕ, suc, ◌+◌, ◌-◌, ◌*◌, ◌≤◌, ◌<◌}
use native.Mathlib.Omega.{arith}
use borrow.Author.Tests.{eq-eqb, ne_eqb}
use lib.Dec.{eqb}
use lib.ListN.{length}
use Rattle.machine.specs.Map.{row_start, row_length, row_count}
use Rattle.judging.specs.Contents.{tiles_from, rows_tile, told_from}

-- ---- rows that tile

-- from row i on, its body at word `at`; the bound keeps a sum of words from wrapping
pub record Tiling (ws : List ℕ) (spaces i at : ℕ) : Type 0 where
  pub rest : rows_tile ws spaces ≡ tiles_from ws i (suc spaces - i) at (length ws)
  pub small : at < 200 + i * 4294967296

module _ (ws : List ℕ) (spaces i at : ℕ) (t : Tiling ws spaces i at) where
  row_more : i ≤ spaces → tiles_from ws i (suc spaces - i) at (length ws)
      ≡ eqb (row_start ws i) at && tiles_from ws (i + 1) (suc spaces - (i + 1)) (at + row_length ws i) (length ws)
  unfolding tiles_from
  row_more low =
      let left : suc spaces - i ≡ suc (suc spaces - (i + 1)) = omega arith in
      let next : suc i ≡ i + 1 = omega arith in
      ap (λ (n : ℕ). tiles_from ws i n at (length ws)) left
      ∙ ap (λ (j : ℕ). eqb (row_start ws i) at && tiles_from ws j (suc spaces - (i + 1)) (at + row_length ws i) (length ws)) next

  pub row_bad : i ≤ spaces → (row_start ws i ≡ at → ⊥) → rows_tile ws spaces ≡ false
  row_bad low d = t.rest ∙ row_more low ∙ rw (ne_eqb (row_start ws i) at d) refl

  pub row_next : i ≤ spaces → row_start ws i ≡ at → (n : ℕ) → n ≡ row_length ws i → n < 4294967296
      → Tiling ws spaces (i + 1) (at + n)
  row_next low e n n_is few =
      record {
        rest =
            t.rest
            ∙ row_more low
            ∙ ap₂ (λ (b : Bool) (k : ℕ). b && tiles_from ws (i + 1) (suc spaces - (i + 1)) (at + k) (length ws))
            (eq-eqb (row_start ws i) at e) (sym n_is);
        small = omega (arith, t.small);
      }

  pub rows_end : spaces < i → rows_tile ws spaces ≡ eqb at (length ws)
  unfolding tiles_from
  rows_end past = let none : suc spaces - i ≡ 0 = omega arith in t.rest ∙ ap (λ (n : ℕ). tiles_from ws i n at (length ws)) none

-- ---- third words added up

pub record Telling (ws : List ℕ) (spaces i told : ℕ) : Type 0 where
  pub rest : told_from ws 0 (suc spaces) ≡ told + told_from ws i (suc spaces - i)
  pub small : told ≤ i * 4294967296

module _ (ws : List ℕ) (spaces i told : ℕ) (t : Telling ws spaces i told) where
  pub told_next : i ≤ spaces → (n : ℕ) → n ≡ row_count ws i → n < 4294967296 → Telling ws spaces (i + 1) (told + n)
  unfolding told_from
  told_next low n n_is few =
      let left : suc spaces - i ≡ suc (suc spaces - (i + 1)) = omega arith in
      let next : suc i ≡ i + 1 = omega arith in
      let more : told_from ws i (suc spaces - i) ≡ n + told_from ws (i + 1) (suc spaces - (i + 1)) =
      ap (told_from ws i) left
      ∙ ap₂ (λ (k j : ℕ). k + told_from ws j (suc spaces - (i + 1))) (sym n_is) next in
      record { rest = omega (arith, t.rest, more); small = omega (arith, t.small) }

  pub all_told : spaces < i → told ≡ told_from ws 0 (suc spaces)
  unfolding told_from
  all_told past =
      let none : suc spaces - i ≡ 0 = omega arith in
      let nothing : told_from ws i (suc spaces - i) ≡ 0 = ap (told_from ws i) none in
      omega (arith, t.rest, nothing)
