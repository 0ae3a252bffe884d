-- Rows that tile the file name bodies that lie in it.
use Rattle.std.specs.Prelude.{◌≡◌, refl, true, List, ℕ, zero, suc, ◌+◌, ◌*◌, ◌/◌, ◌≤◌, ◌<◌, eqb, length}
use Rattle.std.proofs.Math.Decide.{ℕ_discrete}
use Rattle.std.proofs.Common.{arith, eqb-true}
use Rattle.words.specs.Words.{words_in}
use Rattle.words.specs.Laws.{length_words}
use Rattle.machine.specs.Map.{first_body, row_start, row_length}
use Rattle.machine.proofs.Laws.Sizes.{both}
use Rattle.walking.specs.Rows.{Rowed}
use Rattle.judging.specs.Contents.{tiles_from, rows_tile}

-- what rows that tile say of the first
pub record Tile (ws : List ℕ) (i n at end : ℕ) : Type 0 where
  pub start_is : row_start ws i ≡ at
  pub inside : at + row_length ws i ≤ end
  pub rest : tiles_from ws (suc i) n (at + row_length ws i) end ≡ true

pub tiles_end : (ws : List ℕ) (i at end : ℕ) → tiles_from ws i 0 at end ≡ true → at ≡ end
unfolding tiles_from
tiles_end ws i at end h = eqb-true at end h

low : (ws : List ℕ) (i n at end : ℕ) → tiles_from ws i n at end ≡ true → at ≤ end
unfolding tiles_from
low ws i zero at end h = omega (arith, eqb-true at end h)
low ws i (suc n) at end h =
    let (_, rest) = both (eqb (row_start ws i) at) _ h in
    omega (arith, low ws (suc i) n (at + row_length ws i) end rest)

pub tile : (ws : List ℕ) (i n at end : ℕ) → tiles_from ws i (suc n) at end ≡ true → Tile ws i n at end
unfolding tiles_from
tile ws i n at end h =
    let (first, rest) = both (eqb (row_start ws i) at) _ h in
    record {
      start_is = eqb-true (row_start ws i) at first;
      inside = low ws (suc i) n (at + row_length ws i) end rest;
      rest = rest;
    }

tiles_each : (ws : List ℕ) (i n at end : ℕ) → tiles_from ws i n at end ≡ true → (j : ℕ) → i ≤ j → j < i + n
    → row_start ws j + row_length ws j ≤ end
tiles_each ws i zero at end h j from below = absurd (omega arith)
tiles_each ws i (suc n) at end h j from below =
    let t = tile ws i n at end h in
    elim (ℕ_discrete i j) [
      | yes e ↦ rw (← e) (omega (arith, t.start_is, t.inside))
      | no d ↦ tiles_each ws (suc i) n (at + row_length ws i) end t.rest j (omega arith) (omega arith)
    ]

pub tiles_rowed : (file : List ℕ) (spaces : ℕ) → 4 * first_body spaces ≤ length file → rows_tile (words_in file) spaces ≡ true
    → Rowed (length file) (words_in file) spaces
tiles_rowed file spaces long h =
    record {
      rows = long;
      inside = λ j l.
          omega (
            arith,
            tiles_each (words_in file) 0 (suc spaces) (first_body spaces) (length (words_in file)) h j (omega arith) (omega arith),
            length_words (length file / 4) file refl,
          );
    }
