-- The rows of a map file's contents: that they lie in the file, and so do the bodies that they name.
use Rattle.std.specs.Prelude.{◌≡◌, true, List, ℕ, suc, ◌+◌, ◌*◌, ◌≤◌, ◌<◌}
use Rattle.std.proofs.Common.{arith}
use Rattle.machine.specs.Map.{row_start, row_length, part_in, whole_from}

-- row i of a file of so many bytes, that of the pool after those of all spaces
abbrev pub RowIn : ℕ → List ℕ → ℕ → Type 0
RowIn bytes ws i = (4 * (4 + (3 * i + 2)) ≤ bytes) × (4 * (row_start ws i + row_length ws i) ≤ bytes)

-- the rows of a file of so many spaces and bytes lie in it, and so do the bodies that they name, the pool last
pub record Rowed (bytes : ℕ) (ws : List ℕ) (spaces : ℕ) : Type 0 where
  pub rows : 4 * (4 + 3 * suc spaces) ≤ bytes
  pub inside : (i : ℕ) → i ≤ spaces → 4 * (row_start ws i + row_length ws i) ≤ bytes

-- and no body of a space is cut
pub record Bodied (bytes : ℕ) (ws : List ℕ) (spaces : ℕ) : Type 0 where
  pub rows : 4 * (4 + 3 * suc spaces) ≤ bytes
  pub inside : (i : ℕ) → i ≤ spaces → 4 * (row_start ws i + row_length ws i) ≤ bytes
  pub whole : (i : ℕ) → i < spaces → whole_from 0 (part_in ws i) ≡ true

module _ {bytes : ℕ} {ws : List ℕ} {spaces : ℕ} where
  pub bodied_rowed : Bodied bytes ws spaces → Rowed bytes ws spaces
  bodied_rowed b = record { rows = b.rows; inside = b.inside }

  pub row_in : Rowed bytes ws spaces → (i : ℕ) → i ≤ spaces → RowIn bytes ws i
  row_in r i l = (omega (arith, r.rows), r.inside i l)
