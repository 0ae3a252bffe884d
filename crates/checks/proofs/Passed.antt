-- The number of a check, from whether it passes.
use Rattle.std.specs.Prelude.{◌≡◌, Bool, true, false, not, ℕ, eqb}
use Rattle.std.proofs.Common.{eqb-true}
use Rattle.std.proofs.lemmas.Bool.{eqb-false}
use Rattle.sequence.specs.Tests.{failed, held}

module _ {r : Bool} {n : ℕ} (told : r ≡ eqb n 0) where
  pub passed : not r ≡ false → n ≡ 0
  passed left = eqb-true n 0 (held told left)

  pub not_passed : not r ≡ true → n ≡ 0 → ⊥
  not_passed taken = eqb-false n 0 (failed told taken)
