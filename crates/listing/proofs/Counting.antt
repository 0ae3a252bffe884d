-- Counting the regions of a space from its end down: each start found is one more, and those below it are left.
use mathlib.Core.Path.{◌≡◌, ap, ◌∙◌}
use Rattle.std.specs.Prelude.{Option, Some, None}
use mathlib.Core.List.{List, [], ◌∷◌, ◌++◌}
use Prim.Native.Nat.{ℕ, ◌+◌, ◌≤◌, ◌<◌}
use native.Mathlib.Omega.{arith}
use lib.ListN.{length, length-append}
use Rattle.machine.specs.Machine.{State}
use Rattle.listing.specs.Listing.{record_of, records_below, last_record, no_record}
use Rattle.listing.specs.Steps.{Indexed, StartBelow, Many}

-- ---- what a start found says of the records

module _ {t lo e : ℕ} {ws : List ℕ} {r : Option ℕ} (found : StartBelow t lo e ws r) where
  pub start_inside : {a : ℕ} → r ≡ Some a → (lo ≤ a) × (a < e)
  start_inside h = rw h at found.any

  module _ {m : State} (x : Indexed m t ws) where
    pub found_record : {a : ℕ} → r ≡ Some a → records_below m lo e ≡ records_below m lo a ++ (record_of m lo a e ∷ [])
    found_record {a} h = last_record m lo e a (start_inside h).0 (rw h at (found.right m x))

    pub left_with : {a : ℕ} → r ≡ Some a → length (records_below m lo e) ≡ length (records_below m lo a) + 1
    left_with {a} h = ap length (found_record h) ∙ length-append (records_below m lo a) (record_of m lo a e ∷ [])

    pub none_left : r ≡ None → records_below m lo e ≡ []
    none_left h = no_record m lo e (rw h at (found.right m x))

-- ---- the loop

-- n regions start from place last on
pub record Counting (t lo e : ℕ) (ws : List ℕ) (n last : ℕ) : Type 0 where
  pub few : n + last ≤ e
  pub right : (m : State) → Indexed m t ws → length (records_below m lo e) ≡ n + length (records_below m lo last)

module _ {t lo e : ℕ} {ws : List ℕ} {n last : ℕ} {r : Option ℕ} (so_far : Counting t lo e ws n last) (found : StartBelow t lo last ws r) where
  pub one_more : {a : ℕ} → r ≡ Some a → Counting t lo e ws (n + 1) a
  one_more h =
      let inside = start_inside found h in
      record { few = omega arith; right = λ m x. omega (arith, so_far.right m x, left_with found x h) }

  pub all_counted : r ≡ None → Many t lo e ws n
  all_counted h m x = omega (arith, so_far.right m x, ap length (none_left found x h))
