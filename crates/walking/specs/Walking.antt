-- What a walk finds: where a body stands, and the head of a region in it.
use Rattle.std.specs.Prelude.{◌≡◌, Option, Some, None, false, List, ℕ, ◌+◌, ◌*◌, ◌≤◌, ◌<◌, get_or}
use Rattle.std.proofs.Math.Seq.{slice}
use Rattle.machine.specs.Map.{part_in}
use Rattle.machine.specs.MapRules.{fine_from}
use Rattle.walking.specs.declared.Body.{Body}
use Rattle.walking.specs.declared.Front.{Front}

-- body i of a file of so many bytes
pub record BodyAt (bytes : ℕ) (ws : List ℕ) (i : ℕ) (b : Body) : Type 0 where
  pub low : b.first ≤ b.to
  pub inside : 4 * b.to ≤ bytes
  pub part : slice b.first b.to ws ≡ part_in ws i

-- at word at of a body that ends before word to: the region's length and its entries, or nothing fine begins there
abbrev pub Fronts : List ℕ → ℕ → ℕ → ℕ → ℕ → Option Front → Type 0
Fronts ws n b at to (Some f) =
    (0 < f.length)
    × (b + f.length ≤ n)
    × (at + (3 + 2 * f.entries) ≤ to)
    × (get_or ws at 0 ≡ b)
    × (get_or ws (at + 1) 0 ≡ f.length)
    × (get_or ws (at + 2) 0 ≡ f.entries)
Fronts ws n b at to None = fine_from n b (slice at to ws) ≡ false
