-- What is asked of the bodies of a map file.
use Rattle.std.specs.Prelude.{◌≡◌, true, List, ℕ, ◌*◌, ◌≤◌}
use Rattle.std.proofs.Math.Seq.{slice}
use Rattle.machine.specs.Map.{whole_from, blocks_in}
use Rattle.machine.specs.MapRules.{entry_frames, entries_of, fine_body}

-- the frames of a body, in the order of the file
abbrev pub body_frames : List ℕ → List ℕ
body_frames ws = entry_frames (entries_of (blocks_in ws))

-- a body that isn't cut, in a file of so many bytes
pub record WholeAt (bytes : ℕ) (ws : List ℕ) (first to : ℕ) : Type 0 where
  pub low : first ≤ to
  pub inside : 4 * to ≤ bytes
  pub whole : whole_from 0 (slice first to ws) ≡ true

-- a body that is fine but for pages that stand twice, of a space of n pages
pub record FineAt (bytes : ℕ) (ws : List ℕ) (first to n : ℕ) : Type 0 where
  pub low : first ≤ to
  pub inside : 4 * to ≤ bytes
  pub fine : fine_body n (slice first to ws) ≡ true
