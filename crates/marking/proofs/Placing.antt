-- A place where a start may be put or taken away is in the index, and so is the start that a find answers.
use Rattle.std.specs.Prelude.{◌≡◌, List, ℕ, ◌/◌, ◌≤◌, ◌<◌, length, Some, Ok}
use Rattle.extent.specs.Checks.{check}
use Rattle.extent.specs.Passing.{passed, word_lent}
use Rattle.layer.specs.declared.Greatest.{Greatest}
use Rattle.index.specs.Promise.{Sought}
use Rattle.marking.specs.Steps.{Searchable}

pub word_in : (t p : ℕ) (ws count : List ℕ) → Searchable t p ws count → p / 64 < length ws
word_in t p ws count y = word_lent (passed _ _ _ y.check_passes)

pub found_low : (t p : ℕ) (ws : List ℕ) (r : Greatest) → Sought t p ws (Ok r) → check (length ws) t p ≡ 0 → (a : ℕ) → r.place ≡ Some a → a ≤ p
found_low t p ws r sought pass a e = rw e at (rw pass at sought.any).0
