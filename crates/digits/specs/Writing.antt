-- What it is to write text into a buffer after what stands there already.
use Rattle.std.specs.Prelude.{◌≡◌, List, ◌++◌, ℕ, ◌+◌, length, take, drop}
use Rattle.digits.specs.declared.Text.{Text}

-- the text stands after the first `at` bytes and ends at `end`; nothing else is written
pub record Wrote (at : ℕ) (out cs : List ℕ) (end : ℕ) (out' : List ℕ) : Type 0 where
  pub long : length out' ≡ length out
  pub end_is : end ≡ at + length cs
  pub out_is : out' ≡ take at out ++ (cs ++ drop (at + length cs) out)

-- t' is the same lent buffer as t, with the text cs written after what t had
pub record Added (t : Text) (cs : List ℕ) (t' : Text) : Type 0 where
  pub same_buffer : t'.out.ghost_name ≡ t.out.ghost_name
  pub wrote : Wrote t.at t.out.now cs t'.at t'.out.now
