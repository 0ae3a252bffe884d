-- What the functions on one word and on one layer promise each other and the index.
use Rattle.std.specs.Prelude.{Bool, true, false, List, ℕ, ◌+◌, ◌*◌, ◌/◌, ◌%◌, ◌^◌, ◌≤◌, ◌<◌, eqb, length, get_or, set}
use Rattle.std.specs.Prelude as prelude
use Rattle.std.proofs.Math.Option.{Option, none, some}
use Rattle.std.specs.Int.Bits.{bit_or, bit_xor}
use Rattle.layer.specs.declared.Greatest.{Greatest}

-- ---- one word

-- what the code answers, as the logic's own option
abbrev pub option_of : prelude.Option ℕ → Option ℕ
option_of (prelude.Some k) = some k
option_of prelude.None = none

-- the word w with bit k as v says
unfoldable pub put_bit : ℕ → ℕ → Bool → ℕ
put_bit w k true = bit_or w (2 ^ k)
put_bit w k false = bit_xor (bit_or w (2 ^ k)) (2 ^ k)

-- whether bit k is alone in the word w where it is put: the word was 0 before a set, or is 0 after a clear
unfoldable pub alone : ℕ → ℕ → Bool → Bool
unfolding put_bit
alone w k true = eqb w 0
alone w k false = eqb (put_bit w k false) 0

-- ---- one layer

pub record SeekAsked (ws : List ℕ) (at bits count : ℕ) : Type 0 where
  pub here : at < length ws
  pub small : at < 2 ^ 32
  pub within : bits ≤ 64
  pub counted : count + 1 < 2 ^ 32

-- the answer of a seek in word `at` that found this bit, after c words
unfoldable pub seek_of : ℕ → ℕ → Option ℕ → Greatest
seek_of at c none = record { place = prelude.None; words = c + 1 }
seek_of at c (some k) = record { place = prelude.Some (at * 64 + k); words = c + 1 }

-- the layer at the front of ws with place p as v says
abbrev pub put_front : ℕ → Bool → List ℕ → List ℕ
put_front p v ws = set ws (p / 64) (put_bit (get_or ws (p / 64) 0) (p % 64) v)

-- whether place p is alone in its word where it is put: the layer above has to change only then
abbrev pub alone_front : ℕ → Bool → List ℕ → Bool
alone_front p v ws = alone (get_or ws (p / 64) 0) (p % 64) v
