-- The words of one layer, and the set of places that a layer keeps: document 01, "Sizes".
use Rattle.std.specs.Prelude.{Bool, cond, not, List, ℕ, zero, suc, ◌+◌, ◌*◌, ◌/◌, ◌%◌, ◌^◌, eqb, get_or}
use Rattle.sequence.specs.Lists.{tabulate}

-- bit j of the word w
unfoldable pub bit : ℕ → ℕ → Bool
bit w j = eqb (w / 2 ^ j % 2) 1

-- the number whose bits below n are those of f, and no other
unfoldable pub pack : (ℕ → Bool) → ℕ → ℕ
pack f zero = 0
pack f (suc n) = pack f n + cond (f n) (2 ^ n) 0

-- "64-bit words, one bit a place": word i has the places 64 i to 64 i + 63
unfoldable pub word_of : (ℕ → Bool) → ℕ → ℕ
unfolding pack
word_of s i = pack (λ j. s (i * 64 + j)) 64

-- the layer of n words for the places of s
unfoldable pub layer : ℕ → (ℕ → Bool) → List ℕ
unfolding tabulate word_of
layer n s = tabulate (word_of s) n

-- "one bit for each word below, set when that word isn't 0"
abbrev pub nonzero : List ℕ → ℕ → Bool
nonzero ws i = not (eqb (get_or ws i 0) 0)

-- the bit of place p in a layer of any words
unfoldable pub bit_at : List ℕ → ℕ → Bool
unfolding bit
bit_at ws p = bit (get_or ws (p / 64) 0) (p % 64)
