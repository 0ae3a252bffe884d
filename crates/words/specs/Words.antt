-- "32-bit little-endian words": a list of words as bytes, and bytes as words.
use Rattle.std.specs.Prelude.{List, [], ◌∷◌, ℕ, ◌+◌, ◌*◌, ◌/◌, ◌%◌, set}

-- the four bytes of a word, lowest first; the highest isn't cut, so that no bound on words is asked for (a file's words are u32 where they are computed)
abbrev pub byte : ℕ → ℕ → ℕ
byte unit w = w / unit % 256

abbrev pub word_of : ℕ → ℕ → ℕ → ℕ → ℕ
word_of a b c d = a + 256 * b + 65536 * c + 16777216 * d

unfoldable pub bytes_of : List ℕ → List ℕ
bytes_of [] = []
bytes_of (w ∷ ws) = w % 256 ∷ byte 256 w ∷ byte 65536 w ∷ w / 16777216 ∷ bytes_of ws

-- the whole words of some bytes; up to three bytes after the last belong to none
unfoldable pub words_in : List ℕ → List ℕ
words_in (a ∷ b ∷ c ∷ d ∷ bs) = word_of a b c d ∷ words_in bs
words_in (a ∷ b ∷ c ∷ []) = []
words_in (a ∷ b ∷ []) = []
words_in (a ∷ []) = []
words_in [] = []

-- word k put into some bytes
abbrev pub put_word : List ℕ → ℕ → ℕ → List ℕ
put_word bs k w = set (set (set (set bs (4 * k) (w % 256)) (4 * k + 1) (byte 256 w)) (4 * k + 2) (byte 65536 w)) (4 * k + 3) (w / 16777216)
