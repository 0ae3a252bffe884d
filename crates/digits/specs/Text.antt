-- Numbers and bytes as text: document 01, "One session whole". Definitions only.
use Rattle.std.specs.Prelude.{cond, List, [], ◌∷◌, ◌++◌, ℕ, zero, suc, ◌/◌, ◌%◌, ltb}
use Rattle.io.specs.Digits.{hex_digit_ascii}

-- ---- "Numbers are decimal, bytes two lowercase hex digits each, run together"

-- the digits of n, the first of them the greatest; given at least as much fuel as n has digits
unfoldable pub decimal_with : ℕ → ℕ → List ℕ
decimal_with zero n = []
decimal_with (suc fuel) n = let more = decimal_with fuel (n / 10) ++ (hex_digit_ascii (n % 10) ∷ []) in cond (ltb n 10) (hex_digit_ascii n ∷ []) more

abbrev pub decimal : ℕ → List ℕ
decimal n = decimal_with (suc n) n

unfoldable pub hex_text : List ℕ → List ℕ
hex_text [] = []
hex_text (v ∷ vs) = hex_digit_ascii (v / 16) ∷ hex_digit_ascii (v % 16) ∷ hex_text vs

-- ` `
abbrev pub blank : List ℕ
blank = 32 ∷ []

-- each number after a blank
unfoldable pub numbers_text : List ℕ → List ℕ
numbers_text [] = []
numbers_text (n ∷ ns) = blank ++ (decimal n ++ numbers_text ns)
