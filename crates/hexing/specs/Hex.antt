-- Bytes in hex: "two lowercase hex digits each, run together". Definitions only; document 01's words stand beside them in quotation marks.
use Rattle.std.specs.Prelude.{Bool, cond, ◌&&◌, ◌||◌, List, [], ◌∷◌, ◌++◌, ℕ, ◌+◌, ◌-◌, ◌*◌, ◌/◌, ◌%◌, eqb, leb, length, drop, Option, Some, None}
use Rattle.fields.specs.Fields.{is_digit}
use Rattle.std.specs.List.{list_all}

abbrev pub is_hex : ℕ → Bool
is_hex c = is_digit c || (leb 97 c && leb c 102)

abbrev pub all_hex : List ℕ → Bool
all_hex cs = list_all is_hex cs

-- "hex of at most 256 bytes"
abbrev pub is_bytes : List ℕ → Bool
is_bytes cs = leb 2 (length cs) && leb (length cs) 512 && eqb (length cs % 2) 0 && all_hex cs

-- how many: "none for an empty span", else a blank and the hex
abbrev pub hex_count : List ℕ → Option ℕ
hex_count [] = Some 0
hex_count (c ∷ cs) = cond (eqb c 32 && is_bytes cs) (Some (length cs / 2)) None

abbrev pub nibble : ℕ → ℕ
nibble c = cond (leb c 57) (c - 48) (c - 87)

unfoldable pub bytes_in : List ℕ → List ℕ
bytes_in [] = []
bytes_in (a ∷ []) = []
bytes_in (a ∷ b ∷ cs) = (16 * nibble a + nibble b) ∷ bytes_in cs

-- the last 2 n bytes of a line
abbrev pub hex_of : List ℕ → ℕ → List ℕ
hex_of line n = drop (length line - 2 * n) line

-- their bytes at the front of the buffer, the rest as it was; nothing is written where a digit isn't hex or there is no room
unfoldable pub unhexed : List ℕ → ℕ → List ℕ → List ℕ
unhexed line n buffer = cond (leb (2 * n) (length line) && leb n (length buffer) && all_hex (hex_of line n)) (bytes_in (hex_of line n) ++ drop n buffer) buffer
