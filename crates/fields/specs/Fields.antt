-- The fields of a line: its name, a number. Definitions only; document 01's words stand beside them in quotation marks.
use Rattle.std.specs.Prelude.{◌≡◌, Bool, cond, ◌&&◌, List, [], ◌∷◌, ℕ, zero, suc, ◌+◌, ◌-◌, ◌*◌, ◌≤◌, eqb, leb, length, drop, Option, Some, None}
use Rattle.std.specs.List.{starts_with}

-- ---- a name: the word at the line's front

unfoldable pub begins : List ℕ → List ℕ → Bool
begins word line = starts_with eqb line word

-- ---- a number: "decimal", at most 9 digits, leading zeros among them

abbrev pub is_digit : ℕ → Bool
is_digit c = leb 48 c && leb c 57

-- a number taken from the front of a line, and what follows it
abbrev pub FieldTaken : Type 0
FieldTaken = Option (ℕ × List ℕ)

-- up to k more digits after a number; one digit more is too many
unfoldable pub digits_after : ℕ → ℕ → List ℕ → FieldTaken
digits_after k v [] = Some (v, [])
digits_after zero v (c ∷ cs) = cond (is_digit c) None (Some (v, c ∷ cs))
digits_after (suc k) v (c ∷ cs) = let more = digits_after k (10 * v + (c - 48)) cs in cond (is_digit c) more (Some (v, c ∷ cs))

-- "a number of more than 9 digits" is none
abbrev pub number_at : List ℕ → FieldTaken
number_at [] = None
number_at (c ∷ cs) = cond (is_digit c) (digits_after 8 (c - 48) cs) None

-- "Words stand one space apart": one blank, then a number
abbrev pub field_at : List ℕ → FieldTaken
field_at [] = None
field_at (c ∷ cs) = cond (eqb c 32) (number_at cs) None

-- the number that stands at a place of the line, and what follows it
abbrev pub Takes : List ℕ → ℕ → Option (ℕ × ℕ) → Type 0
Takes line at (Some (v, next)) = (next ≤ length line) × (field_at (drop at line) ≡ Some (v, drop next line))
Takes line at None = field_at (drop at line) ≡ None
