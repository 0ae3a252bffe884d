-- Frames linked one behind another, on lists.
use Rattle.std.specs.Prelude.{List, [], ◌∷◌, ℕ, set}

-- the links after the frames of a list are linked behind the frame `last`
unfoldable pub laid : List ℕ → ℕ → List ℕ → List ℕ
laid link last [] = link
laid link last (x ∷ xs) = laid (set link last x) x xs

unfoldable pub last_of : ℕ → List ℕ → ℕ
last_of last [] = last
last_of last (x ∷ xs) = last_of x xs
