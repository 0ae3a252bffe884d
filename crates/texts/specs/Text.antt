-- The words of answers as text, and the bytes of a read: document 01, "One session whole". Definitions only.
use Rattle.std.specs.Prelude.{List, [], ◌∷◌, ◌++◌, ℕ}
use Rattle.digits.specs.Text.{hex_text, blank}

-- ---- words, with the blanks beside them

-- `ok`
abbrev pub ok_word : List ℕ
ok_word = 111 ∷ 107 ∷ []

-- `bad line`
abbrev pub bad_line : List ℕ
bad_line = 98 ∷ 97 ∷ 100 ∷ 32 ∷ 108 ∷ 105 ∷ 110 ∷ 101 ∷ []

-- `frame `
abbrev pub frame_word : List ℕ
frame_word = 102 ∷ 114 ∷ 97 ∷ 109 ∷ 101 ∷ 32 ∷ []

-- ` old 0`
abbrev pub old_word : List ℕ
old_word = 32 ∷ 111 ∷ 108 ∷ 100 ∷ 32 ∷ 48 ∷ []

-- ` new `
abbrev pub new_word : List ℕ
new_word = 32 ∷ 110 ∷ 101 ∷ 119 ∷ 32 ∷ []

-- `resident `
abbrev pub resident_word : List ℕ
resident_word = 114 ∷ 101 ∷ 115 ∷ 105 ∷ 100 ∷ 101 ∷ 110 ∷ 116 ∷ 32 ∷ []

-- ` 0`
abbrev pub no_words : List ℕ
no_words = 32 ∷ 48 ∷ []

-- `absent `
abbrev pub absent_word : List ℕ
absent_word = 97 ∷ 98 ∷ 115 ∷ 101 ∷ 110 ∷ 116 ∷ 32 ∷ []

-- `pages `
abbrev pub pages_word : List ℕ
pages_word = 112 ∷ 97 ∷ 103 ∷ 101 ∷ 115 ∷ 32 ∷ []

-- `free `
abbrev pub free_word : List ℕ
free_word = 102 ∷ 114 ∷ 101 ∷ 101 ∷ 32 ∷ []

-- `at `
abbrev pub at_word : List ℕ
at_word = 97 ∷ 116 ∷ 32 ∷ []

-- `bytes`
abbrev pub bytes_word : List ℕ
bytes_word = 98 ∷ 121 ∷ 116 ∷ 101 ∷ 115 ∷ []

-- `regions `
abbrev pub regions_word : List ℕ
regions_word = 114 ∷ 101 ∷ 103 ∷ 105 ∷ 111 ∷ 110 ∷ 115 ∷ 32 ∷ []

-- `map `
abbrev pub map_word : List ℕ
map_word = 109 ∷ 97 ∷ 112 ∷ 32 ∷ []

-- `done`
abbrev pub done_word : List ℕ
done_word = 100 ∷ 111 ∷ 110 ∷ 101 ∷ []

-- `no `
abbrev pub no_word : List ℕ
no_word = 110 ∷ 111 ∷ 32 ∷ []

-- ---- bytes after a blank

-- "then the hex after a space if there is any"
abbrev pub bytes_text : List ℕ → List ℕ
bytes_text [] = []
bytes_text (v ∷ vs) = blank ++ hex_text (v ∷ vs)
