-- Five numbers of a list as a call, and the answer to five that are none.
use Rattle.std.specs.Prelude.{List, [], ◌∷◌, ℕ, ◌+◌, ◌*◌, get_or, Option}
use Rattle.decoding.specs.declared.Code.{Code}
use Rattle.decoding.specs.Calls.{decoded}

-- code number j of a list
abbrev pub code_at : List ℕ → ℕ → ℕ → ℕ → Option Code
code_at codes whole_bytes whole_records j =
    decoded (get_or codes (5 * j) 0) (get_or codes (5 * j + 1) 0) (get_or codes (5 * j + 2) 0) (get_or codes (5 * j + 3) 0) (get_or codes (5 * j + 4) 0)
    whole_bytes whole_records

-- ---- an answer: three numbers, as `encoded` of crate requests has them

-- where the five numbers are no call
abbrev pub unreadable : List ℕ
unreadable = 0 ∷ 0 ∷ 0 ∷ []
