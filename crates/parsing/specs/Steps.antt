-- What the steps of reading a line promise each other.
use Rattle.std.specs.Prelude.{ℕ, Option, option_map}
use Rattle.requests.specs.declared.Request.{Request}
use Rattle.parsing.specs.Grammar.{Line}

-- the line that ends in two numbers, or a bad one
abbrev pub paired : (ℕ → ℕ → Request) → Option (ℕ × ℕ) → Line
paired make r = option_map (λ t. (make t.0 t.1, 0)) r
