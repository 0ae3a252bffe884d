-- With bytes there is a blank before them.
use Rattle.std.proofs.Common.{◌≡◌, ℕ, false, List, [], ◌∷◌, ◌++◌, length, refl}
use Rattle.std.specs.Bool.{◌==◌}
use Rattle.digits.specs.Text.{hex_text, blank}
use Rattle.digits.specs.Laws.{added_more}
use Rattle.texts.specs.Text.{bytes_text}
use Rattle.texts.proofs.put_bytes.Goals as goal

bytes_some : (bs : List ℕ) → false ≡ (length bs == 0) → bytes_text bs ≡ blank ++ hex_text bs
bytes_some [] e = cc
bytes_some (b ∷ bs) e = refl

pub returns : goal.returns
returns c = rw (bytes_some _ c.if-is_empty.ensures) (added_more c.put-2.ensures c.put_hex.ensures)
