-- What a file that keeps the rules gives to the walks over its bodies.
use Rattle.std.specs.Prelude.{◌≡◌, refl, true, List, ℕ, ◌*◌, ◌/◌, ◌%◌, ◌≤◌, eqb, length, get_or}
use Rattle.std.proofs.Common.{sym, ◌∙◌, arith}
use Rattle.std.proofs.lemmas.Bool.{false≢true}
use Rattle.std.proofs.Math.Decide.{dec_le}
use Rattle.words.specs.Words.{words_in}
use Rattle.words.specs.Laws.{length_words}
use Rattle.machine.specs.Map.{first_body, file_words, sizes_in}
use Rattle.machine.specs.MapRules.{parts_in, same, rules_ok, file_ok}
use Rattle.machine.proofs.Laws.Sizes.{both}
use Rattle.machine.proofs.Laws.Map.Rules.{is_same, each_bodies, rules_of}
use Rattle.walking.specs.Rows.{Bodied}
use Rattle.bodies.specs.Laws.{fine_bodied}
use Rattle.judging.specs.Contents.{rows_tile, counts_from}
use Rattle.judging.specs.Tiles.{tiles_rowed}
use Rattle.judging.specs.Same.{same_short, same_rows}

words_there : (file : List ℕ) (n : ℕ) → n ≤ length (words_in file) → 4 * n ≤ length file
words_there file n h = omega (arith, length_words (length file / 4) file refl)

-- what the reader that fills tables asks
pub rules_bodied : (file : List ℕ) → rules_ok (words_in file) ≡ true → Bodied (length file) (words_in file) (sizes_in (words_in file)).spaces
rules_bodied file h = elim (dec_le (first_body (get_or (words_in file) 0 0)) (length (words_in file))) [
  | yes long ↦
      let ws = words_in file in
      let s = get_or ws 0 0 in
      let tile = (both (rows_tile ws s) (counts_from ws 0 s) (sym (same_rows ws long) ∙ contents)).0 in
      let rowed = tiles_rowed file s (words_there file (first_body s) long) tile in
      fine_bodied (get_or ws 1 0) rowed (each_bodies (get_or ws 1 0) ws 0 s (λ i low high. (rules_of ws h).bodies i (omega arith)))
  | no short ↦ absurd (false≢true (sym (same_short (words_in file) (omega arith)) ∙ contents))
]
  where
    contents : same (file_words (sizes_in (words_in file)) (parts_in (words_in file))) (words_in file) ≡ true
    contents = is_same (file_words (sizes_in (words_in file)) (parts_in (words_in file))) (words_in file) (rules_of (words_in file) h).contents

pub file_bodied : (file : List ℕ) → file_ok file ≡ true → Bodied (length file) (words_in file) (sizes_in (words_in file)).spaces
file_bodied file h = rules_bodied file (both (eqb (length file % 4) 0) (rules_ok (words_in file)) h).1
