-- A line by the name at its front: what a test for a word says of it, and which call it is.
use mathlib.Core.Path.{sym, ap, ◌∙◌}
use Rattle.std.specs.Prelude.{◌≡◌, refl, Bool, true, false, List, ◌++◌, ℕ, ◌≤◌, length, drop, Some}
use Rattle.std.proofs.lemmas.Bool.Decides.{Decides-eqb}
use Rattle.std.proofs.lemmas.Slice.Eq.{starts_is}
use Rattle.machine.specs.declared.PageCall.{PageCall}
use Rattle.fields.specs.Fields.{begins}
use Rattle.fields.specs.Laws.{begins_long}
use Rattle.requests.specs.declared.Request.TheVariants.{Page, Translate}
use Rattle.parsing.specs.Grammar.{Line, start_line, pair_line, free_line, read_line, write_line, list_line, map_line, page_named, parsed}
use Rattle.parsing.specs.Grammar.{start_word, free_word, translate_word, read_word, write_word, list_word, map_word}

front : (word line : List ℕ) → begins word line ≡ true → line ≡ word ++ drop (length word) line
unfolding begins
front word line h = (starts_is Decides-eqb line word _ refl).0 h

-- what a test for a word says of the line
module _ {named : Bool} (word line : List ℕ) (e : named ≡ begins word line) where
  pub named_long : named ≡ true → length word ≤ length line
  named_long h = begins_long word line (sym e ∙ h)

  pub named_parsed : named ≡ true → {l : Line} → parsed (word ++ drop (length word) line) ≡ l → parsed line ≡ l
  named_parsed h p = ap parsed (front word line (sym e ∙ h)) ∙ p

  pub not_named : named ≡ false → begins word line ≡ false
  not_named h = sym e ∙ h

pub page_is : (line : List ℕ) {p : PageCall} {n : ℕ} → begins start_word line ≡ false → page_named line ≡ Some (p, n)
    → parsed line ≡ pair_line (λ i b. Page p i b) (drop n line)
unfolding parsed
page_is line s e = rw (s, e)

-- no name begins another
module _ (rest : List ℕ) where
  pub start_is : parsed (start_word ++ rest) ≡ start_line rest
  unfolding begins parsed
  start_is = refl

  pub free_is : parsed (free_word ++ rest) ≡ free_line rest
  unfolding begins parsed
  free_is = refl

  pub translate_is : parsed (translate_word ++ rest) ≡ pair_line (λ i x. Translate i x) rest
  unfolding begins parsed
  translate_is = refl

  pub read_is : parsed (read_word ++ rest) ≡ read_line rest
  unfolding begins parsed
  read_is = refl

  pub write_is : parsed (write_word ++ rest) ≡ write_line rest
  unfolding begins parsed
  write_is = refl

  pub list_is : parsed (list_word ++ rest) ≡ list_line rest
  unfolding begins parsed
  list_is = refl

  pub map_is : parsed (map_word ++ rest) ≡ map_line rest
  unfolding begins parsed
  map_is = refl
