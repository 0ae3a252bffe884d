-- Whole words, contents that are ok, then the rules.
use mathlib.Core.Path.{◌≡◌, sym, ap, ◌∙◌}
use mathlib.Core.Bool.{Bool, ◌&&◌}
use Prim.Native.Nat.{◌%◌}
use borrow.Author.Tests.{eq-eqb}
use lib.Dec.{eqb}
use lib.ListN.{length}
use Rattle.words.specs.Words.{words_in}
use Rattle.machine.specs.MapRules.{rules_ok}
use Rattle.judging.proofs.Judged.{contents_bad}
use Rattle.judging.proofs.inspect.Goals as goal
use Rattle.judging.proofs.inspect.Goals.{Else-bytes-ne0}

-- whole words: the rules are left
rules_left : (c : Else-bytes-ne0) → let file = c.args.bytes.now in rules_ok (words_in file) ≡ eqb (length file % 4) 0 && rules_ok (words_in file)
rules_left c =
    let file = c.args.bytes.now in
    sym (ap (λ (b : Bool). b && rules_ok (words_in file)) (eq-eqb (length file % 4) 0 c.if-bytes-ne0.false))

pub returns-in_default : goal.returns-in_default
returns-in_default c =
    sym (contents_bad c.args.bytes.now (rw c.in_default.is at c.contents_of.ensures)) ∙ rules_left (goal.at.returns-in_default c).Else-bytes-ne0
