-- The line ends here, or not.
use Rattle.std.specs.Prelude.{◌≡◌, Bool, true, false, List, ℕ, ◌≤◌, nat_eq, length, drop, Some}
use Rattle.std.specs.Bool.{then_some}
use Rattle.std.proofs.Common.{◌∙◌, refl, eqb-true}
use Rattle.std.proofs.lemmas.Bool.{eqb-false}
use Rattle.fields.specs.Laws.{end_here, more_here}
use Rattle.parsing.specs.Grammar.{ended}
use Rattle.parsing.proofs.calls.ended.Goals as goal

ends : {A : Type 0} (line : List ℕ) (at : ℕ) (said : A) → at ≤ length line → then_some (nat_eq at (length line)) said ≡ ended (drop at line) (Some said)
ends line at said inside = go (nat_eq at (length line)) refl
  where
    go : (t : Bool) → nat_eq at (length line) ≡ t → then_some t said ≡ ended (drop at line) (Some said)
    go true e = rw (end_here line at (eqb-true at (length line) e))
    go false e = rw (more_here line at inside (eqb-false at (length line) e))

pub returns : goal.returns
returns g c = c.then_some.ensures ∙ ends _ _ _ c.requires
