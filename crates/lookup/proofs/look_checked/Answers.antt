-- What is seen, as an answer.
use Rattle.lookup.proofs.Sights.{look_found}
use Rattle.lookup.proofs.look_checked.Goals as goal

pub returns : goal.returns
returns c =
    look_found _ _ _ _ _ _ _ _ _ c.requires _ _ c.see.ensures
    c.looked.ensures
