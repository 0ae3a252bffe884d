-- A put in the highest layer meets the contract: its only word changes.
use Rattle.std.proofs.Common.{◌∙◌}
use Rattle.index.proofs.Putting.{first_asked, front_is}
use Rattle.index.proofs.whole.TopLayers.put.Goals as goal

pub put_first-requires : goal.put_first-requires
put_first-requires c = first_asked c.requires

pub returns : goal.returns
returns c = c.put_first.ensures ∙ front_is _ _ _ _
