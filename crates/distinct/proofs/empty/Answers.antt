use Rattle.distinct.proofs.Seeing.{emptied}
use Rattle.distinct.proofs.empty.Goals as goal

pub returns : goal.returns
returns c = emptied c.requires.0 c.requires.1 c.requires.2 c.prepare.ensures
