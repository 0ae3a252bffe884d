-- A number is new only if it is below the bound and no member yet.
use Rattle.distinct.proofs.Seeing.{saw_inserted}
use Rattle.distinct.proofs.see.Goals as goal

pub returns : goal.returns
returns c = rw c.unwrap_or.ensures (saw_inserted c.requires _ c.insert.ensures)
