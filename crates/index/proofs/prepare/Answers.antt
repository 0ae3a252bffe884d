-- `index::prepare` meets its contract: the words of the index are cleared.
use Rattle.index.proofs.Promised.{prepare_done}
use Rattle.index.proofs.prepare.Goals as goal

pub returns : goal.returns
returns c = prepare_done _ _ c.in_ok-check_size.ensures _ _ c.size.ensures.0 c.zero.ensures
