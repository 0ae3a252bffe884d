-- The three numbers that are stored make the head the answer's.
use Rattle.std.proofs.Common.{refl}
use Rattle.board.proofs.Pooling.{pool_changes}
use Rattle.board.proofs.write.Goals as goal

pub returns : goal.returns
returns c = rw (pool_changes refl c.write-written.ensures) c.write-written.ensures
