-- The two numbers that are stored make the head the answer's.
use Rattle.std.proofs.Common.{refl, []}
use Rattle.board.proofs.Pooling.{chain_changes}
use Rattle.board.proofs.release.Goals as goal

pub returns : goal.returns
returns c =
    let did = c.release-released.ensures in
    rw (chain_changes refl (did.by_index [] [] []) did.fresh_value) did.by_index
