-- The linked frames, then those never used.
use Rattle.saving.proofs.Whole.{pool_stored}
use Rattle.saving.proofs.put_pool.Goals as goal

pub returns : goal.returns
returns c =
    pool_stored c.args.head c.args.link.now c.args.file.now c.args.word c.wide.ensures c.requires
    c.put_chain-last.ensures c.put_unused.ensures
