-- The part lent on is all 0, the rest stays.
use Rattle.clearing.proofs.Cleared.{part_cleared}
use Rattle.clearing.proofs.clear.Goals as goal

pub returns : goal.returns
returns c =
    part_cleared c.args.from c.args.to c.args.ram.now _ c.requires.0 c.requires.1 c.fill.ensures
