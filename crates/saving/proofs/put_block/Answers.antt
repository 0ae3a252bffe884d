-- The region's head, then its pages.
use mathlib.Core.Path.{refl}
use Rattle.saving.specs.Storing.{then_stored}
use Rattle.saving.specs.Steps.{block_parts}
use Rattle.saving.proofs.put_block.Goals as goal

pub returns : goal.returns
returns c =
    let a = c.args in
    then_stored (block_parts a.count.now a.table.now a.stack.now a.lo a.a a.next refl c.wide.ensures)
    c.put_words.ensures c.put_entries.ensures
