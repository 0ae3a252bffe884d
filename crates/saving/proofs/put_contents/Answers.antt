-- Sizes, rows, the pool's row.
use Rattle.saving.proofs.Whole.{rows_ask, contents_stored}
use Rattle.saving.proofs.put_contents.Goals as goal

pub put_rows-body-requires : goal.put_rows-body-requires
put_rows-body-requires c =
    rows_ask _ _ _ _ c.wide-spaces.ensures c.wide.ensures c.requires.0 c.requires.1
    c.put_sizes.ensures

pub returns : goal.returns
returns c =
    contents_stored _ _ _ _ c.wide-spaces.ensures c.wide.ensures
    c.requires.0 c.requires.1 c.put_sizes.ensures c.put_rows-body.ensures.stored c.put_rows-body.ensures.value
    c.free_frames-free.ensures.0 c.put_words.ensures
