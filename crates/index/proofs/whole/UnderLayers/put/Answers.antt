-- A put in a layer meets the contract, where those in the layers above it do.
use Rattle.std.proofs.Common.{sym, ◌∙◌}
use Rattle.index.proofs.Putting.{word_asked, front_beside, layer_fits, asked_above, put_above}
use Rattle.index.proofs.whole.UnderLayers.put.Goals as goal

pub put-requires : goal.put-requires
put-requires g c = word_asked c.requires

pub slice_bounds-put-count : goal.slice_bounds-put-count
slice_bounds-put-count g c = layer_fits _ _ _ _ _ _ (rw (← c.words_for-words.ensures) at c.requires) c.put.ensures.0

pub slice_bounds-put-start : goal.slice_bounds-put-start
slice_bounds-put-start g c = let a = rw (← c.words_for-words.ensures) at c.requires in search layer_fits

pub put-requires-then-put : goal.put-requires-then-put
put-requires-then-put g c = asked_above _ _ _ _ _ _ c.put.ensures.0 (rw (← c.words_for-words.ensures) at c.requires)

pub returns-then-put : goal.returns-then-put
returns-then-put g c =
    rw (← c.words_for-words.ensures) (put_above _ _ _ _ _ _ c.put.ensures.0 (sym c.put.ensures.1 ∙ c.if-put.true) _ c.put-then-put.ensures)

pub returns-else-put : goal.returns-else-put
returns-else-put g c = c.put.ensures.0 ∙ front_beside _ _ _ _ _ (sym c.put.ensures.1 ∙ c.if-put.false)
