-- A find in a layer meets the contract, where those in the layers above it do.
use Rattle.std.proofs.Common.{sym, ◌∙◌}
use Rattle.index.proofs.Finding.{layer_fits, layer_length, seek_asked, missed, found_here, above_asked, down_asked, found_none, found_down}
use Rattle.index.proofs.whole.UnderLayers.find.Goals as goal

pub slice_bounds-low-end : goal.slice_bounds-low-end
slice_bounds-low-end g c = layer_length (rw (← c.words_for-words.ensures) at c.requires)

pub seek-here-requires : goal.seek-here-requires
seek-here-requires g c = seek_asked (rw (← c.words_for-words.ensures) at c.requires)

pub returns-then-is_some : goal.returns-then-is_some
returns-then-is_some g c =
    let a = rw (← c.words_for-words.ensures) at c.requires in
    rw (← c.words_for-words.ensures) (found_here a (sym c.is_some.ensures ∙ c.if-is_some.true) c.seek-here.ensures)

pub slice_bounds-find-count : goal.slice_bounds-find-count
slice_bounds-find-count g c = layer_fits (rw (← c.words_for-words.ensures) at c.requires)

pub slice_bounds-find-start : goal.slice_bounds-find-start
slice_bounds-find-start g c = let a = rw (← c.words_for-words.ensures) at c.requires in search layer_fits

pub find-above-requires : goal.find-above-requires
find-above-requires g c =
    let a = rw (← c.words_for-words.ensures) at c.requires in
    above_asked a (missed (sym c.is_some.ensures ∙ c.if-is_some.false) c.seek-here.ensures)

pub returns-in_default : goal.returns-in_default
returns-in_default g c =
    let a = rw (← c.words_for-words.ensures) at c.requires in
    let miss = missed (sym c.is_some.ensures ∙ c.if-is_some.false) c.seek-here.ensures in
    rw (← c.words_for-words.ensures) (search (found_none, miss))

pub seek-requires : goal.seek-requires
seek-requires g c =
    let a = rw (← c.words_for-words.ensures) at c.requires in
    down_asked a (missed (sym c.is_some.ensures ∙ c.if-is_some.false) c.seek-here.ensures) c.find-above.ensures c.in-Some.is

pub returns : goal.returns
returns g c =
    let a = rw (← c.words_for-words.ensures) at c.requires in
    let miss = missed (sym c.is_some.ensures ∙ c.if-is_some.false) c.seek-here.ensures in
    rw (← c.words_for-words.ensures) (found_down a miss c.find-above.ensures c.in-Some.is c.seek.ensures)
