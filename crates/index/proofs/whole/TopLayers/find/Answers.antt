-- A find in the highest layer meets the contract: its seek is the find.
use Rattle.index.proofs.Finding.{layer_length, seek_asked, found_only}
use Rattle.index.proofs.whole.TopLayers.find.Goals as goal

pub slice_bounds-seek-end : goal.slice_bounds-seek-end
slice_bounds-seek-end c = rw c.words_for.ensures (layer_length c.requires)

pub seek-requires : goal.seek-requires
seek-requires c = rw c.words_for.ensures (seek_asked c.requires)

pub returns : goal.returns
returns c = found_only c.requires (rw c.words_for.ensures at c.seek.ensures)
