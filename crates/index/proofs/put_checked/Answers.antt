-- `index::put_checked` meets its contract: one, two or three layers, by the number of places.
use Rattle.places.specs.Laws.{layers_one, layers_two, layers_three}
use Rattle.index.proofs.Putting.{whole_asked}
use Rattle.index.proofs.Promised.{put_layers}
use Rattle.index.proofs.put_checked.Goals as goal

pub put-requires : goal.put-requires
put-requires c = search (whole_asked, layers_three)

pub returns-then-places-gt4096 : goal.returns-then-places-gt4096
returns-then-places-gt4096 c = search (put_layers, layers_three)

pub put-requires-then-places-gt64 : goal.put-requires-then-places-gt64
put-requires-then-places-gt64 c = search (whole_asked, layers_two)

pub returns-then-places-gt64 : goal.returns-then-places-gt64
returns-then-places-gt64 c = search (put_layers, layers_two)

pub put-requires-else-places-gt64 : goal.put-requires-else-places-gt64
put-requires-else-places-gt64 c = search (whole_asked, layers_one)

pub returns-else-places-gt64 : goal.returns-else-places-gt64
returns-else-places-gt64 c = search (put_layers, layers_one)
