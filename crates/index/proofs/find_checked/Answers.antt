-- `index::find_checked` meets its contract: one, two or three layers, by the number of places.
use Rattle.places.specs.Laws.{layers_one, layers_two, layers_three}
use Rattle.index.proofs.Sought.{whole_asked, whole_sought}
use Rattle.index.proofs.find_checked.Goals as goal

pub find-requires : goal.find-requires
find-requires c = search (whole_asked, layers_three)

pub returns-then-places-gt4096 : goal.returns-then-places-gt4096
returns-then-places-gt4096 c = search (whole_sought, layers_three)

pub find-requires-then-places-gt64 : goal.find-requires-then-places-gt64
find-requires-then-places-gt64 c = search (whole_asked, layers_two)

pub returns-then-places-gt64 : goal.returns-then-places-gt64
returns-then-places-gt64 c = search (whole_sought, layers_two)

pub find-requires-else-places-gt64 : goal.find-requires-else-places-gt64
find-requires-else-places-gt64 c = search (whole_asked, layers_one)

pub returns-else-places-gt64 : goal.returns-else-places-gt64
returns-else-places-gt64 c = search (whole_sought, layers_one)
