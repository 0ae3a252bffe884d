-- The page of the address lies in its space, and its place in the table.
use mathlib.Core.Path.{ap, ◌∙◌}
use Prim.Native.Nat.{◌<◌}
use native.Mathlib.Omega.{arith}
use Rattle.machine.specs.Machine.{places, place_of}
use Rattle.machine.proofs.Laws.Sizes.{fit, page_below, place_below}
use Rattle.memory.specs.Memory.{at, sizes_of}
use Rattle.spans.proofs.frame_at.Goals as goal
use Rattle.spans.proofs.frame_at.Goals.{After-page_of-page, After-place-p}

in_space : (c : After-page_of-page) → c.page_of-page.result < c.args.h.pages
in_space c = omega (arith, c.page_of-page.ensures, page_below _ c.args.x (fit _ c.requires.0) c.requires.1.inside)

in_space_later : (c : After-place-p) → c.page_of-page.result < c.args.h.pages
in_space_later c = omega (arith, c.page_of-page.ensures, page_below _ c.args.x (fit _ c.requires.0) c.requires.1.inside)

low : (c : After-place-p) → c.place-p.result < places (sizes_of c.args.h)
low c =
    omega (arith, c.place-p.ensures, place_below (sizes_of c.args.h) c.args.space c.page_of-page.result c.requires.1.space (in_space_later c))

pub page_of-page-requires : goal.page_of-page-requires
page_of-page-requires c = c.requires.0

pub overflow_cast-page : goal.overflow_cast-page
overflow_cast-page c = omega (arith, in_space (goal.at.overflow_cast-page c).After-page_of-page, (fit _ c.requires.0).few_pages)

pub place-p-requires : goal.place-p-requires
place-p-requires c = (c.requires.0, c.requires.1.space, in_space (goal.at.place-p-requires c).After-page_of-page)

pub offset_bounds-table-p : goal.offset_bounds-table-p
offset_bounds-table-p c = omega (arith, low (goal.at.offset_bounds-table-p c).After-place-p, (fit _ c.requires.0).few_places)

pub bounds-table-p : goal.bounds-table-p
bounds-table-p c = omega (arith, low (goal.at.bounds-table-p c).After-place-p, c.requires.2)

pub returns : goal.returns
returns c =
    ap (at c.args.table.now) (c.place-p.ensures ∙ ap (place_of (sizes_of c.args.h) c.args.space) c.page_of-page.ensures)
