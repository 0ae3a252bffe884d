-- The last page less the first, and one.
use native.Mathlib.Omega.{arith}
use Rattle.spans.specs.Shifted.{space_small, page_low, pages_are}
use Rattle.spans.proofs.pages.Goals as goal

pub returns-then-n-eq0 : goal.returns-then-n-eq0
returns-then-n-eq0 c = rw c.if-n-eq0.true

pub overflow_add-address : goal.overflow_add-address
overflow_add-address c = omega (arith, space_small c.args.h c.requires.0, c.requires.1)

pub page_of-requires : goal.page_of-requires
page_of-requires c = c.requires.0

pub page_of-requires-2 : goal.page_of-requires-2
page_of-requires-2 c = c.requires.0

pub overflow_sub-result : goal.overflow_sub-result
overflow_sub-result c =
    (pages_are c.args.h c.requires.0 c.args.address
    c.args.n _ _ c.if-n-eq0.false c.page_of.ensures c.page_of-2.ensures).0

pub overflow_add-result : goal.overflow_add-result
overflow_add-result c = omega (
  arith,
  page_low c.args.h c.requires.0 c.args.address
      c.args.n _ c.page_of.ensures c.requires.1,
)

pub returns : goal.returns
returns c =
    (pages_are c.args.h c.requires.0 c.args.address
    c.args.n _ _ c.if-n-eq0.false c.page_of.ensures c.page_of-2.ensures).1
