-- What is left of the page, or of the span.
use native.Mathlib.Omega.{arith}
use Rattle.spans.specs.Shifted.{offset_exact, offset_low}
use Rattle.spans.proofs.part.Goals as goal

pub overflow_sub-whole : goal.overflow_sub-whole
overflow_sub-whole c = omega (arith, c.page_bytes.ensures, offset_low c.args.h c.requires _ _ c.offset.ensures)

pub returns-then-left-whole : goal.returns-then-left-whole
returns-then-left-whole c =
    omega (arith, c.page_bytes.ensures, offset_exact c.args.h c.requires _ _ c.offset.ensures, c.if-left-whole.true)

pub returns : goal.returns
returns c =
    omega (arith, c.page_bytes.ensures, offset_exact c.args.h c.requires _ _ c.offset.ensures, c.if-left-whole.false)
