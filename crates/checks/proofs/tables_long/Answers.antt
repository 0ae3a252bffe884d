-- Each test is one part of `tables_long`.
use borrow.Author.Tests.{lt-leb, le-leb}
use Rattle.checks.specs.Lengths.{tables_long}
use Rattle.checks.proofs.tables_long.Goals as goal

pub returns-then-l-t : goal.returns-then-l-t
unfolding tables_long
returns-then-l-t c = rw (lt-leb _ _ c.if-l-t.true)

pub returns-then-l-t-2 : goal.returns-then-l-t-2
unfolding tables_long
returns-then-l-t-2 c = rw (le-leb _ _ c.if-l-t.false, lt-leb _ _ c.if-l-t-2.true)

pub returns-then-l-t-3 : goal.returns-then-l-t-3
unfolding tables_long
returns-then-l-t-3 c = rw (le-leb _ _ c.if-l-t.false, le-leb _ _ c.if-l-t-2.false, lt-leb _ _ c.if-l-t-3.true)

pub returns-then-l-t-4 : goal.returns-then-l-t-4
unfolding tables_long
returns-then-l-t-4 c = rw (
  le-leb _ _ c.if-l-t.false,
  le-leb _ _ c.if-l-t-2.false,
  le-leb _ _ c.if-l-t-3.false,
  lt-leb _ _ c.if-l-t-4.true,
)

pub returns : goal.returns
unfolding tables_long
returns c = rw (
  le-leb _ _ c.if-l-t.false,
  le-leb _ _
      c.if-l-t-2.false,
  le-leb _ _ c.if-l-t-3.false,
  le-leb _ _ c.if-l-t-4.false,
)
