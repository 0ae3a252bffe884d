-- The two tests are the two sides of `between`.
use borrow.Author.Tests.{lt-leb, le-leb}
use Rattle.checks.proofs.within.Goals as goal

pub returns-then-n-least : goal.returns-then-n-least
returns-then-n-least c = rw (lt-leb _ _ c.if-n-least.true)

pub returns : goal.returns
returns c = rw (le-leb _ _ c.if-n-least.false)
