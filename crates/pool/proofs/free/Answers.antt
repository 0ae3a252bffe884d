-- Each test is one part of `count_says`.
use Rattle.std.proofs.Common.{rules}
use Rattle.pool.proofs.Counting.{not_started, too_many, too_fresh, counted}
use Rattle.pool.proofs.free.Goals as goal

pub returns-then-not-sizes_ok : goal.returns-then-not-sizes_ok
returns-then-not-sizes_ok c = not_started _ (search rules)

pub returns-then-head : goal.returns-then-head
returns-then-head c = too_many _ (search rules) c.if-head.true

pub returns-then-head-2 : goal.returns-then-head-2
returns-then-head-2 c = too_fresh _ (search rules) c.if-head.false c.if-head-2.true

pub returns : goal.returns
returns c = counted _ (search rules) c.if-head.false c.if-head-2.false
