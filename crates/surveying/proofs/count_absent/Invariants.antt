-- So many of the pages before `page` are absent, and no more than there are.
use Prim.Native.Nat.{◌-◌, ◌≤◌}
use Rattle.surveying.specs.Surveys.{Counted}
use Rattle.surveying.proofs.count_absent.Given as goal

abbrev pub invariant-loop-page : goal.invariant-loop-page
invariant-loop-page l =
    (l.absent ≤ l.page - l.first) × Counted l.head l.space l.first l.page l.count l.table l.helper l.stack l.cache l.absent
