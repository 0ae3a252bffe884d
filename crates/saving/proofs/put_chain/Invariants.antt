-- The frames from f on along the links are still to be stored.
use Rattle.std.specs.Prelude.{◌+◌, ◌-◌}
use Rattle.saving.specs.Saved.{chained}
use Rattle.saving.specs.Storing.{Storing}
use Rattle.saving.proofs.put_chain.Given as goal

abbrev pub invariant-loop-k : goal.invariant-loop-k
invariant-loop-k l = Storing l.initial.file l.word (chained l.link l.first l.n) l.file (l.word + l.k) (chained l.link l.f (l.n - l.k))
