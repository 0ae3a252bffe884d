-- The frames from `frame` on are still to be stored.
use Rattle.std.specs.Prelude.{◌+◌, ◌-◌}
use Rattle.promise.specs.Holds.{unused}
use Rattle.saving.specs.Storing.{Storing}
use Rattle.saving.proofs.put_unused.Given as goal

abbrev pub invariant-loop-frame : goal.invariant-loop-frame
invariant-loop-frame l =
    Storing l.initial.file l.word (unused l.fresh l.frames) l.file (l.word + (l.frame - l.fresh)) (unused l.frame l.frames)
