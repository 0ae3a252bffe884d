-- What a touch says of a write.
use Rattle.machine.specs.declared.RefusedAfter.{RefusedAfter}
use Rattle.refusals.specs.Refusals.{number}
use Rattle.std.specs.Prelude.{ℕ, Result, Ok, Err}
use Rattle.machine.specs.declared.Touched.{Touched}

-- the number of a touch's refusal, 0 for none
abbrev pub refused_with : Result Touched RefusedAfter → ℕ
refused_with (Ok t) = 0
refused_with (Err e) = number e.refusal
