-- A look's answer that `let .. else` turned away, with the number that `absence` has for it.
use Rattle.std.specs.Prelude.{◌≡◌, refl, ℕ, Result, Ok, Err}
use Rattle.machine.specs.declared.Looked.{Looked}
use Rattle.machine.specs.declared.Looked.TheVariants.{Resident, Absent}
use Rattle.machine.specs.declared.RefusedAfter.{RefusedAfter}
use Rattle.spans.specs.Spans.{absence_of}
use Rattle.laws.specs.Found.{RefusedAs}

-- since it isn't a frame
pub refused_as : (found : Result Looked RefusedAfter) (n : ℕ) → n ≡ absence_of found → ((f : ℕ) → found ≡ Ok (Resident f) → ⊥) → RefusedAs found n
refused_as (Ok (Resident f)) n e t = absurd (t f refl)
refused_as (Ok (Absent w)) n e t = e
refused_as (Err x) n e t = e
