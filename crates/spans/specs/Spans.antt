-- The refusal in a look's answer.
use Rattle.std.specs.Prelude.{◌≡◌, ℕ, Result, Ok, Err, IsErrAnd}
use Rattle.machine.specs.declared.Looked.{Looked}
use Rattle.machine.specs.declared.Looked.TheVariants.{Resident, Absent}
use Rattle.machine.specs.declared.RefusedAfter.{RefusedAfter}
use Rattle.refusals.specs.Refusals.{number}
use Rattle.refusals.specs.declared.Refusal.{Refusal}
use Rattle.refusals.specs.declared.Refusal.TheVariants.{PageAbsent}

-- the frame of a page that was looked up, or why its bytes can't be reached
abbrev pub frame_seen : Result Looked RefusedAfter → Result ℕ Refusal
frame_seen (Ok (Resident f)) = Ok f
frame_seen (Ok (Absent w)) = Err PageAbsent
frame_seen (Err e) = Err e.refusal

abbrev pub absence_of : Result Looked RefusedAfter → ℕ
absence_of (Ok (Resident f)) = 0
absence_of (Ok (Absent w)) = 10
absence_of (Err e) = number e.refusal

-- nothing is in the way of a resident page's bytes; an absent one is refused as PageAbsent, by whatever tells of it; a look's refusal stays as it is
abbrev pub Absence : {R : Type 0} → (Refusal → R → Type 0) → Result Looked R → Result (Unit {0}) R → Type 0
Absence Tells (Ok (Resident f)) r = r ≡ Ok tt
Absence Tells (Ok (Absent w)) r = IsErrAnd r (Tells PageAbsent)
Absence Tells (Err e) r = r ≡ Err e
