-- A refusal is its number and no other's.
use Rattle.std.specs.Prelude.{◌≡◌, refl, ℕ, ◌<◌, ◌≤◌, Ok, Err}
use Rattle.std.proofs.Common.{arith}
use Rattle.refusals.specs.declared.Refusal.{Refusal}
use Rattle.refusals.specs.declared.Refusal.TheVariants.{BadSizes, NoSpace, NoPage, NoRegion, NoStart, IsStart, InUse, PoolEmpty, Damaged, PageAbsent}
use Rattle.refusals.specs.declared.Refusal.TheVariants.{FewRecords, NoMap, ShortFile}
use Rattle.refusals.specs.Refusals.{number, refused, answered}

pub refused_number : (e : Refusal) → refused (number e) ≡ e
refused_number BadSizes = refl
refused_number NoSpace = refl
refused_number NoPage = refl
refused_number NoRegion = refl
refused_number NoStart = refl
refused_number IsStart = refl
refused_number InUse = refl
refused_number PoolEmpty = refl
refused_number Damaged = refl
refused_number PageAbsent = refl
refused_number FewRecords = refl
refused_number NoMap = refl
refused_number ShortFile = refl

pub some_number : (e : Refusal) → (0 < number e) × (number e ≤ 13)
some_number BadSizes = (omega arith, omega arith)
some_number NoSpace = (omega arith, omega arith)
some_number NoPage = (omega arith, omega arith)
some_number NoRegion = (omega arith, omega arith)
some_number NoStart = (omega arith, omega arith)
some_number IsStart = (omega arith, omega arith)
some_number InUse = (omega arith, omega arith)
some_number PoolEmpty = (omega arith, omega arith)
some_number Damaged = (omega arith, omega arith)
some_number PageAbsent = (omega arith, omega arith)
some_number FewRecords = (omega arith, omega arith)
some_number NoMap = (omega arith, omega arith)
some_number ShortFile = (omega arith, omega arith)

pub not_none : (e : Refusal) → number e ≡ 0 → ⊥
not_none e is = omega (arith, some_number e)

module _ {A : Type 0} (a : A) where
  pub answered_ok : {k : ℕ} → ◌≡◌ {A = ℕ} 0 k → Ok a ≡ answered k a
  answered_ok {k} is = rw (← is)

  pub answered_err : (e : Refusal) {k : ℕ} → number e ≡ k → Err e ≡ answered k a
  answered_err BadSizes {k} is = rw (← is)
  answered_err NoSpace {k} is = rw (← is)
  answered_err NoPage {k} is = rw (← is)
  answered_err NoRegion {k} is = rw (← is)
  answered_err NoStart {k} is = rw (← is)
  answered_err IsStart {k} is = rw (← is)
  answered_err InUse {k} is = rw (← is)
  answered_err PoolEmpty {k} is = rw (← is)
  answered_err Damaged {k} is = rw (← is)
  answered_err PageAbsent {k} is = rw (← is)
  answered_err FewRecords {k} is = rw (← is)
  answered_err NoMap {k} is = rw (← is)
  answered_err ShortFile {k} is = rw (← is)
