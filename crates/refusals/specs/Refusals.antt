-- The numbers of refusals, and an answer that a check may refuse.
use Rattle.std.specs.Prelude.{ℕ, zero, suc, ◌-◌, [], ◌∷◌, get_or, Result, Ok, Err}
use Rattle.refusals.specs.declared.Refusal.{Refusal}
use Rattle.refusals.specs.declared.Refusal.TheVariants.{BadSizes, NoSpace, NoPage, NoRegion, NoStart, IsStart, InUse, PoolEmpty, Damaged, PageAbsent}
use Rattle.refusals.specs.declared.Refusal.TheVariants.{FewRecords, NoMap, ShortFile}

abbrev pub number : Refusal → ℕ
number BadSizes = 1
number NoSpace = 2
number NoPage = 3
number NoRegion = 4
number NoStart = 5
number IsStart = 6
number InUse = 7
number PoolEmpty = 8
number Damaged = 9
number PageAbsent = 10
number FewRecords = 11
number NoMap = 12
number ShortFile = 13

-- the refusal with a number; past the last one, as of tables that no call left
abbrev pub refused : ℕ → Refusal
refused k =
    get_or
    (BadSizes ∷ NoSpace ∷ NoPage ∷ NoRegion ∷ NoStart ∷ IsStart ∷ InUse ∷ PoolEmpty ∷ Damaged ∷ PageAbsent ∷ FewRecords ∷ NoMap ∷ ShortFile ∷ []) (k - 1)
    Damaged

-- the number of an answer's refusal; 0 for none
abbrev pub refusal : {A : Type 0} → Result A Refusal → ℕ
refusal (Ok a) = 0
refusal (Err e) = number e

-- the answer a, unless a check refuses with this number
abbrev pub answered : {A : Type 0} → ℕ → A → Result A Refusal
answered zero a = Ok a
answered (suc k) a = Err (refused (suc k))
