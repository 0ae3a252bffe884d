-- Records as numbers: a slice of numbers is its first records, then the rest.
use Rattle.std.specs.Prelude.{◌≡◌, refl, List, [], ◌∷◌, ◌++◌, ℕ, zero, suc, ◌+◌, ◌*◌, ◌≤◌, length, drop, Result, Ok, Err}
use Rattle.std.proofs.Common.{ap, arith}
use Rattle.machine.specs.declared.Region.{Region}
use Rattle.machine.specs.Machine.{Answer, regions}
use Rattle.machine.specs.Answers.{says_of}
use Rattle.promise.specs.Filled.{records_in, records_filled}
use Rattle.requests.specs.Codes.{encoded}
use Rattle.requests.specs.Requests.{region_numbers}

pub records_length : (n : ℕ) (ws : List ℕ) → length (records_in n ws) ≡ n
records_length zero ws = refl
records_length (suc n) ws = ap suc (records_length n (drop 3 ws))

pub numbers_length : (rs : List Region) → length (region_numbers rs) ≡ 3 * length rs
numbers_length [] = refl
numbers_length (r ∷ rs) = omega (arith, numbers_length rs)

pub records_numbers : (n : ℕ) (ws : List ℕ) → 3 * n ≤ length ws → region_numbers (records_in n ws) ++ drop (3 * n) ws ≡ ws
records_numbers zero ws h = refl
records_numbers (suc n) [] h = absurd (omega arith)
records_numbers (suc n) (a ∷ []) h = absurd (omega arith)
records_numbers (suc n) (a ∷ b ∷ []) h = absurd (omega arith)
records_numbers (suc n) (a ∷ b ∷ c ∷ ws) h =
    let e : 3 * suc n ≡ suc (suc (suc (3 * n))) = omega arith in
    rw e (ap (λ (xs : List ℕ). a ∷ b ∷ c ∷ xs) (records_numbers n ws (omega arith)))

-- how many records a list tells of is all that its numbers say of them
pub listed_numbers : {E : Type 0} (why : E → Answer) (a : Result ℕ E) (rs : List Region) → length rs ≡ records_filled a
    → encoded (says_of why (λ _. regions (records_in (records_filled a) [])) a) ≡ encoded (says_of why (λ _. regions rs) a)
listed_numbers why (Ok n) rs long = rw (records_length n [], long)
listed_numbers why (Err e) rs long = refl
