-- What a touch is to do, on lists.
use Rattle.std.specs.Prelude.{Bool, true, false, ◌&&◌, List, ℕ, zero, suc, ◌+◌, ltb, Result, Ok, Err}
use Rattle.machine.specs.Machine.{places}
use Rattle.memory.specs.Memory.{Memory, at, sizes_of}
use Rattle.memory.specs.declared.Head.{Head}
use Rattle.lookup.specs.declared.Sight as sight
use Rattle.lookup.specs.declared.Sight.TheVariants as sight_is
use Rattle.pool.specs.Models.{empty_pool, next_ok}
use Rattle.machine.specs.declared.RefusedAfter.{RefusedAfter}
use Rattle.refusals.specs.declared.Refusal.{Refusal}
use Rattle.refusals.specs.declared.Refusal.TheVariants.{NoRegion, PoolEmpty, Damaged}
use Rattle.planning.specs.declared.Plan as plan
use Rattle.planning.specs.declared.Plan.TheVariants as plan_is

-- the newest entry of a region of n pages is a place; there is none where n is 0
abbrev pub top_ok : List ℕ → ℕ → ℕ → ℕ → Bool
top_ok stack t a zero = true
top_ok stack t a (suc n) = ltb (at stack (a + n)) t

-- the words that a new page of the region at a needs are where they may be
unfoldable pub fit_ok : Head → List ℕ → List ℕ → ℕ → ℕ → Bool
fit_ok h count stack t a =
    ltb (a + at count a) t && top_ok stack t a (at count a) && next_ok h.frames h.first h.many

-- no plan, after so many index words
abbrev pub none_after : Refusal → ℕ → Result plan.Plan RefusedAfter
none_after e c = Err (record { refusal = e; words = c })

abbrev pub plan_if : Bool → Bool → ℕ → ℕ → Result plan.Plan RefusedAfter
plan_if true fits a c = none_after PoolEmpty c
plan_if false true a c = Ok (plan_is.New a c)
plan_if false false a c = none_after Damaged c

abbrev pub plan_for : Head → List ℕ → List ℕ → ℕ → sight.Sight → Result plan.Plan RefusedAfter
plan_for h count stack t (sight_is.Mapped f) = Ok (plan_is.Old f)
plan_for h count stack t (sight_is.Unmapped a c) = plan_if (empty_pool h) (fit_ok h count stack t a) a c
plan_for h count stack t (sight_is.Outside c) = none_after NoRegion c
plan_for h count stack t sight_is.Broken = none_after Damaged 0

-- in a memory
abbrev pub plan_of : Memory → sight.Sight → Result plan.Plan RefusedAfter
plan_of k s = plan_for k.head k.count k.stack (places (sizes_of k.head)) s
