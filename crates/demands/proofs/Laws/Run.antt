-- A sequence of calls: every answer is the machine's, and the memory stands for the machine all along.
use Rattle.std.specs.Prelude.{◌≡◌, refl, List, [], ◌∷◌, ◌++◌, map, ℕ, zero, suc}
use Rattle.std.proofs.Common.{ap, ap₂, ◌∙◌}
use Rattle.std.proofs.lemmas.Bool.{false≢true}
use Rattle.machine.specs.Machine.{Sizes, State, Call, facts, Kind, refusal_of, done, with_ram, answers, after, after_all}
use Rattle.machine.specs.Claims.{is_refused}
use Rattle.machine.proofs.Laws.Calls.{is_refusal}
use Rattle.memory.specs.Memory.{Memory}
use Rattle.promise.specs.Holds.{Holds}
use Rattle.promise.specs.Did.{Exactly}
use Rattle.demands.specs.History.{Event, played, calls, Run, none, next, Beginning}
use Rattle.demands.specs.Demands.{Sequence}
use Rattle.demands.proofs.Laws.Step.{told, begun_holds, step_follows}

pub record Followed (m : State) (es : List Event) (k' : Memory) : Type 0 where
  pub answers_are : map (λ (e : Event). e.answer) es ≡ answers m (calls es)
  pub holds : Holds (after_all m (calls es)) k'

pub run_follows : {k k' : Memory} {es : List Event} (m : State) → Holds m k → Run k es k' → Followed m es k'
unfolding answers after_all
run_follows m H none = record { answers_are = refl; holds = H }
run_follows m H (next {k = k} {k₁ = k₁} {e = e} s r) =
    let f = step_follows m k e k₁ H s in
    let rest = run_follows (after m (played e)) f.holds r in
    record { answers_are = ap₂ ◌∷◌ f.answer_is rest.answers_are; holds = rest.holds }

-- a sequence cut in two
pub run_split : {k k' : Memory} (xs ys : List Event) → Run k (xs ++ ys) k' → (k₁ : Memory) × Run k xs k₁ × Run k₁ ys k'
run_split {k} [] ys r = (k, none, r)
run_split (x ∷ xs) ys (next s r) = let (k₁, before, later) = run_split xs ys r in (k₁, next s before, later)

pub accepted_asks : (j : ℕ) (z : Sizes) (c : Call) → Exactly j z c done → j ≡ 0
accepted_asks zero z c e = refl
accepted_asks (suc j) z c e = absurd (no_refusal (facts c).kind (suc j) e)
  where
    no_refusal : (d : Kind) (n : ℕ) → done ≡ refusal_of d n → ⊥
    no_refusal d n e = false≢true (ap is_refused e ∙ is_refusal d n)

-- an accepted beginning, on memory that held anything
pub begins_holding : (m : State) (k k' : Memory) → Beginning m k k' → Holds (with_ram m k.ram) k'
begins_holding m k k' b =
    let t = told k b.first k' b.step in
    rw b.step.after_is
    (begun_holds k b.first.lent b.first.answer _ m (played b.first) b.begins
    (accepted_asks _ _ (played b.first) (rw b.accepted at t.asks)) t).1

pub sequence_follows : (m : State) (k k' : Memory) (es : List Event) → Sequence m k es k' → Followed (with_ram m k.ram) es k'
sequence_follows m k k' es q = run_follows (with_ram m k.ram) (begins_holding m k q.started q.beginning) q.run
