-- A call of a sequence that passed the checks and was lent the RAM was lent room enough in it.
use Rattle.std.specs.Prelude.{◌≡◌, List, ◌≤◌, length}
use Rattle.std.proofs.Common.{ap, ◌∙◌, subst, arith}
use Rattle.machine.specs.Machine.{Sizes, State, asked, after}
use Rattle.machine.proofs.Laws.Calls.{RoomFor, begun_done}
use Rattle.machine.proofs.Laws.Hidden.{AllRoom, AllBare}
use Rattle.memory.specs.Memory.{Memory}
use Rattle.promise.specs.Holds.{Holds}
use Rattle.demands.specs.History.{Event, played, calls, Step, lent_front, lent_short, Run, none, next}
use Rattle.demands.specs.Demands.{BeginBare}
use Rattle.demands.proofs.Laws.Lent.{asked_long}
use Rattle.demands.proofs.Laws.Step.{told, step_follows}

pub step_room : (m : State) (k : Memory) (e : Event) (k' : Memory) → Holds m k → Step k e k' → RoomFor m (played e)
step_room m k e k' H (lent_front f) passes lent =
    let t = told k e k' f in
    let part : e.lent.ram ≤ length k.ram = rw lent at t.parts.ram in
    omega (arith, (asked_long m.sizes (played e) e.lent t.carries passes).ram lent, part, ap length H.ram_is)
step_room m k e k' H (lent_short f) passes lent =
    absurd (omega (arith, passes, subst (λ (z : Sizes). asked z (played e) ≡ 1) H.sizes_are f.short))

-- no page is resident in the states that are begun, by the answers that were given
pub run_bare : {k k' : Memory} {es : List Event} (m : State) → Holds m k → Run k es k' → BeginBare es → AllBare m (calls es)
unfolding AllBare BeginBare
run_bare m H none b = tt
run_bare m H (next {k = k} {k₁ = k₁} {e = e} s r) b =
    let f = step_follows m k e k₁ H s in
    (λ t is n. b.0 t is (f.answer_is ∙ begun_done m t (played e) is n), run_bare (after m (played e)) f.holds r b.1)

pub run_rooms : {k k' : Memory} {es : List Event} (m : State) → Holds m k → Run k es k' → AllRoom m (calls es)
unfolding AllRoom
run_rooms m H none = tt
run_rooms m H (next {k = k} {k₁ = k₁} {e = e} s r) =
    (step_room m k e k₁ H s, run_rooms (after m (played e)) (step_follows m k e k₁ H s).holds r)
