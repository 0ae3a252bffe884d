-- A byte stored in a sequence and spared since is what its address shows in the machine.
use Rattle.std.specs.Prelude.{◌≡◌, refl, ℕ}
use Rattle.std.proofs.Common.{sym, ◌∙◌}
use Rattle.std.proofs.Math.Path.{ap, subst}
use mathlib.Core.List.{List, [], ◌∷◌, ◌++◌}
use Rattle.std.proofs.Math.Option.{some}
use Rattle.machine.specs.Machine.{State, write, done, with_ram, answer, after, after_all}
use Rattle.machine.specs.Claims.{Address, shows}
use Rattle.machine.proofs.Laws.Bytes.{written_stays}
use Rattle.memory.specs.Memory.{Memory}
use Rattle.demands.specs.History.{Event, played, calls, Step, Run, next}
use Rattle.demands.specs.Demands.{machine_at, Sequence, StoredAt}
use Rattle.demands.proofs.Laws.Step.{step_follows}
use Rattle.demands.proofs.Laws.Rooms.{step_room}
use Rattle.demands.proofs.Laws.Run.{run_follows, run_split, begins_holding}

first_step : {k k' : Memory} {e : Event} {es : List Event} → Run k (e ∷ es) k' → (k₁ : Memory) × Step k e k₁
first_step (next {k₁ = k₁} s r) = (k₁, s)

after_append : (m : State) (before : List Event) (e : Event) (later : List Event)
    → after_all m (calls (before ++ e ∷ later)) ≡ after_all (after (after_all m (calls before)) (played e)) (calls later)
unfolding after_all
after_append m [] e later = refl
after_append m (x ∷ before) e later = after_append (after m (played x)) before e later

-- the address, and its byte
pub record There (m : State) (i x v : ℕ) : Type 0 where
  pub here : Address m.sizes i x
  pub shown : shows m i x ≡ some v

module _ (n : State) (k k' : Memory) (es : List Event) (q : Sequence n k es k') (i x v : ℕ) (s : StoredAt n k es i x v) where
  wrote_event : Event
  wrote_event = record { call = write i s.from s.values; lent = s.lent; answer = done }

  pub stored_there : There (machine_at n k es) i x v
  unfolding wrote_event
  stored_there =
      let m = machine_at n k s.before in
      let (k₁, before, later) = run_split s.before (wrote_event ∷ s.later)
      (subst (λ (xs : List Event). Run q.started xs k') s.is_history q.run) in
      let H = (run_follows (with_ram n k.ram) (begins_holding n k q.started q.beginning) before).holds in
      let (k₂, one) = first_step later in
      let (here, shown) = written_stays m i s.from s.values s.lent x (calls s.later) H.sound (step_room m k₁ wrote_event k₂ H one)
      (sym (step_follows m k₁ wrote_event k₂ H one).answer_is) s.low s.high s.spared in
      subst (λ (y : State). There y i x v)
      (sym (ap (λ (xs : List Event). machine_at n k xs) s.is_history ∙ after_append (with_ram n k.ram) s.before wrote_event s.later))
      (record { here = here; shown = shown ∙ ap some s.value_is })
