-- A sequence in which bytes reach the RAM from outside: the memory stands for the plain machine whose RAM the same bytes reach, all along.
use Rattle.std.specs.Prelude.{◌≡◌, refl, List, ◌∷◌, map, ℕ}
use Rattle.std.proofs.Common.{sym, ap, ap₂, ◌∙◌}
use Rattle.machine.specs.Machine.{State, with_ram, answers, answer, after, after_all}
use Rattle.machine.specs.Claims.{blind}
use Rattle.memory.specs.Memory.{Memory}
use Rattle.promise.specs.Holds.{Holds}
use Rattle.laws.specs.Bytes.{bytes_hold}
use Rattle.demands.specs.History.{Event, played, calls}
use Rattle.demands.specs.Outside.{Turn, called, Course, none, call, fill, made, answers_in, after_in}
use Rattle.demands.proofs.Laws.Step.{step_follows}
use Rattle.machine.proofs.Laws.Unseen.{likewise_blind}
use Rattle.machine.proofs.Laws.Calls.{alike}

-- of the machine m with another RAM, beside m itself that nobody wrote to
pub record Filled (m : State) (ram : List ℕ) (ts : List Turn) (k' : Memory) : Type 0 where
  pub answers_are : map (λ (e : Event). e.answer) (made ts) ≡ answers_in (with_ram m ram) ts
  pub holds : Holds (after_in (with_ram m ram) ts) k'
  pub answers_alike : map (λ (e : Event). blind e.answer) (made ts) ≡ map blind (answers m (calls (made ts)))
  pub state_alike : after_in (with_ram m ram) ts ≡ with_ram (after_all m (calls (made ts))) (after_in (with_ram m ram) ts).ram

pub course_follows : {k k' : Memory} {ts : List Turn} (m : State) (ram : List ℕ) → Holds (with_ram m ram) k → Course k ts k' → Filled m ram ts k'
unfolding made answers_in after_in answers after_all
course_follows m ram H none = record { answers_are = refl; holds = H; answers_alike = refl; state_alike = refl }
course_follows m ram H (call {k = k} {k₁ = k₁} {e = e} {ts = ts} s c) =
    let n = with_ram m ram in
    let f = step_follows n k e k₁ H s in
    let a = alike m ram (played e) in
    let ram₁ = (after n (played e)).ram in
    let H₁ : Holds (with_ram (after m (played e)) ram₁) k₁ = rw (sym a.states) f.holds in
    let r = course_follows (after m (played e)) ram₁ H₁ c in
    let same = ap (λ (x : State). after_in x ts) a.states in
    record {
      answers_are = ap₂ ◌∷◌ f.answer_is (r.answers_are ∙ ap (λ (x : State). answers_in x ts) (sym a.states));
      holds = rw same r.holds;
      answers_alike = ap₂ ◌∷◌ (ap blind f.answer_is ∙ likewise_blind a.answers) r.answers_alike;
      state_alike = same ∙ r.state_alike ∙ ap (λ (x : State). with_ram (after_all m (calls (made (called e ∷ ts)))) x.ram) (sym same);
    }
course_follows m ram H (fill {k = k} {ts = ts} ram₁ c) =
    let r = course_follows m ram₁ (bytes_hold (with_ram m ram) k ram₁ H) c in
    record { answers_are = r.answers_are; holds = r.holds; answers_alike = r.answers_alike; state_alike = r.state_alike }
