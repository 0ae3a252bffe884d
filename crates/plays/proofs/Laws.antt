-- Playing codes: a list after another, and what follows of demands 2 and 3.
use Rattle.std.specs.Prelude.{◌≡◌, refl, List, ◌∷◌, ◌++◌, ℕ, ◌+◌, length, Option as Maybe, Some}
use Rattle.std.proofs.Common.{sym, ap, ◌∙◌, subst, inl, add-zero, zero-add, suc-add, add-suc, arith}
use Rattle.std.proofs.Math.Option.{Option, some, none-ne-some}
use Rattle.machine.specs.Machine.{Sizes, State, Call as MachineCall, start, page, free, translate, read, write, list, write_map, read_map, facts, asked, Answer}
use Rattle.machine.specs.Machine.{done, after, Out, with_ram, unstarted, step}
use Rattle.machine.proofs.Laws.Calls.{begins_so}
use Rattle.memory.specs.Memory.{Memory, sizes_of, lengths}
use Rattle.promise.specs.Holds.{Roomy}
use Rattle.promise.specs.Did.{BeginsBy}
use Rattle.laws.specs.Refusals.{passed_step}
use Rattle.demands.specs.History.{Event, lent_front, Run, none, next}
use Rattle.demands.specs.Demands.{machine_at, Demand3}
use Rattle.demands.proofs.Theorems.{demand_3}
use Rattle.serving.specs.Steps.{whole_step, Stands, serve_follows}
use Rattle.decoding.specs.declared.Code.{Code}
use Rattle.plays.specs.Plays.{Desk, called, laid, Played, play_one, plays, Turns}
use Rattle.plays.specs.Plays.Turns.{none as no_turn, skip, turn}
use Rattle.plays.specs.Promise.{by_machine, BeginsFirst, Plays}

-- ---- codes after codes

module _ (codes : List ℕ) (whole_bytes whole_records : ℕ) where
  pub turns_append : {j n m : ℕ} {k k₁ k₂ : Memory} {d d₁ d₂ : Desk} {es fs : List Event} → Turns codes whole_bytes whole_records j n k d es k₁ d₁
      → Turns codes whole_bytes whole_records (j + n) m k₁ d₁ fs k₂ d₂ → Turns codes whole_bytes whole_records j (n + m) k d (es ++ fs) k₂ d₂
  turns_append no_turn u = rw zero-add (rw add-zero at u)
  turns_append (skip e t) u = rw suc-add (skip e (turns_append t (rw (add-suc, ← suc-add) at u)))
  turns_append (turn e did same t) u = rw suc-add (turn e did same (turns_append t (rw (add-suc, ← suc-add) at u)))

module _ (codes : List ℕ) (whole_bytes whole_records : ℕ) where
  -- ---- a sequence, and the plain machine beside it

  pub turns_run : {j n : ℕ} {k k' : Memory} {d d' : Desk} {es : List Event} → Turns codes whole_bytes whole_records j n k d es k' d'
      → Run k es k'
  turns_run no_turn = none
  turns_run (skip e t) = turns_run t
  turns_run (turn {k = k} {k₁ = k₁} {c = c} {a = a} e did same t) = next (lent_front (whole_step c.request _ _ k a k₁ did)) (turns_run t)

  pub record Beside (x : Played) (k' : Memory) (d' : Desk) : Type 0 where
    pub desk_is : d' ≡ x.desk
    pub stands : Stands x.state k'

  pub turns_beside : {j n : ℕ} {k k' : Memory} {d d' : Desk} {es : List Event} (m : State) → Turns codes whole_bytes whole_records j n k d es k' d' → Stands m k
      → Beside (plays codes whole_bytes whole_records (lengths k) j n (record { state = m; desk = d })) k' d'
  unfolding plays
  turns_beside m no_turn S = record { desk_is = refl; stands = S }
  turns_beside m (skip e t) S = rw e (turns_beside m t S)
  turns_beside m (turn {k = k} {k₁ = k₁} {d = d} {c = c} {a = a} e did same t) S =
      let f = serve_follows m k c.request _ _ a k₁ S did in
      let rest = turns_beside (after m (called c d (lengths k))) t f.stands in
      rw (e, ← f.answer_is) (rw same at rest)

-- ---- demands 2 and 3

-- what begins a state is asked the same whatever the sizes before
same_asked : (y z : Sizes) (m : State) (c : MachineCall) → (facts c).begins ≡ some m → asked y c ≡ asked z c
unfolding asked
same_asked y z m (start x l) is = refl
same_asked y z m (page p i b l) is = absurd (none-ne-some m is)
same_asked y z m free is = absurd (none-ne-some m is)
same_asked y z m (translate i x l) is = absurd (none-ne-some m is)
same_asked y z m (read i x n l) is = absurd (none-ne-some m is)
same_asked y z m (write i x vs l) is = absurd (none-ne-some m is)
same_asked y z m (list i room l) is = absurd (none-ne-some m is)
same_asked y z m (write_map room l) is = absurd (none-ne-some m is)
same_asked y z m (read_map file l) is = refl

-- a machine begins with the call that is accepted, whatever it was before
begun_step : (m s : State) (z : Sizes) (c : MachineCall) → (facts c).begins ≡ some s → asked z c ≡ 0
    → step m c ≡ record { answer = done; after = with_ram s m.ram }
begun_step m s z c is e = passed_step m c (same_asked m.sizes z s c is ∙ e) ∙ begins_so m s c is

-- so its player's first move is this
first_play : (m : State) (k : Memory) (d : Desk) (c : Code) (a : Answer) → (facts (called c d (lengths k))).begins ≡ some m
    → asked (sizes_of k.head) (called c d (lengths k)) ≡ 0 → a ≡ done
    → play_one 0 (lengths k) (Some c) (record { state = unstarted k.ram; desk = d }) ≡ record { state = with_ram m k.ram; desk = laid 0 c.parts a d }
first_play m k d c a is e t =
    let begun = begun_step (unstarted k.ram) m (sizes_of k.head) (called c d (lengths k)) is e in
    rw t (ap {B = Played} (λ (o : Out). record { state = o.after; desk = laid 0 c.parts o.answer d }) begun)

record FromFirst (codes : List ℕ) (n : ℕ) (m : State) (k : Memory) (d : Desk) (es : List Event) (k' : Memory) (d' : Desk) : Type 0 where
  desk_is : d' ≡ (by_machine codes n k d (unstarted k.ram)).desk
  first : Event
  later : List Event
  events_are : es ≡ first ∷ later
  demand : Roomy (machine_at m k later).sizes k' → Demand3 m k later k' (machine_at m k later)

from_first : {n : ℕ} {k k' : Memory} {d d' : Desk} {es : List Event} (codes : List ℕ) (m : State) → BeginsFirst codes n k d m
    → Turns codes (length d.bytes) (length d.records) 0 n k d es k' d' → FromFirst codes n m k d es k' d'
unfolding plays
from_first codes m b no_turn = absurd (omega (arith, b.any))
from_first codes m b (skip e t) = absurd (cc b.first)
from_first codes m b (turn {n = n} {k = k} {k₁ = k₁} {d = d} {c = x} {a = a} e did same t) =
    let bytes = length d.bytes in
    let records = length d.records in
    let same_code : x ≡ b.code = cc b.first in
    let c = called x d in
    let is : (facts (c (lengths k))).begins ≡ some m = rw same_code b.begins in
    let passes : asked (sizes_of k.head) (c (lengths k)) ≡ 0 = rw same_code b.accepted in
    let begun = subst (λ (o : Option State). BeginsBy o (asked (sizes_of k.head) (c (lengths k))) k a k₁) is did.begins passes in
    let move = ap (λ (o : Maybe Code). play_one 0 (lengths k) o (record { state = unstarted k.ram; desk = d })) e
    ∙ first_play m k d x a is passes begun.0 in
    let beside = turns_beside codes bytes records (with_ram m k.ram) t (inl begun.1) in
    record {
      desk_is = (rw same at beside.desk_is) ∙ ap (λ (x : Played). (plays codes bytes records (lengths k) 1 n x).desk) (sym move);
      first = _;
      later = _;
      events_are = refl;
      demand = demand_3 m k _ _
          (record {
            started = k₁;
            beginning = record {
              first = record { call = c; lent = lengths k; answer = a };
              begins = is;
              accepted = begun.0;
              step = whole_step x.request _ _ k a k₁ did;
            };
            run = turns_run codes bytes records t;
          });
    }

pub played : {n : ℕ} {k k' : Memory} {d d' : Desk} (codes : List ℕ) (es : List Event) → Turns codes (length d.bytes) (length d.records) 0 n k d es k' d'
    → Plays codes n k d k' d'
played codes es t =
    record {
      events = es;
      turns = t;
      demand_2 = λ m b. (from_first codes m b t).desk_is;
      honest = λ m S. let b = turns_beside codes _ _ m t S in (b.desk_is, b.stands);
      demand_3 = λ m b. let f = from_first codes m b t in (f.first, f.later, f.events_are, f.demand);
    }
