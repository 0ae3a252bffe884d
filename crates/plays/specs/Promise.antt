-- What playing a list of codes promises: demands 2 and 3 of the calls that were made.
use Rattle.std.specs.Prelude.{◌≡◌, List, ◌∷◌, ℕ, ◌<◌, length, Some}
use Rattle.std.proofs.Math.Option.{some}
use Rattle.machine.specs.Machine.{State, facts, asked, unstarted}
use Rattle.memory.specs.Memory.{Memory, sizes_of, lengths}
use Rattle.promise.specs.Holds.{Roomy}
use Rattle.demands.specs.History.{Event}
use Rattle.demands.specs.Demands.{machine_at, Demand3}
use Rattle.serving.specs.Steps.{Stands}
use Rattle.decoding.specs.declared.Code.{Code}
use Rattle.plays.specs.Codes.{code_at}
use Rattle.plays.specs.Plays.{Desk, called, Played, plays, Turns}

-- ---- the promise

module _ (codes : List ℕ) (n : ℕ) (k : Memory) (d : Desk) where
  abbrev whole_bytes : ℕ
  whole_bytes = length d.bytes

  abbrev whole_records : ℕ
  whole_records = length d.records

  -- what the plain machine would leave
  abbrev pub by_machine : State → Played
  by_machine m = plays codes whole_bytes whole_records (lengths k) 0 n (record { state = m; desk = d })

  -- the first code is a call that begins this state, a start or the reading of a map, and it passes its checks
  pub record BeginsFirst (m : State) : Type 0 where
    pub any : 0 < n
    pub code : Code
    pub first : code_at codes whole_bytes whole_records 0 ≡ Some code
    pub begins : (facts (called code d (lengths k))).begins ≡ some m
    pub accepted : asked (sizes_of k.head) (called code d (lengths k)) ≡ 0

  pub record Plays (k' : Memory) (d' : Desk) : Type 0 where
    -- the calls that were made, in order, with what they answered
    pub events : List Event
    pub turns : Turns codes whole_bytes whole_records 0 n k d events k' d'
    -- "From an accepted start, .. every answer is the one the plain machine of document 01 gives for the same calls, refusals and frame numbers too,
    -- and no other, whatever the five unprepared tables held"; W-202: "from the state in the file, as from a start"
    pub demand_2 : (m : State) → BeginsFirst m → d' ≡ (by_machine (unstarted k.ram)).desk
    -- and where the memory stands for a machine already, started or not
    pub honest : (m : State) → Stands m k → (d' ≡ (by_machine m).desk) × Stands (by_machine m).state k'
    -- document 01: "one claim about the whole sequence of calls", those after the first, where the "memory is long enough for the accepted start's sizes"
    pub demand_3 : (m : State) → BeginsFirst m
        → (e : Event) × (es : List Event) × (events ≡ e ∷ es) × (Roomy (machine_at m k es).sizes k' → Demand3 m k es k' (machine_at m k es))
