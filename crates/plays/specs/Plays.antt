-- Calls played one after another from a list of codes: by the pager, and by the plain machine.
use Rattle.std.specs.Prelude.{◌≡◌, List, [], ◌∷◌, ◌++◌, ℕ, zero, suc, ◌+◌, ◌-◌, ◌*◌, take, drop, Option, Some, None}
use Rattle.machine.specs.Machine.{State, Lent, Call as MachineCall, Answer, answer, after}
use Rattle.memory.specs.Memory.{Memory, lengths}
use Rattle.promise.specs.Did.{Did}
use Rattle.demands.specs.History.{Event}
use Rattle.requests.specs.Requests.{requested, bytes_into, records_into}
use Rattle.decoding.specs.declared.Parts.{Parts}
use Rattle.decoding.specs.declared.Code.{Code}
use Rattle.requests.specs.Codes.{encoded}
use Rattle.plays.specs.Codes.{code_at, unreadable}

-- ---- the caller's buffers

pub record Desk : Type 0 where
  -- three numbers for each code
  pub replies : List ℕ
  -- what writes store and reads fill
  pub bytes : List ℕ
  -- what lists fill, three numbers a record
  pub records : List ℕ

-- the entries from a to before b
abbrev pub part : ℕ → ℕ → List ℕ → List ℕ
part a b xs = take (b - a) (drop a xs)

-- with other entries in their place
abbrev pub with_part : ℕ → ℕ → List ℕ → List ℕ → List ℕ
with_part a b xs ys = take a xs ++ (ys ++ drop (b - a) (drop a xs))

abbrev pub with_reply : ℕ → List ℕ → List ℕ → List ℕ
with_reply j replies ws = with_part (3 * j) (3 * j + 3) replies ws

-- the call that a code makes
abbrev pub called : Code → Desk → Lent → MachineCall
called c d = requested c.request (part c.parts.from c.parts.to d.bytes) (part c.parts.first c.parts.last d.records)

-- what the answer to code number j leaves
abbrev pub laid : ℕ → Parts → Answer → Desk → Desk
laid j p a d =
    record {
      replies = with_reply j d.replies (encoded a);
      bytes = with_part p.from p.to d.bytes (bytes_into a (part p.from p.to d.bytes));
      records = with_part p.first p.last d.records (records_into a (part p.first p.last d.records));
    }

-- a code that is no call
abbrev pub skipped : ℕ → Desk → Desk
skipped j d = record { replies = with_reply j d.replies unreadable; bytes = d.bytes; records = d.records }

-- ---- the plain machine's player

pub record Played : Type 0 where
  pub state : State
  pub desk : Desk

abbrev pub play_one : ℕ → Lent → Option Code → Played → Played
play_one j l None x = record { state = x.state; desk = skipped j x.desk }
play_one j l (Some code) x =
    let c = called code x.desk l in
    record { state = after x.state c; desk = laid j code.parts (answer x.state c) x.desk }

-- n codes from number j on, on memory of these lengths
unfoldable pub plays : List ℕ → ℕ → ℕ → Lent → ℕ → ℕ → Played → Played
plays codes whole_bytes whole_records l j zero x = x
plays codes whole_bytes whole_records l j (suc n) x =
    plays codes whole_bytes whole_records l (suc j) n (play_one j l (code_at codes whole_bytes whole_records j) x)

-- ---- the pager's player

-- n codes from number j on: each call did what its own contract says
pub data Turns (codes : List ℕ) (whole_bytes whole_records : ℕ) : ℕ → ℕ → Memory → Desk → List Event → Memory → Desk → Type 0 where
  none : {j : ℕ} {k : Memory} {d : Desk} → Turns codes whole_bytes whole_records j 0 k d [] k d
  skip : {j n : ℕ} {k k' : Memory} {d d' : Desk} {es : List Event} → code_at codes whole_bytes whole_records j ≡ None
      → Turns codes whole_bytes whole_records (suc j) n k (skipped j d) es k' d' → Turns codes whole_bytes whole_records j (suc n) k d es k' d'
  turn : {j n : ℕ} {k k₁ k' : Memory} {d d' : Desk} {es : List Event} {c : Code} {a : Answer}
      → code_at codes whole_bytes whole_records j ≡ Some c
      → Did (called c d) k a k₁ → lengths k₁ ≡ lengths k → Turns codes whole_bytes whole_records (suc j) n k₁ (laid j c.parts a d) es k' d'
      → Turns codes whole_bytes whole_records j (suc n) k d (record { call = called c d; lent = lengths k; answer = a } ∷ es) k' d'

-- ---- one code

-- what five numbers that are no call leave
pub record Skips (k : Memory) (bytes records : List ℕ) (k' : Memory) (reply' bytes' records' : List ℕ) : Type 0 where
  pub memory_stays : k' ≡ k
  pub reply_is : reply' ≡ unreadable
  pub bytes_stay : bytes' ≡ bytes
  pub records_stay : records' ≡ records

-- what a call leaves
pub record Calls (c : Code) (k : Memory) (bytes records : List ℕ) (k' : Memory) (reply' bytes' records' : List ℕ) : Type 0 where
  pub answer : Answer
  pub did : Did (requested c.request (part c.parts.from c.parts.to bytes) (part c.parts.first c.parts.last records)) k answer k'
  pub reply_is : reply' ≡ encoded answer
  pub bytes_are : bytes' ≡ with_part c.parts.from c.parts.to bytes (bytes_into answer (part c.parts.from c.parts.to bytes))
  pub records_are : records' ≡ with_part c.parts.first c.parts.last records (records_into answer (part c.parts.first c.parts.last records))

abbrev pub PlayedOne : Option Code → Memory → List ℕ → List ℕ → Memory → List ℕ → List ℕ → List ℕ → Type 0
PlayedOne None = Skips
PlayedOne (Some c) = Calls c
