-- What answering a line promises: on any memory and buffers, and with room for an answer on memory that stands for a machine.
use Rattle.std.specs.Prelude.{◌≡◌, Bool, true, false, cond, List, [], ◌++◌, ℕ, ◌+◌, ◌≤◌, leb, length, take, drop, Some, None}
use Rattle.machine.specs.Machine.{State}
use Rattle.memory.specs.Memory.{Memory, lengths}
use Rattle.pages.specs.Serves.{Serves}
use Rattle.serving.specs.Steps.{Stands}
use Rattle.requests.specs.declared.Request.{Request}
use Rattle.requests.specs.declared.Reply.{Reply}
use Rattle.requests.specs.declared.Reply.TheVariants as reply_is
use Rattle.parsing.specs.Grammar.{Line, longest_map, parsed}
use Rattle.digits.specs.Writing.{Wrote}
use Rattle.texts.specs.Text.{bad_line}
use Rattle.printing.specs.Writing.{said_text, Says}
use Rattle.ahead.specs.Ahead.{beyond, filled_by}
use Rattle.lines.specs.Session.{answered}

-- ---- on any memory, whatever the buffers

-- a call was made on these bytes and records, and its reply said, on any memory
pub record CallAnswered (q : Request) (k : Memory) (bytes records : List ℕ) (at : ℕ) (out : List ℕ) (end : ℕ) (k' : Memory)
    (bytes' records' out' : List ℕ) : Type 0 where
  pub reply : Reply
  pub bytes_long : length bytes' ≡ length bytes
  pub records_long : length records' ≡ length records
  pub serves : Serves q k bytes records reply k' bytes' records'
  pub says : Says at out reply bytes' records' end out'

module _ (line : List ℕ) (k : Memory) (at : ℕ) (out buffer records : List ℕ) (end : ℕ) (k' : Memory) (out' buffer' records' : List ℕ) where
  -- memory and buffers stay, and this text is written
  pub record Left (text : List ℕ) : Type 0 where
    pub memory_stays : k' ≡ k
    pub buffer_stays : buffer' ≡ buffer
    pub records_stay : records' ≡ records
    pub wrote : Wrote at out text end out'

  -- the request's call was lent the buffer's first n bytes, filled, and did what it promises; nothing else changed but the answer's text
  pub record Made (q : Request) (n : ℕ) : Type 0 where
    pub bytes' : List ℕ
    pub answered : CallAnswered q k (take n (filled_by q line n buffer)) records at out end k' bytes' records' out'
    pub buffer_is : buffer' ≡ bytes' ++ drop n (filled_by q line n buffer)

  -- a start beyond the limits is refused, a line of more bytes than the buffer has is not answered
  abbrev pub RequestDid : Request → ℕ → (over fits : Bool) → Type 0
  RequestDid q n true fits = Left (said_text at out (reply_is.Refused 1) [] [])
  RequestDid q n false false = Left []
  RequestDid q n false true = Made q n

  abbrev pub LineDid : Line → Type 0
  LineDid None = Left (cond (leb (at + 8) (length out)) bad_line [])
  LineDid (Some (q, n)) = RequestDid q n (beyond q) (leb n (length buffer))

-- ---- where there is room and the memory stands for a machine

-- room for the longest answer, for the bytes of the longest map, and a record for each of 1,024 regions
pub record Enough (at : ℕ) (out buffer records : List ℕ) : Type 0 where
  pub room : at + 65536 ≤ length out
  pub bytes : length buffer ≡ longest_map
  pub numbers : length records ≡ 3072

pub record Answers (line : List ℕ) (m : State) (k : Memory) (at : ℕ) (out : List ℕ) (end : ℕ) (k' : Memory) (out' : List ℕ) : Type 0 where
  pub wrote : Wrote at out (answered line (lengths k) m).answer_text end out'
  pub stands : Stands (answered line (lengths k) m).after k'

pub record AnswersLine (line : List ℕ) (k : Memory) (at : ℕ) (out buffer records : List ℕ) (end : ℕ) (k' : Memory) (out' buffer' records' : List ℕ)
    : Type 0 where
  pub did : LineDid line k at out buffer records end k' out' buffer' records' (parsed line)
  -- started or not: the machine's answer is written, and the memory stands for the machine after it
  pub honest : (m : State) → Stands m k → Enough at out buffer records → Answers line m k at out end k' out'
