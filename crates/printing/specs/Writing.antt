-- What it is to say a reply: its text in a buffer, where there is room for it.
use Rattle.std.specs.Prelude.{Bool, cond, ◌&&◌, List, [], ℕ, ◌+◌, ◌*◌, leb, length}
use Rattle.requests.specs.Requests.{replied}
use Rattle.requests.specs.declared.Reply.{Reply}
use Rattle.requests.specs.declared.Reply.TheVariants as reply_is
use Rattle.digits.specs.Writing.{Wrote}
use Rattle.printing.specs.Text.{text}

-- how many numbers of the records a reply shows
abbrev pub shown : Reply → ℕ
shown reply_is.Done = 0
shown (reply_is.Old f) = 0
shown (reply_is.New f w) = 0
shown (reply_is.Resident f) = 0
shown (reply_is.Absent w) = 0
shown (reply_is.Pages n) = 0
shown (reply_is.Frames n) = 0
shown (reply_is.At p) = 0
shown reply_is.Bytes = 0
shown (reply_is.Regions n) = 3 * n
shown (reply_is.Map n) = 0
shown (reply_is.Refused k) = 0
shown (reply_is.RefusedAfter k w) = 0
shown reply_is.Handed = 0

-- a session's longest answers are a map and the 3,072 numbers of 1,024 regions; 65,536 have room for a word and 32,736 bytes, two digits each, and for
-- these numbers, at most 20 digits and a blank each
abbrev pub roomy : ℕ → List ℕ → Reply → List ℕ → List ℕ → Bool
roomy at out r bytes records = leb (at + 65536) (length out) && leb (length bytes) 32736 && leb (length records) 3072 && leb (shown r) (length records)

-- the reply's text, or none without that room
unfoldable pub said_text : ℕ → List ℕ → Reply → List ℕ → List ℕ → List ℕ
said_text at out r bytes records = cond (roomy at out r bytes records) (text (replied r bytes records)) []

-- without room nothing is written, and it ends where it began
abbrev pub Says : ℕ → List ℕ → Reply → List ℕ → List ℕ → ℕ → List ℕ → Type 0
Says at out r bytes records end out' = Wrote at out (said_text at out r bytes records) end out'
