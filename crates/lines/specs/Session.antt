-- A session of lines: what the plain machine answers to each. Document 01, "One session whole".
use Rattle.std.specs.Prelude.{Bool, true, false, List, [], ℕ, Some, None}
use Rattle.machine.specs.Machine as machine
use Rattle.requests.specs.Requests.{requested}
use Rattle.requests.specs.declared.Request.{Request}
use Rattle.requests.specs.declared.Request.TheVariants.{Start, Page, Free, Translate, Read, Write, List as Listing, WriteMap, ReadMap}
use Rattle.hexing.specs.Hex.{bytes_in, hex_of}
use Rattle.parsing.specs.Grammar.{Line, parsed}
use Rattle.texts.specs.Text.{bad_line}
use Rattle.printing.specs.Text.{text}
use Rattle.ahead.specs.Ahead.{beyond}

-- the call that a line's request is: a write has the bytes at the line's end, a read and a map as many as the count, "`list`, with room for every
-- region"; no line reads a map
abbrev pub line_call : Request → ℕ → List ℕ → machine.Lent → machine.Call
line_call (Start s n f p) count line = requested (Start s n f p) [] []
line_call (Page p i b) count line = requested (Page p i b) [] []
line_call Free count line = requested Free [] []
line_call (Translate i x) count line = requested (Translate i x) [] []
line_call (Read i x) count line = machine.read i x count
line_call (Write i x) count line = machine.write i x (bytes_in (hex_of line count))
line_call (Listing i) count line = machine.list i 1024
line_call WriteMap count line = machine.write_map count
line_call ReadMap count line = requested ReadMap [] []

-- the text that answers a line, and the machine after it
pub record LineAnswer : Type 0 where
  pub answer_text : List ℕ
  pub after : machine.State

-- "A start beyond the limits gives `no 1`"
abbrev pub answered_call : Request → ℕ → List ℕ → machine.Lent → machine.State → Bool → LineAnswer
answered_call q count line l m true = record { answer_text = text (machine.refused 1); after = m }
answered_call q count line l m false =
    let c = line_call q count line l in
    record { answer_text = text (machine.answer m c); after = machine.after m c }

-- "A line it can't read gives `bad line`"
abbrev pub answered_as : Line → List ℕ → machine.Lent → machine.State → LineAnswer
answered_as None line l m = record { answer_text = bad_line; after = m }
answered_as (Some (q, count)) line l m = answered_call q count line l m (beyond q)

abbrev pub answered : List ℕ → machine.Lent → machine.State → LineAnswer
answered line l m = answered_as (parsed line) line l m
