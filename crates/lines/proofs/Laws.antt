-- A line's request is the line's call, and what answering it promises.
use Rattle.std.specs.Prelude.{◌≡◌, refl, Bool, true, false, cond, List, [], ◌∷◌, ◌++◌, ℕ, zero, suc, ◌+◌, ◌-◌, ◌*◌, ◌/◌, ◌≤◌, ◌<◌, leb, length, take, drop}
use Rattle.std.specs.Prelude.{Some, None}
use Rattle.std.proofs.Common.{ap, ◌∙◌, subst, arith, le-leb, length-drop, length-append, length-take-le, take_at}
use Rattle.std.proofs.lemmas.Bool.{lt-leb}
use Rattle.machine.specs.Machine.{State, Lent, Call as MachineCall, read, write, list, write_map, Answer, answer, after}
use Rattle.memory.specs.Memory.{Memory, lengths}
use Rattle.promise.specs.Filled.{records_in}
use Rattle.requests.specs.Requests.{requested, replied, region_numbers, records_into}
use Rattle.requests.specs.Laws.{records_length, numbers_length}
use Rattle.serving.specs.Steps.{Stands, serve_follows}
use Rattle.requests.specs.declared.Request.{Request}
use Rattle.requests.specs.declared.Request.TheVariants.{Start, Page, Free, Translate, Read, Write, List as Listing, WriteMap, ReadMap}
use Rattle.requests.specs.declared.Reply.{Reply}
use Rattle.requests.specs.declared.Reply.TheVariants as reply_is
use Rattle.hexing.specs.Hex.{bytes_in, all_hex, hex_of, unhexed}
use Rattle.hexing.specs.Laws.{unhexed_all}
use Rattle.parsing.specs.Grammar.{Line, parsed}
use Rattle.parsing.specs.Laws.{lined, few_bytes, write_hex}
use Rattle.digits.specs.Writing.{Wrote}
use Rattle.texts.specs.Text.{bad_line}
use Rattle.printing.specs.Text.{text}
use Rattle.printing.specs.Writing.{shown, said_text}
use Rattle.printing.specs.Laws.{said_whole}
use Rattle.ahead.specs.Ahead.{beyond, filled_by}
use Rattle.lines.specs.Session.{line_call, LineAnswer, answered_call, answered_as, answered}
use Rattle.lines.specs.Promise.{CallAnswered, Left, Answers, AnswersLine}

-- ---- the line's call

-- two digits a byte
bytes_length : (n : ℕ) (cs : List ℕ) → length cs ≡ 2 * n → length (bytes_in cs) ≡ n
unfolding bytes_in
bytes_length zero [] e = refl
bytes_length zero (c ∷ cs) e = absurd (omega arith)
bytes_length (suc n) [] e = absurd (omega arith)
bytes_length (suc n) (a ∷ []) e = absurd (omega arith)
bytes_length (suc n) (a ∷ b ∷ cs) e = ap suc (bytes_length n cs (omega arith))

filled_bytes : (line : List ℕ) (n : ℕ) (buffer : List ℕ) → 2 * n ≤ length line → n ≤ length buffer → all_hex (hex_of line n) ≡ true
    → take n (unhexed line n buffer) ≡ bytes_in (hex_of line n)
filled_bytes line n buffer long fits hex =
    rw (unhexed_all line n buffer long fits hex)
    (take_at (bytes_in (hex_of line n)) (drop n buffer) n (bytes_length n (hex_of line n) (omega (arith, length-drop (length line - 2 * n) line))))

module _ (line : List ℕ) (n : ℕ) (buffer records : List ℕ) (l : Lent) (fits : n ≤ length buffer) (numbers : length records ≡ 3072) where
  pub line_call_lem : (q : Request) → parsed line ≡ Some (q, n) → requested q (take n (filled_by q line n buffer)) records l ≡ line_call q n line l
  line_call_lem (Start s p f b) e = refl
  line_call_lem (Page p i b) e = refl
  line_call_lem Free e = refl
  line_call_lem (Translate i x) e = refl
  line_call_lem (Read i x) e = ap (λ (k : ℕ). read i x k l) (length-take-le n buffer fits)
  line_call_lem (Write i x) e = let h = write_hex line i x n e in ap (λ (vs : List ℕ). write i x vs l) (filled_bytes line n buffer h.0 fits h.1)
  line_call_lem (Listing i) e = ap (λ (k : ℕ). list i (k / 3) l) numbers
  line_call_lem WriteMap e = ap (λ (k : ℕ). write_map k l) (length-take-le n buffer fits)
  line_call_lem ReadMap e = absurd (lined line ReadMap n e)

-- ---- the answer

-- the records that a reply shows are there
shown_fits : (r : Reply) (bytes records records' : List ℕ) → records' ≡ records_into (replied r bytes records') records → shown r ≤ length records'
shown_fits reply_is.Done bytes records records' e = omega arith
shown_fits (reply_is.Old f) bytes records records' e = omega arith
shown_fits (reply_is.New f w) bytes records records' e = omega arith
shown_fits (reply_is.Resident f) bytes records records' e = omega arith
shown_fits (reply_is.Absent w) bytes records records' e = omega arith
shown_fits (reply_is.Pages n) bytes records records' e = omega arith
shown_fits (reply_is.Frames n) bytes records records' e = omega arith
shown_fits (reply_is.At p) bytes records records' e = omega arith
shown_fits reply_is.Bytes bytes records records' e = omega arith
shown_fits (reply_is.Regions n) bytes records records' e =
    omega (
      arith,
      ap length e,
      length-append (region_numbers (records_in n records')) (drop (3 * length (records_in n records')) records),
      numbers_length
          (records_in n records'),
      records_length n records',
    )
shown_fits (reply_is.Map n) bytes records records' e = omega arith
shown_fits (reply_is.Refused k) bytes records records' e = omega arith
shown_fits (reply_is.RefusedAfter k w) bytes records records' e = omega arith
shown_fits reply_is.Handed bytes records records' e = omega arith

module _ (line : List ℕ) (k : Memory) (at : ℕ) (out buffer records : List ℕ) (end : ℕ) (k' : Memory) (out' buffer' records' : List ℕ) where
  -- the machine's answer is known
  answers_as : (m : State) (x : LineAnswer) → answered line (lengths k) m ≡ x → Wrote at out x.answer_text end out' → Stands x.after k'
      → Answers line m k at out end k' out'
  answers_as m x e wrote stands = record { wrote = rw e wrote; stands = rw e stands }

  called : (m : State) (q : Request) (n : ℕ) (over : Bool) → parsed line ≡ Some (q, n) → beyond q ≡ over
      → answered line (lengths k) m ≡ answered_call q n line (lengths k) m over
  called m q n over e b = ap (λ (x : Line). answered_as x line (lengths k) m) e ∙ ap (answered_call q n line (lengths k) m) b

  abbrev Promised : Type 0
  Promised = AnswersLine line k at out buffer records end k' out' buffer' records'

  abbrev Leaves : List ℕ → Type 0
  Leaves cs = Left line k at out buffer records end k' out' buffer' records' cs

  pub bad_answered : parsed line ≡ None → Leaves (cond (leb (at + 8) (length out)) bad_line []) → Promised
  bad_answered e left =
      record {
        did = rw e left;
        honest = λ m S d.
            let whole = rw (le-leb (at + 8) (length out) (omega (arith, d.room))) at left.wrote in
            answers_as m _ (ap (λ (x : Line). answered_as x line (lengths k) m) e) whole (rw left.memory_stays S);
      }

  pub beyond_answered : (q : Request) (n : ℕ) → parsed line ≡ Some (q, n) → beyond q ≡ true → Leaves (said_text at out (reply_is.Refused 1) [] []) → Promised
  beyond_answered q n e over left =
      record {
        did = rw (e, over) left;
        honest = λ m S d.
            let whole = rw (said_whole at out (reply_is.Refused 1) [] [] d.room (omega arith) (omega arith) (omega arith)) at left.wrote in
            answers_as m _ (called m q n true e over) whole (rw left.memory_stays S);
      }

  -- no line asks for more bytes than the longest map has
  pub short_answered : (q : Request) (n : ℕ) → parsed line ≡ Some (q, n) → beyond q ≡ false → length buffer < n → Leaves [] → Promised
  short_answered q n e under short left =
      record {
        did = rw (e, under, lt-leb n (length buffer) short) left;
        honest = λ m S d. absurd (omega (arith, few_bytes line q n e, d.bytes));
      }

  pub call_answered : (q : Request) (n : ℕ) → parsed line ≡ Some (q, n) → beyond q ≡ false → n ≤ length buffer → length (filled_by q line n buffer) ≡ length buffer
      → (bytes' : List ℕ) → CallAnswered q k (take n (filled_by q line n buffer)) records at out end k' bytes' records' out'
      → buffer' ≡ bytes' ++ drop n (filled_by q line n buffer) → Promised
  call_answered q n e under fits same bytes' a buffer_is =
      record {
        did = rw (e, under, le-leb n (length buffer) fits) (record { bytes' = bytes'; answered = a; buffer_is = buffer_is });
        honest = λ m S d.
            let filled = filled_by q line n buffer in
            let c = line_call_lem line n buffer records (lengths k) fits d.numbers q e in
            let s = a.serves in
            let f = serve_follows m k q (take n filled) records (replied a.reply bytes' records') k' S s.did in
            let told = f.answer_is ∙ ap (answer m) c in
            let few = few_bytes line q n e in
            let long = a.bytes_long ∙ length-take-le n filled (omega arith) in
            let shows = shown_fits a.reply bytes' records records' s.records_are in
            let few-records : length records' ≤ 3072 = omega (arith, d.numbers, a.records_long) in
            let whole = rw (said_whole at out a.reply bytes' records' d.room (omega arith) few-records shows) at a.says in
            answers_as m _ (called m q n false e under) (subst (λ (x : Answer). Wrote at out (text x) end out') told whole)
            (subst (λ (x : MachineCall). Stands (after m x) k') c f.stands);
      }
