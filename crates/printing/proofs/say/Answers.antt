-- With room and without.
use Rattle.std.proofs.Common.{sym, ◌∙◌, rules, arith}
use Rattle.printing.specs.Writing.{Says}
use Rattle.printing.proofs.Saying.{no_room, many_bytes, many_records, said_in_room}
use Rattle.printing.proofs.say.Goals as goal
use Rattle.printing.proofs.say.Goals.{then-not-has_room-via-then-not-has_room, then-not-has_room-via-else-not-has_room+then-bytes-gt-MOST_BYTES, then-not-has_room-via-else-not-has_room+else-bytes-gt-MOST_BYTES+then-records-gt-MOST_NUMBERS}

pub returns-then-not-has_room : goal.returns-then-not-has_room
returns-then-not-has_room c =
    elim c.then-not-has_room.branch [
      | then-not-has_room-via-then-not-has_room w ↦ rw w.out-is (no_room _ _ _ _ _ (sym c.has_room.ensures ∙ w.if-not-has_room.true))
      | then-not-has_room-via-else-not-has_room+then-bytes-gt-MOST_BYTES w ↦ rw w.out-is (many_bytes _ _ _ _ _ (omega arith))
      | then-not-has_room-via-else-not-has_room+else-bytes-gt-MOST_BYTES+then-records-gt-MOST_NUMBERS w ↦ rw w.out-is (many_records _ _ _ _ _ (omega arith))
    ]

pub returns : goal.returns
returns c =
    let a = c.args in
    let t = c.put_reply.new.text in
    let said : Says a.at a.out.now a.reply a.bytes.now a.records.now t.at t.out.now =
    said_in_room _ _ _ _ _ (sym c.has_room.ensures ∙ c.if-not-has_room.false) (omega arith) (omega arith) c.put_reply.ensures.wrote in
    search (rules, said)
