-- With room and without.
use Rattle.std.proofs.Common.{[], sym, ◌∙◌, rules, arith}
use Rattle.requests.specs.declared.Reply.TheVariants.{Refused}
use Rattle.printing.specs.Writing.{Says}
use Rattle.printing.proofs.Saying.{no_room, said_in_room}
use Rattle.printing.proofs.say_refused.Goals as goal

pub returns-then-not-has_room : goal.returns-then-not-has_room
returns-then-not-has_room c = no_room _ _ _ _ _ (sym c.has_room.ensures ∙ c.if-not-has_room.true)

pub returns : goal.returns
returns c =
    let a = c.args in
    let t = c.put_pair.new.self in
    let said : Says a.at a.out.now (Refused a.k) [] [] t.at t.out.now =
    said_in_room _ _ _ _ _ (sym c.has_room.ensures ∙ c.if-not-has_room.false) (omega arith) (omega arith)
    (rw c.from.ensures at c.put_pair.ensures.added.wrote) in
    search (rules, said)
