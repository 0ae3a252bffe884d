-- A bad line, a start beyond the limits, or the call and its answer.
use mathlib.Core.Path.{refl, sym, ◌∙◌}
use native.Mathlib.Omega.{arith}
use Rattle.digits.specs.Laws.{wrote_none}
use Rattle.lines.proofs.Laws.{bad_answered, beyond_answered, short_answered, call_answered}
use Rattle.session.proofs.answer_line.Goals as goal

pub returns-in_default : goal.returns-in_default
returns-in_default c =
    bad_answered _ _ _ _ _ _ _ _ _ _ _
    (sym c.parse.ensures ∙ c.in_default.is)
    (record { memory_stays = refl; buffer_stays = refl; records_stay = refl; wrote = c.say_bad_line.ensures })

pub returns-then-is_beyond : goal.returns-then-is_beyond
returns-then-is_beyond c =
    beyond_answered _ _ _ _ _ _ _ _ _ _ _ _ _ (sym c.parse.ensures ∙ c.in-Some.is)
    (sym c.is_beyond.ensures ∙ c.if-is_beyond.true)
    (record { memory_stays = refl; buffer_stays = refl; records_stay = refl; wrote = c.say_refused.ensures })

pub returns-then-buffer-n : goal.returns-then-buffer-n
returns-then-buffer-n c =
    short_answered _ _ _ _ _ _ _ _ _ _ _ _ _ (sym c.parse.ensures ∙ c.in-Some.is)
    (sym c.is_beyond.ensures ∙ c.if-is_beyond.false) c.if-buffer-n.true
    (record { memory_stays = refl; buffer_stays = refl; records_stay = refl; wrote = wrote_none _ _ })

pub returns : goal.returns
returns c =
    call_answered _ _ _ _ _ _ _ _ _ _ _ _ _ (sym c.parse.ensures ∙ c.in-Some.is)
    (sym c.is_beyond.ensures ∙ c.if-is_beyond.false) c.if-buffer-n.false
    (rw (← c.fill.ensures) (omega arith))
    c.answer_call.new.bytes (rw (← c.fill.ensures) c.answer_call.ensures) (rw (← c.fill.ensures) refl)
