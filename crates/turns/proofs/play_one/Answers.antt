-- Five numbers that are no call leave three zeros; a call keeps the step's own promise.
use mathlib.Core.Path.{refl, sym, ◌∙◌}
use native.Mathlib.Omega.{arith}
use borrow.Rule.Slice.PartMut.{mid_len}
use Rattle.turns.proofs.Called.{call_played}
use Rattle.turns.proofs.play_one.Goals as goal

pub returns-in_default : goal.returns-in_default
returns-in_default c =
    rw (sym c.decode.ensures.value ∙ c.in_default.is)
    (record { memory_stays = refl; reply_is = rw c.requires at (c.fill.ensures.after (λ y e. e)); bytes_stay = refl; records_stay = refl })

pub returns : goal.returns
returns c =
    rw (sym c.decode.ensures.value ∙ c.in-Some.is)
    (call_played c.in-Some.field-0 _ _ _ _ _ _ _ _ c.serve-out.ensures
    (c.put.ensures
    ∙ c.encode.ensures c.serve-out.new.buffer _ (omega (arith, mid_len c.in-Some.field-0.parts.from _ c.args.bytes.now c.in-Some.ensures.inside.bytes_fit))))
