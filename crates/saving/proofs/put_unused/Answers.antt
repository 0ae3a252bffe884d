-- The loop's invariant: the frames from `frame` on are still to be stored.
use Rattle.std.specs.Prelude.{◌≡◌, ◌+◌, ◌-◌}
use Rattle.std.proofs.Common.{arith}
use Rattle.saving.specs.Storing.{still_to_store, one_room, one_stored, all_stored}
use Rattle.saving.specs.Steps.{rest_next, rest_done}
use Rattle.saving.proofs.put_unused.Goals as goal

pub put_word-requires : goal.put_word-requires
put_word-requires c =
    let l = c.loop-frame in
    rw c.wide.ensures (one_room c.requires (still_to_store l.invariant (rest_next (λ f. f) l.frame c.args.frames c.loop-frame-test.true)))

pub loop-frame-preserved : goal.loop-frame-preserved
loop-frame-preserved c =
    let l = c.loop-frame in
    let next = rest_next (λ f. f) l.frame c.args.frames c.loop-frame-test.true in
    let on : c.args.word + (l.frame + 1 - c.args.fresh) ≡ c.args.word + (l.frame - c.args.fresh) + 1 = omega arith in
    rw on (one_stored (still_to_store l.invariant next) (rw c.wide.ensures at c.put_word.ensures))

pub returns : goal.returns
returns c =
    let l = c.loop-frame in
    (all_stored (still_to_store l.invariant (rest_done (λ f. f) l.frame c.args.frames c.loop-frame-test.false))).is
