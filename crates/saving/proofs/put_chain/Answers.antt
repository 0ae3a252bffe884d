-- The loop's invariant: the frames from f on are still to be stored.
use Rattle.std.specs.Prelude.{◌≡◌, ◌+◌, ◌-◌, ◌<◌}
use Rattle.std.proofs.Common.{arith}
use Rattle.saving.specs.Storing.{still_to_store, one_room, one_stored, all_stored}
use Rattle.saving.specs.Steps.{chain_next, chain_done, chain_on}
use Rattle.saving.proofs.put_chain.Goals as goal

pub put_word-requires : goal.put_word-requires
put_word-requires c =
    let l = c.loop-k in
    one_room c.requires (still_to_store l.invariant (chain_next c.args.link.now l.f (c.args.n - l.k) (omega arith)))

pub loop-k-preserved : goal.loop-k-preserved
loop-k-preserved c =
    let l = c.loop-k in
    let some : 0 < c.args.n - l.k = omega arith in
    let next = chain_on c.args.link.now l.f (c.args.n - l.k) some c.wide.ensures c.word_or-f.ensures in
    let on : c.args.word + (l.k + 1) ≡ c.args.word + l.k + 1 = omega arith in
    let less : c.args.n - (l.k + 1) ≡ c.args.n - l.k - 1 = omega arith in
    rw (on, less) (one_stored (still_to_store l.invariant next) c.put_word.ensures)

pub returns : goal.returns
returns c =
    let l = c.loop-k in
    let all : l.k ≡ c.args.n = omega arith in
    rw all at (all_stored (still_to_store l.invariant (chain_done c.args.link.now l.f (c.args.n - l.k) (omega arith))))
