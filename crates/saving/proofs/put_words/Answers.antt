-- The loop's invariant: the first k words are stored.
use Rattle.std.proofs.Common.{refl, arith}
use Rattle.std.proofs.lemmas.List.{take_more}
use Rattle.words.specs.Words.{bytes_of}
use Rattle.saving.specs.Storing.{then_one_stored}
use Rattle.saving.proofs.put_words.Goals as goal

pub loop-k-init : goal.loop-k-init
unfolding bytes_of
loop-k-init g c = record { is = refl; next = omega arith }

pub loop-k-preserved : goal.loop-k-preserved
loop-k-preserved g c =
    let k = c.loop-k.k in
    let more = take_more c.args.words k 0 (omega arith) in
    rw more (then_one_stored _ c.loop-k.invariant c.put_word.ensures (omega arith))
