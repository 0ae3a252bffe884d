-- One body after another: its starts go into the index.
use Prim.Native.Nat.{◌*◌}
use Rattle.words.specs.Words.{words_in}
use Rattle.founding.proofs.Marking.{no_space_marked, space_marked}
use Rattle.founding.proofs.mark_all.Goals as goal

pub loop-i-init : goal.loop-i-init
loop-i-init c =
    let a = c.args in
    no_space_marked a.pages (words_in a.bytes.now) (a.spaces * a.pages) a.index.now

pub loop-i-preserved : goal.loop-i-preserved
loop-i-preserved c =
    let a = c.args in
    space_marked a.pages (words_in a.bytes.now) c.loop-i.i c.loop-i.invariant (rw (← c.body_at.ensures.part) c.mark_body.ensures)
