-- Third word after third word.
use Prim.Native.Nat.{◌+◌}
use native.Mathlib.Omega.{arith}
use Rattle.words.specs.Words.{words_in}
use Rattle.judging.proofs.Rows.{Telling, told_next, all_told}
use Rattle.judging.proofs.frames_told.Goals as goal
use Rattle.judging.proofs.frames_told.Goals.{After-count_at-told}

next : (c : After-count_at-told) → Telling (words_in c.args.bytes.now) c.args.spaces (c.loop-i.i + 1) (c.loop-i.told + c.count_at-told.result)
next c =
    let n = c.count_at-told in
    told_next _ _ c.loop-i.i c.loop-i.told c.loop-i.invariant (omega arith) n.result n.ensures.0 n.ensures.1

pub loop-i-preserved : goal.loop-i-preserved
loop-i-preserved c = next (goal.at.loop-i-preserved c).After-count_at-told

pub returns-2 : goal.returns-2
returns-2 c = all_told _ _ _ _ (next (goal.at.returns-2 c).After-count_at-told) (omega arith)
