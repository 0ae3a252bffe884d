-- One part after another, each within its page.
use Prim.Native.Nat.{◌+◌, ◌≤◌}
use native.Mathlib.Omega.{arith}
use lib.ListN.{length}
use Rattle.spans.specs.Shifted.{space_small}
use Rattle.spans.specs.PartLaws.{next_within}
use Rattle.storing.proofs.Storing.{storing_more, storing_all}
use Rattle.storing.proofs.store.Goals as goal
use Rattle.storing.proofs.store.Goals.{After-part, In-loop-done}

-- the span ends far below the greatest number
ends_low : (c : In-loop-done) → let a = c.args in a.address + length a.bytes.now ≤ 17179869184
ends_low c = omega (arith, c.requires.0.ends, space_small c.args.head c.requires.0.sizes_ok_lem)

within : (c : After-part) → c.loop-done.done + c.part.result ≤ length c.args.bytes.now
within c = next_within _ _ _ _ _ c.requires.0 _ _ c.loop-done-test.true c.part.ensures

pub overflow_add-x : goal.overflow_add-x
overflow_add-x c = omega (arith, ends_low (goal.at.overflow_add-x c).In-loop-done)

pub loop-done-preserved : goal.loop-done-preserved
loop-done-preserved c =
    storing_more _ _ _ _ _ _ _ _ _ _ c.loop-done.invariant (within (goal.at.loop-done-preserved c).After-part) c.write_part.ensures

pub returns : goal.returns
returns c = storing_all _ _ _ _ _ _ _ _ c.loop-done.invariant c.loop-done-test.false
