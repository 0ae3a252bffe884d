-- A page's part at a time: the bytes before `done` are copied.
use mathlib.Core.Path.{refl}
use Prim.Native.Nat.{◌+◌, ◌<◌, ◌≤◌}
use native.Mathlib.Omega.{arith}
use lib.ListN.{length}
use Rattle.spans.specs.Shifted.{space_small}
use Rattle.spans.specs.PartLaws.{next_some, next_within}
use Rattle.reading.proofs.Copies.{copying_none, copying_more, copying_all}
use Rattle.reading.proofs.copy_out.Goals as goal
use Rattle.reading.proofs.copy_out.Goals.{After-part}

-- the next part is not empty and ends within the buffer
module _ (c : After-part) where
  some : 0 < c.part.result
  some = next_some _ _ _ _ _ c.requires.0 _ _ c.loop-done-test.true c.part.ensures

  within : c.loop-done.done + c.part.result ≤ length c.args.buffer.now
  within = next_within _ _ _ _ _ c.requires.0 _ _ c.loop-done-test.true c.part.ensures

pub loop-done-init : goal.loop-done-init
loop-done-init c = copying_none _ _ _ _ _ _ _ refl

pub overflow_add-x : goal.overflow_add-x
overflow_add-x c = omega (arith, space_small c.args.head c.requires.0.sizes_ok_lem, c.requires.0.ends)

pub loop-done-preserved : goal.loop-done-preserved
loop-done-preserved c =
    copying_more _ _ _ _ _ _ _ _ _ _ c.loop-done.invariant (within (goal.at.loop-done-preserved c).After-part) c.buffer-1.given.0 c.read_part.ensures

pub returns : goal.returns
returns c = copying_all _ _ _ _ _ _ _ _ c.loop-done.invariant c.loop-done-test.false
