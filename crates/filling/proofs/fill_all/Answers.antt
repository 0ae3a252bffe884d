-- One body after another: its pages are mapped.
use mathlib.Core.Path.{◌∙◌, ap}
use Prim.Native.Nat.{◌≤◌}
use native.Mathlib.Nat.{mul-le-mul_right}
use native.Mathlib.Omega.{arith}
use Rattle.machine.specs.Map.{whole_from}
use Rattle.filling.proofs.Bodies.{begin_spaces, spaces_filled, space_can, space_filled}
use Rattle.filling.proofs.fill_all.Goals as goal

pub loop-i-init : goal.loop-i-init
loop-i-init c = begin_spaces c.requires.2

pub fill_body-after-requires : goal.fill_body-after-requires
fill_body-after-requires c =
    let body = c.body_at in
    let l = c.loop-i in
    let before : l.i ≤ c.args.spaces = omega arith in (
      body.ensures.low,
      body.ensures.inside,
      omega (arith, c.requires.0, mul-le-mul_right c.args.pages before),
      ap (whole_from 0) body.ensures.part ∙ c.requires.1.whole l.i c.loop-i-test.true,
      space_can l.invariant c.loop-i-test.true body.result.first body.result.to body.ensures.part,
    )

pub loop-i-preserved : goal.loop-i-preserved
loop-i-preserved c =
    let body = c.body_at in
    space_filled c.loop-i.invariant c.loop-i-test.true body.result.first body.result.to body.ensures.part c.fill_body-after.ensures

pub returns : goal.returns
returns c = spaces_filled c.loop-i.invariant c.loop-i-test.false
