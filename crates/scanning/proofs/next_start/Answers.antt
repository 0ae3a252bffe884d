-- Each step finds the first start or passes words without any.
use Rattle.std.specs.Prelude.{◌<◌, ◌^◌, ◌/◌, get_or}
use Rattle.std.proofs.Common.{arith}
use Rattle.scanning.specs.Starts.{none_more, empty_none, next_is, none_left, found_is}
use Rattle.scanning.proofs.next_start.Goals as goal

pub returns-then-rest-ne0 : goal.returns-then-rest-ne0
returns-then-rest-ne0 c =
    let ws = c.args.index.now in
    let q = c.loop-q.q in
    let fits : get_or ws (q / 64) 0 < 2 ^ 64 = omega (arith, c.type_inv.index (q / 64)) in
    rw c.min.ensures
    (found_is ws q fits c.if-rest-ne0.true c.args.p c.args.end (omega arith) (omega arith) c.loop-q.invariant.1)

pub loop-q-preserved : goal.loop-q-preserved
loop-q-preserved c =
    let l = c.loop-q in
    let passed = c.pass_empty-q.ensures in
    let on = passed.forward (omega arith) in
    (omega arith, none_more _ l.invariant.1 (none_more _ (none_left _ l.q c.if-rest-ne0.false) (empty_none _ _ _ passed.passed)))

pub returns : goal.returns
returns c =
    let l = c.loop-q in
    next_is _ _ _ _ (omega arith) (omega arith) (λ i a b. l.invariant.1 i a (omega arith)) (λ h. absurd (omega arith))
