-- Each turn touches the next page by touch's own promise, and clears its frame around the span if it is new; what the checks showed stays.
use Prim.Native.Nat.{◌+◌, ◌<◌}
use native.Mathlib.Omega.{arith}
use Rattle.memory.specs.Memory.{sizes_of}
use Rattle.spans.specs.Shifted.{some_page, space_small}
use Rattle.spans.specs.PartLaws.{next_fits}
use Rattle.mapping.proofs.Touching.{in_span, touched_none, still, zeros_long, new_frame, touched_more}
use Rattle.mapping.proofs.touch_all.Goals as goal
use Rattle.mapping.proofs.touch_all.Goals.{After-page_of-page}

-- the page lies in the space
page_low : (c : After-page_of-page) → c.page_of-page.result < c.args.head.pages
page_low c = in_span c.requires.0 (c.args.address + c.loop-done.done) _ (omega arith) c.page_of-page.ensures

pub loop-done-init : goal.loop-done-init
loop-done-init c = touched_none _ _ _ _ (some_page c.args.head c.requires.0.sizes_ok_lem)

pub overflow_add-x : goal.overflow_add-x
overflow_add-x c = omega (arith, c.requires.0.ends, space_small c.args.head c.requires.0.sizes_ok_lem)

pub touch_checked-touched-requires : goal.touch_checked-touched-requires
touch_checked-touched-requires c =
    still c.loop-done.invariant (c.requires.1 _ (page_low (goal.at.touch_checked-touched-requires c).After-page_of-page))

pub clear_new-requires : goal.clear_new-requires
clear_new-requires c =
    let s = c.loop-done.invariant in
    let g = c.requires.0 in (
      new_frame s g (c.touch_checked-touched.ensures.by_index _ (zeros_long s g)),
      next_fits (sizes_of c.args.head) _ _ _ _ (some_page c.args.head g.sizes_ok_lem) c.loop-done-test.true c.part-size.ensures,
    )

pub loop-done-preserved : goal.loop-done-preserved
loop-done-preserved c =
    let s = c.loop-done.invariant in
    let g = c.requires.0 in
    let can = c.requires.1 _ (page_low (goal.at.loop-done-preserved c).After-page_of-page) in
    touched_more s g c.loop-done-test.true _ c.part-size.ensures _ c.page_of-page.ensures c.touch_checked-touched.result.answer _
    (c.touch_checked-touched.ensures.by_index _ (zeros_long s g)) c.touch_checked-touched.ensures.table_after c.clear_new.ensures
    can.ready.table_long
