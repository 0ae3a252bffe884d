-- The plan for what is seen, carried out.
use mathlib.Core.List.{List}
use Prim.Native.Nat.{ℕ}
use Rattle.planning.specs.Fits.{Planned}
use Rattle.planning.proofs.Planning.{seen_reach, planned_as}
use Rattle.paging.specs.Fits.{Due}
use Rattle.paging.proofs.Touches.{touch_mappable, did_old, did_refuse, did_new}
use Rattle.paging.proofs.touch_seen.Goals as goal
use Rattle.paging.proofs.touch_seen.Goals.{After-plan_for}

-- the plan of the page, wherever what was seen is what index and tables say of it
planned : (c : After-plan_for) (index : List ℕ)
    → let a = c.args in
    Due a.head a.space a.page index a.count.now a.table.now a.helper.now a.stack.now a.cache.now a.link.now a.seen
    → Planned a.head a.space a.page index a.count.now a.table.now a.helper.now a.stack.now a.cache.now c.plan_for.result
planned c index due = planned_as _ _ _ _ _ _ _ _ _ _ due.seen _ _ c.all_places.ensures c.plan_for.ensures

pub plan_for-requires : goal.plan_for-requires
plan_for-requires c =
    let due = c.requires.1 in
    seen_reach _ _ _ _ _ _ _ _ _ _ due.seen due.can.ready _ c.all_places.ensures

pub map_page-new-requires : goal.map_page-new-requires
map_page-new-requires c =
    let due = c.requires.1 in
    touch_mappable _ _ _ _ _ _ _ _ _ _ due.can _ (planned (goal.at.map_page-new-requires c).After-plan_for _ due) _ _ (rw c.in-New.is at c.in-Ok.is) _ c.place-p.ensures

pub returns-in-Old-clause-by_index : goal.returns-in-Old-clause-by_index
returns-in-Old-clause-by_index c = λ index ram due long.
    did_old _ _ _ _ _ _ _ _ _ _ due.can _ (planned (goal.at.returns-in-Old-clause-by_index c).After-plan_for index due) ram long _ (rw c.in-Old.is at c.in-Ok.is)

pub returns-in-New-clause-by_index : goal.returns-in-New-clause-by_index
returns-in-New-clause-by_index c = λ index ram due long.
    did_new _ _ _ _ _ _ _ _ _ _ due.can _ (planned (goal.at.returns-in-New-clause-by_index c).After-plan_for index due) ram long _ _ _ _ _ _ _ _ _ _ (rw c.in-New.is at c.in-Ok.is)
    c.place-p.ensures c.map_page-new.ensures

pub returns-in-Err-clause-by_index : goal.returns-in-Err-clause-by_index
returns-in-Err-clause-by_index c = λ index ram due long.
    did_refuse _ _ _ _ _ _ _ _ _ _ due.can _ (planned (goal.at.returns-in-Err-clause-by_index c).After-plan_for index due) ram long _ c.in-Err.is
