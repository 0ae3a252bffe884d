-- The checks, what is seen of the page, and the hand-back of a resident one.
use mathlib.Core.Path.{◌≡◌, sym}
use Rattle.std.specs.Prelude.{Err}
use Rattle.refusals.proofs.Laws.{not_none}
use Rattle.lookup.specs.Ready.{Ready}
use Rattle.giving.proofs.Gives.{number, give_early, page_ready, seated, gives, handed_did}
use Rattle.giving.proofs.give_back.Goals as goal
use Rattle.giving.proofs.give_back.Goals.{In_default}

-- the checks passed
passes : (c : In_default)
    → let a = c.args in
    number a.head a.space a.page a.index.now a.count.now a.table.now a.helper.now a.stack.now a.cache.now a.link.now ≡ 0
passes c = sym c.in_default.ensures

ready : (c : In_default)
    → let a = c.args in
    Ready a.head a.space a.page a.index.now a.count.now a.table.now a.helper.now a.stack.now a.cache.now
ready c = let a = c.args in page_ready _ _ _ _ _ _ _ _ _ a.link.now (passes c)

pub returns-in-Err-clause-by_index : goal.returns-in-Err-clause-by_index
returns-in-Err-clause-by_index c =
    rw c.refused.ensures (give_early _ _ _ _ _ _ _ _ _ _ (Err c.in-Err.no) c.in-Err.ensures (not_none c.in-Err.no))

pub see-requires : goal.see-requires
see-requires c = ready c

pub place-p-requires : goal.place-p-requires
place-p-requires c = let y = ready (goal.at.place-p-requires c).In_default in (y.sizes_ok_lem, y.space, y.page)

pub hand_back-requires : goal.hand_back-requires
hand_back-requires c =
    seated _ _ _ _ _ _ _ _ _ _ (passes (goal.at.hand_back-requires c).In_default) _ c.in-Mapped.ensures _ _
    c.all_places-t.ensures c.place-p.ensures

pub returns-in-Mapped-clause-by_index : goal.returns-in-Mapped-clause-by_index
returns-in-Mapped-clause-by_index c =
    handed_did _ _ _ _ _ _ _ _ _ _ (passes (goal.at.returns-in-Mapped-clause-by_index c).In_default) _ c.in-Mapped.ensures _ _
    c.all_places-t.ensures c.place-p.ensures _ _ _ _ _ c.hand_back.ensures.by_test

pub returns-in-Unmapped-clause-by_index : goal.returns-in-Unmapped-clause-by_index
returns-in-Unmapped-clause-by_index c =
    rw c.refused-in-Unmapped.ensures
    (gives _ _ _ _ _ _ _ _ _ _ (passes (goal.at.returns-in-Unmapped-clause-by_index c).In_default) _ c.in-Unmapped.ensures)

pub returns-in-Outside-clause-by_index : goal.returns-in-Outside-clause-by_index
returns-in-Outside-clause-by_index c =
    rw c.refused-in-Outside.ensures
    (gives _ _ _ _ _ _ _ _ _ _ (passes (goal.at.returns-in-Outside-clause-by_index c).In_default) _ c.in-Outside.ensures)

pub returns-in-Broken-clause-by_index : goal.returns-in-Broken-clause-by_index
returns-in-Broken-clause-by_index c =
    rw c.refused-in-Broken.ensures
    (gives _ _ _ _ _ _ _ _ _ _ (passes (goal.at.returns-in-Broken-clause-by_index c).In_default) _ c.in-Broken.ensures)
