-- The check, then the page looked up and touched, then its frame cleared.
use mathlib.Core.Path.{refl, sym}
use Rattle.refusals.proofs.Laws.{not_none}
use Rattle.lookup.specs.Ready.{SeenOf}
use Rattle.lookup.specs.declared.Sight.{Sight}
use Rattle.paging.specs.Fits.{Touchable, RamLong, Due}
use Rattle.paging.proofs.Touches.{touch_ready, touch_refused, did_seen, new_below}
use Rattle.touching.proofs.touch.Goals as goal
use Rattle.touching.proofs.touch.Goals.{In_default}

-- what the check has shown
ready : (c : In_default)
    → let a = c.args in
    Touchable a.head a.space a.page a.index.now a.count.now a.table.now a.helper.now a.stack.now a.cache.now a.link.now
    × RamLong a.head a.ram.now
ready c = touch_ready _ _ _ _ _ _ _ _ _ _ c.args.ram.now _ refl (sym c.in_default.ensures)

-- and what is seen
due : (c : In_default) {seen : Sight}
    → let a = c.args in
    SeenOf a.head a.space a.page a.index.now a.count.now a.table.now a.helper.now a.stack.now a.cache.now seen
    → Due a.head a.space a.page a.index.now a.count.now a.table.now a.helper.now a.stack.now a.cache.now a.link.now seen
due c seen = record { can = (ready c).0; seen = seen }

pub returns-in-Err : goal.returns-in-Err
returns-in-Err c = rw c.from.ensures (touch_refused _ _ _ _ _ _ _ _ _ _ _ _ c.in-Err.ensures (not_none _))

pub see-seen-requires : goal.see-seen-requires
see-seen-requires c = (ready (goal.at.see-seen-requires c).In_default).0.ready

pub returns-in-Mapped : goal.returns-in-Mapped
returns-in-Mapped c =
    let y = ready (goal.at.returns-in-Mapped c).In_default in
    did_seen _ _ _ _ _ _ _ _ _ _ y.0 _ c.in-Mapped.ensures c.args.ram.now y.1

pub touch_seen-out-requires : goal.touch_seen-out-requires
touch_seen-out-requires c = (_, due (goal.at.touch_seen-out-requires c).In_default c.see-seen.ensures)

pub clear_new-requires : goal.clear_new-requires
clear_new-requires c =
    let s = (goal.at.clear_new-requires c).In_default in
    let y = ready s in
    λ f w is.
    record {
      sizes_ok_lem = y.0.ready.sizes_ok_lem;
      below = new_below _ _ _ _ _ (c.touch_seen-out.ensures.by_index _ c.args.ram.now (due s c.see-seen.ensures) y.1) f w is;
      ram_long = y.1;
    }

pub returns : goal.returns
returns c =
    let s = (goal.at.returns c).In_default in
    rw c.clear_new.ensures (c.touch_seen-out.ensures.by_index _ _ (due s c.see-seen.ensures) (ready s).1)
