-- The first page's refusal, or whether the pool has a frame for each absent page.
use mathlib.Core.Path.{refl, sym, ap}
use Rattle.std.proofs.lemmas.Result.{err_from_is_err_and}
use Rattle.spans.specs.Spans.{absence_of}
use Rattle.surveying.proofs.Settling.{LookedUp, in_region, settled_refused, settled_short, settled_enough, settled_broken}
use Rattle.surveying.proofs.settle.Goals as goal
use Rattle.surveying.proofs.settle.Goals.{After-look_checked-found}

looked_up : (c : After-look_checked-found)
    → let a = c.args in
    LookedUp a.head a.space a.first a.absent a.index.now a.count.now a.table.now a.helper.now a.stack.now a.cache.now
    (absence_of c.look_checked-found.result)
looked_up c =
    record {
      ready = c.requires.1 c.args.first c.requires.0;
      found = c.look_checked-found.result;
      looks = c.look_checked-found.ensures;
      no_is = refl;
    }

pub look_checked-found-requires : goal.look_checked-found-requires
look_checked-found-requires c = c.requires.1 c.args.first c.requires.0

pub returns-in-Err : goal.returns-in-Err
returns-in-Err c =
    settled_refused _ _ _ _ _ _ _ _ _ _
    (record {
      ready = c.requires.1 c.args.first c.requires.0;
      found = c.look_checked-found.result;
      looks = c.look_checked-found.ensures;
      no_is = sym (ap absence_of c.in-Err.is);
    })
    _ c.in-Err.is refl

-- the free frames, of a first page that has a region
pub returns-in_err-free : goal.returns-in_err-free
returns-in_err-free c =
    let p = err_from_is_err_and c.from_residual.result c.from_residual.ensures.1 in
    rw (p.1, p.2)
    (settled_broken _ _ _ _ _ _ _ _ _ _ (looked_up (goal.at.returns-in_err-free c).After-look_checked-found) (in_region _ _ c.in_default.is) _
    (c.free.ensures _ _ _ _ _ _) _ c.in_err-free.was)

pub returns-then-branch-absent : goal.returns-then-branch-absent
returns-then-branch-absent c =
    settled_short _ _ _ _ _ _ _ _ _ _ (looked_up (goal.at.returns-then-branch-absent c).After-look_checked-found) (in_region _ _ c.in_default.is) _
    (c.free.ensures _ _ _ _ _ _) _ c.in_ok-free.was c.if-branch-absent.true

pub returns : goal.returns
returns c =
    settled_enough _ _ _ _ _ _ _ _ _ _ (looked_up (goal.at.returns c).After-look_checked-found) (in_region _ _ c.in_default.is) _
    (c.free.ensures _ _ _ _ _ _) _ c.in_ok-free.was c.if-branch-absent.false
