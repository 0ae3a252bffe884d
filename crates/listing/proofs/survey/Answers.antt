-- The check, the count, then whether there is room.
use Rattle.std.proofs.Common.{arith}
use Rattle.std.proofs.lemmas.Result.{err_from_is_err_and}
use Rattle.listing.proofs.Called.{refused_early, first_pass, space_inside, short, to_tell}
use Rattle.listing.proofs.survey.Goals as goal

pub returns-in_err-check : goal.returns-in_err-check
returns-in_err-check c =
    let p = err_from_is_err_and c.from_residual.result c.from_residual.ensures.1 in
    rw (p.1, p.2) (refused_early _ _ _ _ _ _ c.in_err-check.ensures)

pub place-lo-requires : goal.place-lo-requires
place-lo-requires c = first_pass _ _ _ _ c.in_ok-check.ensures

pub count_regions-requires : goal.count_regions-requires
count_regions-requires c =
    let inside = space_inside _ _ _ _ c.in_ok-check.ensures _ _ _ c.all_places-places.ensures c.place-lo.ensures c.wide.ensures in
    (omega arith, inside.1)

pub returns-then-room-left : goal.returns-then-room-left
returns-then-room-left c =
    short _ _ _ _ _ c.in_ok-check.ensures _ _ _ c.all_places-places.ensures c.place-lo.ensures c.wide.ensures
    _ _ c.count_regions.ensures c.wide-left.ensures c.if-room-left.true

pub returns : goal.returns
returns c =
    to_tell _ _ _ _ _ c.in_ok-check.ensures _ _ _ c.all_places-places.ensures c.place-lo.ensures c.wide.ensures
    _ _ c.count_regions.ensures c.wide-left.ensures c.if-room-left.false (omega arith)
