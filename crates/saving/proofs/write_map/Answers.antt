-- The check, the count, whether there is room; then the file.
use Rattle.std.specs.Prelude.{[]}
use Rattle.std.proofs.Common.{arith}
use Rattle.std.proofs.lemmas.Result.{err_from_is_err_and}
use Rattle.memory.specs.Memory.{memory}
use Rattle.saving.proofs.Promise.{map_did}
use Rattle.saving.proofs.Called.{refused_first, walk_all, refused_damaged, refused_short, can_store, bytes_fit, saved_whole}
use Rattle.saving.proofs.write_map.Goals as goal

pub returns-in_err-check : goal.returns-in_err-check
returns-in_err-check c =
    let p = err_from_is_err_and c.from_residual.result c.from_residual.ensures.1 in
    λ helper cache ram. rw (p.1, p.2) (map_did _ _ _ _ (refused_first _ _ c.in_err-check.ensures))

pub tally_between-t-requires : goal.tally_between-t-requires
tally_between-t-requires c =
    let a = c.args in
    walk_all (memory a.head a.index.now a.count.now a.table.now [] a.stack.now [] a.link.now [])
    c.in_ok-check.ensures c.all_places.ensures

pub returns-then-not-adds_up : goal.returns-then-not-adds_up
returns-then-not-adds_up c =
    λ helper cache ram.
    map_did _ _ _ _
    (refused_damaged _ c.in_ok-check.ensures c.all_places.ensures c.tally_between-t.ensures c.adds_up.ensures
    _ c.if-not-adds_up.true)

pub returns-then-file-bytes : goal.returns-then-file-bytes
returns-then-file-bytes c =
    λ helper cache ram.
    map_did _ _ _ _
    (refused_short _ c.in_ok-check.ensures c.all_places.ensures c.tally_between-t.ensures c.adds_up.ensures
    c.if-not-adds_up.false c.wide.ensures c.free_frames.ensures.0 c.args.file.now c.if-file-bytes.true)

pub store-requires : goal.store-requires
store-requires c =
    can_store _ c.in_ok-check.ensures c.all_places.ensures c.tally_between-t.ensures c.adds_up.ensures
    c.if-not-adds_up.false c.wide.ensures c.free_frames.ensures.0 _ c.if-file-bytes.false

pub overflow_cast-length : goal.overflow_cast-length
overflow_cast-length c =
    let a = c.args in
    let fits = bytes_fit (memory a.head a.index.now a.count.now a.table.now [] a.stack.now [] a.link.now [])
    c.in_ok-check.ensures c.all_places.ensures c.tally_between-t.ensures c.adds_up.ensures
    c.if-not-adds_up.false c.wide.ensures c.free_frames.ensures.0 in
    omega arith

pub returns : goal.returns
returns c =
    λ helper cache ram.
    map_did _ _ _ _
    (saved_whole _ c.in_ok-check.ensures c.all_places.ensures c.tally_between-t.ensures c.adds_up.ensures
    c.if-not-adds_up.false c.wide.ensures c.free_frames.ensures.0 _ c.if-file-bytes.false c.store.ensures)
