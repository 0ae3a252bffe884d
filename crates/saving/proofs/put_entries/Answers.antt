-- The loop's invariant: the pages from number j on are still to be stored.
use Rattle.std.specs.Prelude.{◌≡◌, ◌+◌, ◌*◌, ◌<◌}
use Rattle.std.proofs.Common.{arith}
use Rattle.saving.specs.Storing.{still_to_store, part_room, part_stored, all_stored}
use Rattle.saving.specs.Steps.{entries_next, entries_done}
use Rattle.saving.proofs.put_entries.Goals as goal

pub put_words-requires : goal.put_words-requires
put_words-requires c =
    let e = c.args in
    let inside : e.a + c.loop-j.j < e.a + e.n = omega arith in
    let next = entries_next e.table.now e.stack.now e.lo {next = e.a + (c.loop-j.j + 1)} inside (omega arith)
    c.word_or-q.ensures c.page_of.ensures c.wide.ensures c.word_or.ensures in
    (omega arith, part_room c.requires.2 c.loop-j.invariant next)

pub loop-j-preserved : goal.loop-j-preserved
loop-j-preserved c =
    let e = c.args in
    let inside : e.a + c.loop-j.j < e.a + e.n = omega arith in
    let next = entries_next e.table.now e.stack.now e.lo inside (omega arith)
    c.word_or-q.ensures c.page_of.ensures c.wide.ensures c.word_or.ensures in
    let on : e.word + 2 * (c.loop-j.j + 1) ≡ e.word + 2 * c.loop-j.j + 2 = omega arith in
    rw on (part_stored c.loop-j.invariant next c.put_words.ensures)

pub returns : goal.returns
returns c =
    let e = c.args in
    let all : c.loop-j.j ≡ e.n = omega arith in
    let none = entries_done e.table.now e.stack.now e.lo (e.a + c.loop-j.j) (e.a + e.n) (omega arith) in
    rw all at (all_stored (still_to_store c.loop-j.invariant none))
