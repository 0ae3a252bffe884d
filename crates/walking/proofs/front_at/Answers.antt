-- What each test of a head says of the body.
use Prim.Native.Nat.{◌≤◌}
use lib.ListN.{length}
use Rattle.words.specs.Words.{words_in}
use Rattle.words.specs.Laws.{words_long}
use Rattle.walking.proofs.Fine.{head_cut, entries_cut, other_start, no_pages, beyond}
use Rattle.walking.proofs.front_at.Goals as goal
use Rattle.walking.proofs.front_at.Goals.{Start}

long : (s : Start) → s.args.to ≤ length (words_in s.args.bytes.now)
long s = words_long s.args.to s.args.bytes.now s.requires.1

pub returns-then-to-at-lt3 : goal.returns-then-to-at-lt3
returns-then-to-at-lt3 c =
    let a = c.args in
    head_cut a.pages a.next (words_in a.bytes.now) a.at a.to (long (goal.at.returns-then-to-at-lt3 c).Start) c.requires.0 c.if-to-at-lt3.true

pub returns-then-to-at : goal.returns-then-to-at
returns-then-to-at c =
    let a = c.args in
    entries_cut a.pages a.next (words_in a.bytes.now) a.at a.to (long (goal.at.returns-then-to-at c).Start) c.index_at-entries.result c.index_at-entries.ensures.0
    c.if-to-at-lt3.false c.if-to-at.true

pub returns-then-start-next : goal.returns-then-start-next
returns-then-start-next c =
    let a = c.args in
    other_start a.pages a.next (words_in a.bytes.now) a.at a.to (long (goal.at.returns-then-start-next c).Start) c.index_at-entries.result c.index_at-entries.ensures.0
    c.if-to-at-lt3.false c.if-to-at.false c.index_at-start.result c.index_at-start.ensures.0 c.if-start-next.true

pub returns-then-length-eq0 : goal.returns-then-length-eq0
returns-then-length-eq0 c =
    let a = c.args in
    no_pages a.pages a.next (words_in a.bytes.now) a.at a.to (long (goal.at.returns-then-length-eq0 c).Start) c.index_at-entries.result c.index_at-entries.ensures.0
    c.if-to-at-lt3.false c.if-to-at.false c.index_at-start.result c.index_at-start.ensures.0 c.if-start-next.false
    c.index_at-length.result c.index_at-length.ensures.0 c.if-length-eq0.true

pub returns-then-pages-next : goal.returns-then-pages-next
returns-then-pages-next c =
    let a = c.args in
    beyond a.pages a.next (words_in a.bytes.now) a.at a.to (long (goal.at.returns-then-pages-next c).Start) c.index_at-entries.result c.index_at-entries.ensures.0
    c.if-to-at-lt3.false c.if-to-at.false c.index_at-start.result c.index_at-start.ensures.0 c.if-start-next.false
    c.index_at-length.result c.index_at-length.ensures.0 c.if-length-eq0.false c.if-pages-next.true
