-- Behind the frames before them; or the first of them is the pool's first.
use Prim.Native.Nat.{◌<◌}
use native.Mathlib.Omega.{arith}
use lib.ListN.{length}
use Rattle.words.specs.Words.{words_in}
use Rattle.distinct.specs.Distinct.{picked}
use Rattle.distinct.specs.Laws.{reach_rest}
use Rattle.founding.proofs.Laying.{cons_low, lays_zero, lays_behind, lays_picked, first_low}
use Rattle.founding.proofs.lay_part.Goals as goal

pub returns-then-n-eq0 : goal.returns-then-n-eq0
returns-then-n-eq0 c =
    let a = c.args in
    lays_zero a.before a.link.now (words_in a.bytes.now) a.from a.step a.n c.if-n-eq0.true c.requires.2

pub lay-last-requires-in-None : goal.lay-last-requires-in-None
lay-last-requires-in-None c =
    let a = c.args in
    let some : 0 < a.n = omega (arith, c.if-n-eq0.false) in (
      reach_rest (length a.bytes.now) a.from a.step a.n c.requires.0 some,
      c.requires.1,
      first_low (words_in a.bytes.now) a.from a.step a.n c.word_at-first.result some c.word_at-first.ensures a.link.now c.requires.3,
    )

pub returns-in-Some : goal.returns-in-Some
returns-in-Some c =
    let a = c.args in
    let l = c.in-Some.laid in
    let frames = picked (words_in a.bytes.now) a.from a.step a.n in
    let laid = c.lay-last.ensures in
    rw c.in-Some.is (lays_behind l a.link.now frames (cons_low a.link.now l.last frames (rw c.in-Some.is at c.requires.2) c.requires.3) _ _ laid.0 laid.1)

pub returns-in-None : goal.returns-in-None
returns-in-None c =
    let a = c.args in
    let some : 0 < a.n = omega (arith, c.if-n-eq0.false) in
    let laid = c.lay-last-in-None.ensures in
    rw c.in-None.is
    (lays_picked (words_in a.bytes.now) a.from a.step a.n c.word_at-first.result some c.word_at-first.ensures a.link.now c.requires.3 _ _ laid.0 laid.1)
