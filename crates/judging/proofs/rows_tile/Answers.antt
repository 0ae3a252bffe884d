-- Row after row, from the first body's start on.
use mathlib.Core.Path.{refl, sym, ap, ◌∙◌}
use Prim.Native.Nat.{◌+◌, ◌/◌}
use native.Mathlib.Omega.{arith}
use lib.Dec.{eqb}
use lib.ListN.{length}
use Rattle.words.specs.Words.{words_in}
use Rattle.words.specs.Laws.{length_words}
use Rattle.judging.proofs.Rows.{row_bad, row_next, rows_end}
use Rattle.judging.proofs.rows_tile.Goals as goal
use Rattle.judging.proofs.rows_tile.Goals.{else-loop-i-test, then-loop-i-test+else-index_at-at+else-i-spaces}

pub returns-then-index_at-at : goal.returns-then-index_at-at
returns-then-index_at-at c =
    sym (row_bad _ _ c.loop-i.i c.loop-i.at c.loop-i.invariant (omega arith)
    (λ e. c.if-index_at-at.true (c.index_at.ensures.0 ∙ e)))

pub loop-i-preserved : goal.loop-i-preserved
loop-i-preserved c =
    let n = c.index_at-at in
    row_next _ _ c.loop-i.i c.loop-i.at c.loop-i.invariant (omega arith) (sym c.index_at.ensures.0 ∙ c.if-index_at-at.false) n.result n.ensures.0 n.ensures.1

-- the loop ends with the row of the pool
pub returns : goal.returns
returns c = elim c.loop-i-test.branch [
  | else-loop-i-test w ↦ absurd (omega arith)
  | then-loop-i-test+else-index_at-at+else-i-spaces w ↦
      let file = c.args.bytes.now in
      let l = c.loop-i in
      let n = w.index_at-at in
      let last = row_next _ _ l.i l.at l.invariant (omega arith) (sym w.index_at.ensures.0 ∙ w.if-index_at-at.false) n.result n.ensures.0 n.ensures.1 in
      rw w.at-is (sym (rows_end (words_in file) c.args.spaces (l.i + 1) (l.at + n.result) last (omega arith)
      ∙ ap (eqb (l.at + n.result)) (length_words (length file / 4) file refl)))
]
