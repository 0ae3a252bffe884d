-- One entry after another: its page is mapped.
use mathlib.Core.List.{[]}
use Prim.Native.Nat.{◌+◌}
use native.Mathlib.Omega.{arith}
use Rattle.words.specs.Words.{words_in}
use Rattle.memory.specs.Memory.{memory}
use Rattle.filling.specs.Filling.{CanMap}
use Rattle.filling.proofs.Pages.{all_filled, next_can, one_filled}
use Rattle.filling.proofs.fill_region.Goals as goal
use Rattle.filling.proofs.fill_region.Goals.{After-index_at}

can : (c : After-index_at)
    → let a = c.args in
    let l = c.loop-k in
    CanMap (memory l.after [] l.count l.table l.helper l.stack l.cache l.link []) a.a (a.lo + c.index_at.result)
can c =
    let l = c.loop-k in
    let a = c.args in
    next_can a.lo (words_in a.bytes.now) a.first a.n l.k l.invariant c.loop-k-test.true c.index_at.result c.index_at.ensures.0

pub overflow_add-p : goal.overflow_add-p
overflow_add-p c = omega (arith, (can (goal.at.overflow_add-p c).After-index_at).small)

pub fill_page-after-requires : goal.fill_page-after-requires
fill_page-after-requires c = can (goal.at.fill_page-after-requires c).After-index_at

pub loop-k-preserved : goal.loop-k-preserved
loop-k-preserved c =
    let w = c.index_at in
    let l = c.loop-k in
    let a = c.args in
    one_filled a.lo (words_in a.bytes.now) a.first a.n l.k l.invariant c.loop-k-test.true w.result w.ensures.0 c.fill_page-after.ensures

pub returns : goal.returns
returns c =
    let l = c.loop-k in
    let a = c.args in
    all_filled a.lo (words_in a.bytes.now) a.first a.n l.k l.invariant c.loop-k-test.false
