-- One page after another, up to the first that lies outside.
use mathlib.Core.Path.{sym, ◌∙◌}
use Prim.Native.Nat.{◌≤◌, ◌<◌}
use Rattle.std.proofs.Common.{rules}
use Rattle.words.specs.Words.{words_in}
use Rattle.walking.proofs.Fine.{page_outside, page_inside, pages_end}
use Rattle.walking.proofs.pages_within.Goals as goal

pub returns-then-not-contains : goal.returns-then-not-contains
returns-then-not-contains c =
    let a = c.args in
    let w = c.index_at-page in
    let outside : a.lo ≤ w.result → a.hi ≤ w.result = search rules in
    sym (c.loop-k.invariant ∙ page_outside a.lo a.hi (words_in a.bytes.now) a.from a.n c.loop-k.k w.result c.loop-k-test.true w.ensures.0 outside)

pub loop-k-preserved : goal.loop-k-preserved
loop-k-preserved c =
    let a = c.args in
    let w = c.index_at-page in
    let low : a.lo ≤ w.result = search rules in
    let high : w.result < a.hi = search rules in
    c.loop-k.invariant ∙ page_inside a.lo a.hi (words_in a.bytes.now) a.from a.n c.loop-k.k w.result c.loop-k-test.true w.ensures.0 low high

pub returns : goal.returns
returns c =
    let a = c.args in
    sym (c.loop-k.invariant ∙ pages_end a.lo a.hi (words_in a.bytes.now) a.from a.n c.loop-k.k c.loop-k-test.false)
