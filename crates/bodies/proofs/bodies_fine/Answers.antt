-- One body after another: its regions first, then its pages.
use mathlib.Core.Path.{sym, ◌∙◌}
use native.Mathlib.Omega.{arith}
use Rattle.words.specs.Words.{words_in}
use Rattle.bodies.proofs.Once.{bodies_end, body_bad, body_twice, body_good}
use Rattle.bodies.proofs.bodies_fine.Goals as goal

pub returns-then-not-body_fine : goal.returns-then-not-body_fine
returns-then-not-body_fine c =
    let a = c.args in
    let bad = sym c.body_fine.ensures ∙ c.if-not-body_fine.true in
    (sym (c.loop-i.invariant ∙ body_bad a.pages c.body_at-body.ensures a.spaces c.loop-i-test.true bad), omega arith)

pub returns-then-not-pages_once : goal.returns-then-not-pages_once
returns-then-not-pages_once c =
    let a = c.args in
    let fine = sym c.body_fine.ensures ∙ c.if-not-body_fine.false in
    let twice = sym c.pages_once.ensures.0 ∙ c.if-not-pages_once.true in
    (sym (c.loop-i.invariant ∙ body_twice a.pages c.body_at-body.ensures a.spaces c.loop-i-test.true fine twice), omega arith)

pub loop-i-preserved : goal.loop-i-preserved
loop-i-preserved c =
    let a = c.args in
    let fine = sym c.body_fine.ensures ∙ c.if-not-body_fine.false in
    let once = sym c.pages_once.ensures.0 ∙ c.if-not-pages_once.false in
    c.loop-i.invariant ∙ body_good a.pages c.body_at-body.ensures a.spaces c.loop-i-test.true fine once

pub returns : goal.returns
returns c =
    let a = c.args in
    (sym (c.loop-i.invariant ∙ bodies_end a.pages (words_in a.bytes.now) c.loop-i.i a.spaces c.loop-i-test.false), omega arith)
