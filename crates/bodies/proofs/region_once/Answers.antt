-- One window after another, up to the end of the region.
use mathlib.Core.Path.{refl, sym, ◌∙◌}
use mathlib.Core.List.{List}
use Prim.Native.Nat.{ℕ}
use native.Mathlib.Omega.{arith}
use Rattle.words.specs.Words.{words_in}
use Rattle.distinct.specs.Distinct.{picked}
use Rattle.bodies.proofs.Once.{once_begin, once_end, few_once, window_good, window_bad}
use Rattle.bodies.proofs.region_once.Goals as goal
use Rattle.bodies.proofs.region_once.Goals.{Start}

abbrev pages : Start → List ℕ
pages s = picked (words_in s.args.bytes.now) s.args.from 2 s.args.n

pub returns-then-n-lt2 : goal.returns-then-n-lt2
returns-then-n-lt2 c =
    let a = c.args in
    ((λ t room. sym (few_once a.lo a.hi t room (words_in a.bytes.now) a.from a.n c.if-n-lt2.true c.requires.1)), refl)

pub loop-at-init : goal.loop-at-init
loop-at-init c = λ t room. once_begin c.args.lo c.args.hi t room (pages (goal.at.loop-at-init c).Start) c.requires.1

pub returns-then-not-window_new : goal.returns-then-not-window_new
returns-then-not-window_new c =
    let l = c.loop-at in
    let bad = sym c.window_new.ensures.0 ∙ c.if-not-window_new.true in (
      (λ t room. sym (l.invariant t room ∙ window_bad t l.at c.min-size.result (omega arith) (pages (goal.at.returns-then-not-window_new c).Start) bad)),
      omega arith,
    )

pub loop-at-preserved : goal.loop-at-preserved
loop-at-preserved c =
    let l = c.loop-at in
    let good = sym c.window_new.ensures.0 ∙ c.if-not-window_new.false in
    λ t room. l.invariant t room ∙ window_good t l.at c.min-size.result (omega arith) (pages (goal.at.loop-at-preserved c).Start) good

pub returns : goal.returns
returns c =
    let l = c.loop-at in (
      (λ t room. sym (l.invariant t room ∙ once_end c.args.lo c.args.hi t room (pages (goal.at.returns c).Start) c.requires.1 l.at c.loop-at-test.false)),
      omega arith,
    )
