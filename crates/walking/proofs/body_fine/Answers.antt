-- One region after another, from the page on that the one before it ends at.
use mathlib.Core.Path.{◌≡◌, sym, ap, ◌∙◌}
use Prim.Native.Nat.{ℕ, ◌≤◌}
use native.Mathlib.Omega.{arith}
use lib.ListN.{length}
use lib.Seq.{slice}
use Rattle.words.specs.Words.{words_in}
use Rattle.words.specs.Laws.{words_long}
use Rattle.machine.specs.MapRules.{fine_from}
use Rattle.walking.proofs.Fine.{region_bad, region_good, body_from, body_end}
use Rattle.walking.proofs.body_fine.Goals as goal
use Rattle.walking.proofs.body_fine.Goals.{Start}

long : (s : Start) → s.args.body.to ≤ length (words_in s.args.bytes.now)
long s = words_long s.args.body.to s.args.bytes.now s.requires.1

pub loop-at-init : goal.loop-at-init
loop-at-init c =
    let a = c.args in
    let body = a.body in
    let ws = words_in a.bytes.now in (
      omega arith,
      c.index_at-next.ensures.1,
      body_from a.pages ws body.first body.to c.if-body.false (long (goal.at.loop-at-init c).Start)
          ∙ ap (λ (b : ℕ). fine_from a.pages b (slice body.first body.to ws)) (sym c.index_at-next.ensures.0),
    )

pub returns-then-not-pages_within : goal.returns-then-not-pages_within
returns-then-not-pages_within c =
    let a = c.args in
    let l = c.loop-at in
    sym
    (l.invariant.2
    ∙ region_bad a.pages l.next (words_in a.bytes.now) l.at a.body.to (long (goal.at.returns-then-not-pages_within c).Start) c.in-Some.ensures
    (sym c.pages_within.ensures ∙ c.if-not-pages_within.true))

pub loop-at-preserved : goal.loop-at-preserved
loop-at-preserved c =
    let a = c.args in
    let l = c.loop-at in
    let f = c.in-Some.ensures in (
      f.2,
      omega (arith, f.1, c.requires.2),
      l.invariant.2
          ∙ region_good a.pages l.next (words_in a.bytes.now) l.at a.body.to (long (goal.at.loop-at-preserved c).Start) f
          (sym c.pages_within.ensures ∙ c.if-not-pages_within.false),
    )

pub returns : goal.returns
returns c =
    let a = c.args in
    let l = c.loop-at in
    let same : l.at ≡ a.body.to = omega (arith, l.invariant.0) in
    sym (l.invariant.2 ∙ body_end a.pages (words_in a.bytes.now) l.at a.body.to l.next same)
