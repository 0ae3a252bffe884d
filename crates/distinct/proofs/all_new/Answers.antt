-- One word after another goes into the set, up to the first that was seen.
use mathlib.Core.Path.{◌≡◌}
use mathlib.Core.List.{[], ◌∷◌, ◌++◌}
use Prim.Native.Nat.{◌+◌}
use Rattle.words.specs.Words.{words_in}
use Rattle.distinct.specs.Distinct.{picked_on}
use Rattle.distinct.specs.Laws.{picked_next, picked_end, all_seen, seen_more, seen_not}
use Rattle.distinct.proofs.all_new.Goals as goal
use Rattle.distinct.proofs.all_new.Goals.{After-index_at-w}

-- what is left, from the word that was read on
split : (c : After-index_at-w)
    → let s = c.args in
    picked_on (words_in s.bytes.now) s.from s.step s.n c.loop-k.k
    ≡ (c.index_at-w.result ∷ []) ++ picked_on (words_in s.bytes.now) s.from s.step s.n (c.loop-k.k + 1)
split c = picked_next _ _ _ _ c.loop-k.k c.index_at-w.result c.loop-k-test.true c.index_at-w.ensures.0

pub returns-then-not-see : goal.returns-then-not-see
returns-then-not-see c =
    seen_not c.loop-k.invariant (c.index_at-w.result ∷ []) _ (split (goal.at.returns-then-not-see c).After-index_at-w) c.see.ensures c.if-not-see.true

pub loop-k-preserved : goal.loop-k-preserved
loop-k-preserved c =
    seen_more c.loop-k.invariant (c.index_at-w.result ∷ []) _ (split (goal.at.loop-k-preserved c).After-index_at-w) c.see.ensures c.if-not-see.false

pub returns : goal.returns
returns c = all_seen c.loop-k.invariant (picked_end _ _ _ _ c.loop-k.k c.loop-k-test.false)
