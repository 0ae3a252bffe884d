-- One word after another goes into the set, up to the first that was seen.
use mathlib.Core.Path.{◌≡◌, ap, ◌∙◌}
use mathlib.Core.List.{List, [], ◌∷◌, ◌++◌}
use Prim.Native.Nat.{ℕ, ◌+◌}
use Rattle.words.specs.Words.{words_in}
use Rattle.distinct.specs.Distinct.{picked_on, in_window}
use Rattle.distinct.specs.Laws.{picked_next, picked_end, all_seen, seen_more, seen_not}
use Rattle.distinct.specs.Windows.{window_first, window_none}
use Rattle.distinct.proofs.see_window.Goals as goal
use Rattle.distinct.proofs.see_window.Goals.{After-index_at-w}

-- the word that was read, and those after it
abbrev own : After-index_at-w → List ℕ
own c = in_window c.args.lo c.args.size (c.index_at-w.result ∷ [])

abbrev later : After-index_at-w → List ℕ
later c = let a = c.args in picked_on (words_in a.bytes.now) a.from 2 a.n (c.loop-k.k + 1)

split : (c : After-index_at-w)
    → let a = c.args in
    in_window a.lo a.size (picked_on (words_in a.bytes.now) a.from 2 a.n c.loop-k.k) ≡ own c ++ in_window a.lo a.size (later c)
split c =
    let a = c.args in
    let w = c.index_at-w in
    ap (in_window a.lo a.size) (picked_next (words_in a.bytes.now) a.from 2 a.n c.loop-k.k w.result c.loop-k-test.true w.ensures.0)
    ∙ window_first a.lo a.size w.result (later c)

pub returns-then-not-see_within : goal.returns-then-not-see_within
returns-then-not-see_within c =
    let s = (goal.at.returns-then-not-see_within c).After-index_at-w in
    seen_not c.loop-k.invariant (own s) _ (split s) c.see_within.ensures c.if-not-see_within.true

pub loop-k-preserved : goal.loop-k-preserved
loop-k-preserved c =
    let s = (goal.at.loop-k-preserved c).After-index_at-w in
    seen_more c.loop-k.invariant (own s) _ (split s) c.see_within.ensures c.if-not-see_within.false

pub returns : goal.returns
returns c =
    let a = c.args in
    let none = picked_end (words_in a.bytes.now) a.from 2 a.n c.loop-k.k c.loop-k-test.false in
    all_seen c.loop-k.invariant (ap (in_window a.lo a.size) none ∙ window_none a.lo a.size)
