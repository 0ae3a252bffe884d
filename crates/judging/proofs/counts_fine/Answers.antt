-- Body after body, then the pool.
use mathlib.Core.Path.{◌≡◌, sym, ap, ◌∙◌}
use mathlib.Core.List.{List}
use Prim.Native.Nat.{ℕ, ◌-◌}
use native.Mathlib.Omega.{arith}
use lib.Dec.{eqb}
use lib.ListN.{length}
use Rattle.words.specs.Words.{words_in}
use Rattle.words.specs.Laws.{words_long}
use Rattle.machine.specs.Map.{part_in, blocks_in}
use Rattle.machine.specs.MapRules.{entries_of}
use Rattle.judging.proofs.Counts.{count_bad, count_good, count_pool}
use Rattle.judging.proofs.counts_fine.Goals as goal
use Rattle.judging.proofs.counts_fine.Goals.{After-pairs_of-pairs}

pairs_are : (c : After-pairs_of-pairs)
    → c.pairs_of-pairs.result ≡ length (entries_of (blocks_in (part_in (words_in c.args.bytes.now) c.loop-i.i)))
pairs_are c = c.pairs_of-pairs.ensures ∙ ap (λ (xs : List ℕ). length (entries_of (blocks_in xs))) c.body_at.ensures.part

pub returns-then-count_at-pairs : goal.returns-then-count_at-pairs
returns-then-count_at-pairs c =
    let pairs = pairs_are (goal.at.returns-then-count_at-pairs c).After-pairs_of-pairs in
    sym (c.loop-i.invariant
    ∙ count_bad (words_in c.args.bytes.now) c.args.spaces c.loop-i.i c.loop-i-test.true
    (λ e. c.if-count_at-pairs.true (c.count_at.ensures.0 ∙ e ∙ sym pairs)))

pub loop-i-preserved : goal.loop-i-preserved
loop-i-preserved c =
    let pairs = pairs_are (goal.at.loop-i-preserved c).After-pairs_of-pairs in
    c.loop-i.invariant
    ∙ count_good (words_in c.args.bytes.now) c.args.spaces c.loop-i.i c.loop-i-test.true (sym c.count_at.ensures.0 ∙ c.if-count_at-pairs.false ∙ pairs)

pub returns : goal.returns
returns c =
    let file = c.args.bytes.now in
    let b = c.body_at-pool in
    ap (λ (n : ℕ). eqb n (b.result.to - b.result.first)) c.count_at-2.ensures.0
    ∙ sym (c.loop-i.invariant
    ∙ count_pool (words_in file) c.args.spaces c.loop-i.i (omega arith) b.result.first b.result.to
    (words_long b.result.to file b.ensures.inside) b.ensures.part)
