-- The frames of all bodies, then those of the pool.
use mathlib.Core.Path.{◌≡◌, refl, sym, subst}
use mathlib.Core.List.{[]}
use Prim.Native.Nat.{◌-◌}
use native.Mathlib.Omega.{arith}
use Rattle.words.specs.Words.{words_in}
use Rattle.words.specs.Laws.{words_long}
use Rattle.machine.specs.Map.{part_in}
use Rattle.machine.specs.MapRules.{held_frames}
use Rattle.distinct.specs.Distinct.{picked}
use Rattle.founding.proofs.Laying.{Low, pool_picked}
use Rattle.founding.proofs.lay_all.Goals as goal
use Rattle.founding.proofs.lay_all.Goals.{After-body_at-pool}

-- the words linked last are the pool's body
pool_is : (c : After-body_at-pool)
    → let a = c.args in
    let b = c.body_at-pool.result in
    picked (words_in a.bytes.now) b.first 1 (b.to - b.first) ≡ part_in (words_in a.bytes.now) a.spaces
pool_is c =
    let a = c.args in
    let b = c.body_at-pool in
    pool_picked (words_in a.bytes.now) a.spaces b.result.first b.result.to b.ensures.low
    (words_long b.result.to a.bytes.now b.ensures.inside) b.ensures.part

pub lay_part-requires : goal.lay_part-requires
lay_part-requires c =
    let b = c.body_at-pool in
    let h = c.lay_spaces-held in (
      (λ k q. omega (arith, b.ensures.inside, b.ensures.low)),
      omega arith,
      h.ensures.low,
      (λ k q. rw h.ensures.size (subst (Low c.args.link.now) (sym (pool_is (goal.at.lay_part-requires c).After-body_at-pool)) c.requires.1.pool k q)),
    )

pub returns : goal.returns
returns c =
    let a = c.args in
    let held = c.lay_spaces-held.ensures.is a.link.now [] (refl, refl) in
    rw (← pool_is (goal.at.returns c).After-body_at-pool) (c.lay_part.ensures.is a.link.now (held_frames (words_in a.bytes.now) 0 a.spaces) held)
