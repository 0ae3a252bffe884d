-- The frames of the bodies first, then those of the pool.
use mathlib.Core.Path.{ap, ◌∙◌}
use mathlib.Core.Bool.{false}
use mathlib.Core.List.{List, ◌++◌}
use Prim.Native.Nat.{ℕ, ◌-◌}
use Rattle.places.specs.Places.{all_new}
use Rattle.words.specs.Words.{words_in}
use Rattle.words.specs.Laws.{words_long}
use Rattle.machine.specs.Map.{part_in}
use Rattle.machine.specs.MapRules.{held_frames}
use Rattle.distinct.specs.Distinct.{picked}
use Rattle.distinct.specs.Laws.{saw_more, saw_not}
use Rattle.bodies.proofs.Frames.{pool_is}
use Rattle.bodies.proofs.frames_fine.Goals as goal

pub returns-then-not-see_spaces : goal.returns-then-not-see_spaces
returns-then-not-see_spaces c =
    let a = c.args in
    let w = words_in a.bytes.now in
    let seen = rw c.if-not-see_spaces.true at c.see_spaces.ensures in
    let saw = saw_not (held_frames w 0 a.spaces) (part_in w a.spaces) seen in
    (saw.right (λ _. false) c.empty.ensures.none, saw.size ∙ c.empty.ensures.size)

pub returns : goal.returns
returns c =
    let a = c.args in
    let w = words_in a.bytes.now in
    let at = c.body_at-pool.ensures in
    let pool = c.body_at-pool.result in
    let seen = rw c.if-not-see_spaces.false at c.see_spaces.ensures in
    let saw = saw_more (held_frames w 0 a.spaces) (picked w pool.first 1 (pool.to - pool.first)) seen c.all_new.ensures in (
      saw.right (λ _. false) c.empty.ensures.none
          ∙ ap (λ (xs : List ℕ). all_new a.frames (λ _. false) (held_frames w 0 a.spaces ++ xs))
          (pool_is at (words_long pool.to a.bytes.now at.inside)),
      saw.size ∙ c.empty.ensures.size,
    )
