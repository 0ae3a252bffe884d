use mathlib.Core.Path.{◌≡◌}
use mathlib.Core.Bool.{false}
use Prim.Native.Nat.{ℕ, ◌-◌, ◌≤◌}
use Rattle.places.specs.Places.{all_new}
use Rattle.words.specs.Words.{words_in}
use Rattle.distinct.specs.Distinct.{picked, from_on}
use Rattle.bodies.proofs.region_once.Given as goal

abbrev pub invariant-loop-at : goal.invariant-loop-at
invariant-loop-at l =
    (t : ℕ) → l.hi ≤ t → all_new t (λ _. false) (picked (words_in l.bytes) l.from 2 l.n) ≡ all_new t (λ _. false) (from_on l.at (picked (words_in l.bytes) l.from 2 l.n))

abbrev pub decreases-loop-at : goal.decreases-loop-at
decreases-loop-at l = l.hi - l.at
