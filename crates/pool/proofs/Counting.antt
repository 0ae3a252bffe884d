-- Free: its answer is the model's in each of its four cases.
use mathlib.Core.Path.{◌≡◌, refl}
use mathlib.Core.Bool.{true, false}
use mathlib.Core.List.{List}
use Prim.Native.Nat.{ℕ, ◌≤◌, ◌<◌}
use borrow.Author.Tests.{lt-leb, le-leb}
use Rattle.machine.specs.Machine.{Answer, refused, frames, free, sizes_ok}
use Rattle.memory.specs.Memory.{memory, sizes_of}
use Rattle.memory.specs.declared.Head.{Head}
use Rattle.promise.specs.Did.{frames_left, Did}
use Rattle.pool.specs.Models.{count_says}
use Rattle.pool.proofs.Freed.{free_did}

module _ (h : Head) where
  -- whatever tables are there
  abbrev DidFree : Answer → Type 0
  DidFree a =
      (index count table helper stack cache link ram : List ℕ)
      → let k = memory h index count table helper stack cache link ram in Did (λ _. free) k a k

  pub not_started : sizes_ok (sizes_of h) ≡ false → DidFree (refused 1)
  not_started e index count table helper stack cache link ram = free_did _ _ _ (rw e (record { answer_is = refl; same = refl }))

  module _ (ok : sizes_ok (sizes_of h) ≡ true) where
    says : (a : Answer) → a ≡ count_says h → DidFree a
    says a e index count table helper stack cache link ram = free_did _ _ _ (rw ok (e, refl))

    pub too_many : h.fresh < h.many → DidFree (refused 9)
    unfolding count_says
    too_many l = says _ (rw (lt-leb h.many h.fresh l))

    pub too_fresh : h.many ≤ h.fresh → h.frames < h.fresh → DidFree (refused 9)
    unfolding count_says
    too_fresh m l = says _ (rw (le-leb h.many h.fresh m, lt-leb h.fresh h.frames l))

    pub counted : h.many ≤ h.fresh → h.fresh ≤ h.frames → DidFree (frames (frames_left h))
    unfolding count_says
    counted m l = says _ (rw (le-leb h.many h.fresh m, le-leb h.fresh h.frames l))
