-- On honest memory a page that isn't mapped has room and a frame.
use Rattle.std.specs.Prelude.{◌≡◌, true, List, ◌∷◌, ℕ, zero, suc, ◌+◌, ◌<◌, length}
use Rattle.std.proofs.Math.Path.{refl}
use Rattle.std.proofs.Common.{ap, arith, lt-ltb}
use Rattle.std.proofs.Math.Option.{some}
use Rattle.machine.specs.Machine.{places, State, region, start_of, page_of, unmapped}
use Rattle.machine.proofs.Laws.Regions.{owner_of}
use Rattle.machine.proofs.Laws.Lookup.{is_unmapped_lem}
use Rattle.memory.specs.Memory.{Memory, at}
use Rattle.promise.specs.Holds.{Holds}
use Rattle.planning.specs.Models.{top_ok, fit_ok}
use Rattle.pool.specs.Models.{next_ok, taken_from}
use Rattle.pool.specs.Pool.{taken_honest}
use Rattle.laws.specs.Room.{owned_below, stack_room}

-- the word on the stack that a new page of the region at a is to take
pub record NextWord (m : State) (k : Memory) (a : ℕ) : Type 0 where
  pub start_low : a < places m.sizes
  pub counted : at k.count a ≡ length (region m a)
  pub room : start_of m (a + at k.count a) ≡ some a
  pub below : a + at k.count a < places m.sizes

module _ (m : State) (k : Memory) (h : Holds m k) (p a : ℕ) (low : p < places m.sizes) (absent : page_of m p ≡ unmapped a) where
  pub next_word : NextWord m k a
  next_word =
      let u = is_unmapped_lem m p a absent in
      let start_low : a < places m.sizes = omega (arith, (owner_of m.sizes.pages m.starts p a u.region_is).at_most) in
      let counted = h.counts a start_low in
      let room : start_of m (a + at k.count a) ≡ some a = rw counted (stack_room m h.sound p a u) in
      record { start_low = start_low; counted = counted; room = room; below = owned_below m h.sound _ a room }

  -- ---- the code's test of the words that it needs

  newest_place : (n : ℕ) → at k.count a ≡ n → top_ok k.stack (places m.sizes) a n ≡ true
  newest_place zero e = refl
  newest_place (suc n) e =
      let i : n < length (region m a) = omega (arith, next_word.counted) in
      lt-ltb (at k.stack (a + n)) (places m.sizes) (rw (h.entries a n i).stack_is (owned_below m h.sound _ a (h.sound.own a n i)))

  next_frame : (n f : ℕ) → (taken_from k.link k.head n).frame ≡ f → f < m.sizes.frames → next_ok k.head.frames k.head.first n ≡ true
  next_frame zero f e l = refl
  next_frame (suc n) f e l = lt-ltb k.head.first k.head.frames (omega (arith, ap (λ z. z.frames) h.sizes_are))

  pub fits_honest : (f : ℕ) (rest : List ℕ) → m.pool ≡ f ∷ rest → fit_ok k.head k.count k.stack (places m.sizes) a ≡ true
  unfolding fit_ok
  fits_honest f rest is =
      let t = taken_honest m k h f rest is in
      rw (lt-ltb (a + at k.count a) (places m.sizes) next_word.below, newest_place (at k.count a) refl, next_frame k.head.many f t.0 t.1)
