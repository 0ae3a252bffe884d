-- Free answers the pool's length.
use Rattle.std.specs.Prelude.{◌≡◌, refl, Bool, true, false, ◌&&◌, leb, length}
use Rattle.std.proofs.Common.{inl, arith, le-leb, leb-true}
use Rattle.machine.specs.Machine.{State, free, frames}
use Rattle.machine.proofs.Laws.Sizes.{both}
use Rattle.memory.specs.Memory.{Memory, sizes_of}
use Rattle.memory.specs.declared.Head.{Head}
use Rattle.promise.specs.Holds.{Holds}
use Rattle.promise.specs.Did.{Later}
use Rattle.pool.specs.Models.{free_if, count_says}
use Rattle.pool.specs.Pool.{pool_length, given_all}

pub free_later : (h : Head) → Later (sizes_of h) free (count_says h)
unfolding count_says
free_later h = go (leb h.many h.fresh && leb h.fresh h.frames) refl
  where
    go : (b : Bool) → leb h.many h.fresh && leb h.fresh h.frames ≡ b → Later (sizes_of h) free (free_if h b)
    go true e = let t = both _ _ e in (refl, omega (arith, leb-true h.many h.fresh t.0, leb-true h.fresh h.frames t.1))
    go false e = (inl refl, refl)

pub free_honest : (m : State) (k : Memory) → Holds m k → count_says k.head ≡ frames (length m.pool)
unfolding count_says
free_honest m k H =
    rw (
      le-leb k.head.many k.head.fresh (omega (arith, given_all m k H, H.pooled.fresh_fits)),
      le-leb k.head.fresh k.head.frames H.pooled.fresh_fits,
      pool_length k.head k.link m.pool H.pooled,
    )
