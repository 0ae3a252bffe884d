-- A page whose words lie inside long tables can be mapped.
use Rattle.std.specs.Prelude.{◌≡◌, refl, true, List, ℕ, zero, suc, ◌+◌, ◌≤◌, ◌<◌, length}
use Rattle.std.proofs.Common.{arith, ltb-true}
use Rattle.machine.specs.Machine.{places, sizes_ok, every_table}
use Rattle.machine.proofs.Laws.Sizes.{fit}
use Rattle.memory.specs.Memory.{Memory, at, sizes_of, lengths}
use Rattle.memory.specs.declared.Head.{Head}
use Rattle.laws.specs.Refusals.{Long}
use Rattle.pool.specs.Models.{taken_from}
use Rattle.pool.specs.Takes.{TakeableFrom, Top}
use Rattle.planning.specs.Models.{top_ok}
use Rattle.planning.proofs.Planning.{Inside}
use Rattle.entries.specs.Fits.{Mappable}

-- the frame can be taken
takeable : (h : Head) (link : List ℕ) (n : ℕ) → (taken_from link h n).frame < h.frames → h.frames ≤ 65536 → h.frames ≤ length link → TakeableFrom h link n
takeable h link zero l few long = omega arith
takeable h link (suc n) l few long = omega arith

-- and the newest page read
top_readable : (table stack : List ℕ) (t a n : ℕ) → top_ok stack t a n ≡ true → a + n < t → t ≤ 262144 → t ≤ length stack → t ≤ length table
    → Top table stack a n
top_readable table stack t a zero ok l few long-stack long-table = tt
top_readable table stack t a (suc n) ok l few long-stack long-table = (omega arith, omega arith, omega (arith, ltb-true (at stack (a + n)) t ok))

pub inside_mappable : (k : Memory) (p a : ℕ) → sizes_ok (sizes_of k.head) ≡ true → Long every_table (sizes_of k.head) (lengths k) → Inside k p a
    → top_ok k.stack (places (sizes_of k.head)) a (at k.count a) ≡ true
    → Mappable k.head k.count k.table k.helper k.stack k.cache k.link a p
inside_mappable k p a ok lent g top =
    let f = fit (sizes_of k.head) ok in
    record {
      takeable = takeable k.head k.link k.head.many g.frame f.few_frames (lent.link refl);
      frame = omega (arith, g.frame, lent.link refl);
      top =
          top_readable k.table k.stack (places (sizes_of k.head)) a (at k.count a) top g.top f.few_places (lent.stack refl)
          (lent.table refl);
      next = omega (arith, g.top, lent.stack refl);
      few = omega (arith, g.top, f.few_places);
      small = omega (arith, g.place, f.few_places);
      start = omega (arith, g.start, lent.count refl);
      in_table = omega (arith, g.place, lent.table refl);
      in_helper = omega (arith, g.place, lent.helper refl);
      in_cache = omega (arith, g.place, lent.cache refl);
    }
