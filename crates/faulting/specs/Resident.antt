-- A span whose pages are all resident: nothing is absent, and touching them changes nothing.
use Rattle.std.specs.Prelude.{◌≡◌, refl, false}
use Prim.Native.Nat.{ℕ, zero, suc, ◌+◌, ◌*◌, ◌≤◌, ◌<◌}
use Rattle.std.proofs.Common.{zero-add, add-suc, arith}
use Rattle.machine.specs.Machine.{place_of, State, any_outside, count_absent}
use Rattle.memory.specs.Memory.{Memory}
use Rattle.promise.specs.Holds.{Holds}
use Rattle.laws.specs.Spans.{AllTouched, none_touched, one_touched}
use Rattle.lookup.proofs.Sights.{shown_mapped}
use Rattle.paging.specs.Fits.{Touchable, RamLong}
use Rattle.paging.proofs.Touches.{did_resident}
use Rattle.surveying.specs.Surveys.{AllResident}

module _ (k : Memory) (i : ℕ) where
  pub resident_there : (m : State) → Holds m k → i < m.sizes.spaces → (n first : ℕ) → first + n ≤ m.sizes.pages
      → AllResident k.head i first (first + n) k.count k.table k.helper k.stack k.cache
      → (any_outside m (place_of m.sizes i first) n ≡ false) × (count_absent m (place_of m.sizes i first) n ≡ 0)
  unfolding any_outside count_absent
  resident_there m H s zero first l all = (refl, refl)
  resident_there m H s (suc n) first l all =
      let here = shown_mapped m k H i first s (omega arith) (all first (omega arith) (omega arith)) in
      let rest = rw (add-suc (i * m.sizes.pages) first) at
      (resident_there m H s n (suc first) (omega arith) (λ b a c. all b (omega arith) (omega arith))) in
      (rw here.1 rest.0, rw (here.1, zero-add) rest.1)

  pub resident_touched : (first n : ℕ) → AllResident k.head i first (first + n) k.count k.table k.helper k.stack k.cache
      → ((b : ℕ) → b < first + n → Touchable k.head i b k.index k.count k.table k.helper k.stack k.cache k.link)
      → RamLong k.head k.ram → AllTouched i first k n k
  resident_touched first zero all ready long = none_touched
  resident_touched first (suc n) all ready long =
      one_touched (resident_touched first n (λ b a c. all b a (omega arith)) (λ b c. ready b (omega arith)) long)
      (did_resident k.head i (first + n) k.index k.count k.table k.helper k.stack k.cache k.link
      (ready (first + n) (omega arith)) _ refl (all (first + n) (omega arith) (omega arith)) k.ram long)
