-- The last region told, from the greatest start below the end.
use mathlib.Core.Path.{◌≡◌, sym, ap}
use Rattle.std.specs.Prelude.{Option, Some, None}
use mathlib.Core.List.{List}
use Prim.Native.Nat.{ℕ, ◌-◌, ◌<◌}
use native.Mathlib.Omega.{arith}
use lib.ListN.{length}
use Rattle.machine.specs.Machine.{region}
use Rattle.machine.specs.declared.Region.{Region}
use Rattle.memory.specs.Memory.{at}
use Rattle.listing.specs.declared.Cursor.{Cursor}
use Rattle.listing.specs.Steps.{StartBelow, Tellable, Tells}
use Rattle.listing.proofs.Counting.{start_inside, found_record, left_with, none_left}

module _ {c : Cursor} {ws count : List ℕ} {b : Option ℕ} (some : 0 < c.left) (t : Tellable c count) (found : StartBelow c.places c.lo c.end ws b) where
  module _ {a : ℕ} (h : b ≡ Some a) where
    pub start_told : Tells c ws count
        (record {
          region = record { start = a - c.lo; length = c.end - a; resident = at count a };
          rest = record
              { left = c.left - 1; places = c.places; lo = c.lo; end = a };
        })
    start_told =
        let inside = start_inside found h in
        record {
          one_less = omega arith;
          tellable = record { low = omega (arith, t.low); few = t.few; count_long = t.count_long };
          right = λ rs shows m x counts all.
              let resident : at count a ≡ length (region m a) = counts a (omega (arith, t.low)) in
              rw (resident, shows m x counts (omega (arith, all, left_with found x h)))
              (sym (found_record found x h));
        }

  -- which no honest index answers
  pub nothing_told : b ≡ None → (r : Region)
      → Tells c ws count (record { region = r; rest = record { left = c.left - 1; places = c.places; lo = c.lo; end = c.end } })
  nothing_told h r =
      record {
        one_less = omega arith;
        tellable = record { low = t.low; few = t.few; count_long = t.count_long };
        right = λ rs shows m x counts all. absurd (omega (arith, all, ap length (none_left found x h)));
      }
