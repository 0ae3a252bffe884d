-- The state so far, while the pairs of a described state are mapped in the order of the file: all regions before place a, and j pairs of the region at a.
use Rattle.std.specs.Prelude.{cond, List, [], ◌++◌, ℕ, zero, suc, ◌-◌, eqb, ltb, take, drop}
use Rattle.sequence.specs.Lists.{tabulate}
use Rattle.machine.specs.Machine.{places, State, Pair, region, frames_of}

-- what the region at place b holds by then
abbrev pub held_so : State → ℕ → ℕ → ℕ → List Pair
held_so m a j b = cond (ltb b a) (region m b) (cond (eqb b a) (take j (region m b)) [])

-- the frames of n regions from place b on
unfoldable pub frames_after : State → ℕ → ℕ → List ℕ
frames_after m b zero = []
frames_after m b (suc n) = frames_of (region m b) ++ frames_after m (suc b) n

-- the frames still to be mapped, then those of the pool
abbrev pub pool_so : State → ℕ → ℕ → List ℕ
pool_so m a j = frames_of (drop j (region m a)) ++ (frames_after m (suc a) (places m.sizes - suc a) ++ m.pool)

abbrev pub partial : State → ℕ → ℕ → State
partial m a j =
    record {
      sizes = m.sizes;
      starts = m.starts;
      held = tabulate (held_so m a j) (places m.sizes);
      pool = pool_so m a j;
      ram = m.ram;
    }
