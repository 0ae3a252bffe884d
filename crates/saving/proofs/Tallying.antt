-- A tally underway: what is counted and what lies from place a on are all there is.
use mathlib.Core.Path.{◌≡◌}
use mathlib.Core.Bool.{Bool, true, false, cond}
use mathlib.Core.List.{List}
use Prim.Native.Nat.{ℕ, zero, suc, ◌+◌, ◌-◌, ◌*◌, ◌≤◌, ◌<◌}
use Rattle.std.proofs.Common.{arith, Fits, w32}
use Rattle.layer.specs.Words.{bit_at}
use Rattle.machine.specs.State.{until_start}
use Rattle.memory.specs.Memory.{at}
use Rattle.scanning.specs.Starts.{next_told}
use Rattle.saving.specs.Saved.{starts_in, counts_in}
use Rattle.saving.specs.Steps.{sum_first, sum_next}
use Rattle.saving.specs.Asked.{Walkable, Tallied}

-- ---- how many there can be

module _ (index : List ℕ) where
  pub few_starts : (p n : ℕ) → starts_in index p n ≤ n
  few_starts p zero = omega arith
  few_starts p (suc n) = go (bit_at index p) (few_starts (suc p) n)
    where
      go : (b : Bool) → starts_in index (suc p) n ≤ n → cond b 1 0 + starts_in index (suc p) n ≤ suc n
      go true few = omega arith
      go false few = omega arith

  few_counts : (count : List ℕ) → ((q : ℕ) → Fits w32 (at count q)) → (p n : ℕ) → counts_in index count p n ≤ 4294967296 * n
  few_counts count fits p zero = omega arith
  few_counts count fits p (suc n) = go (bit_at index p) (few_counts count fits (suc p) n)
    where
      go : (b : Bool) → counts_in index count (suc p) n ≤ 4294967296 * n → cond b (at count p) 0 + counts_in index count (suc p) n ≤ 4294967296 * suc n
      go true few = omega (arith, fits p)
      go false few = omega arith

-- ---- the walk

pub record Tallying (index count : List ℕ) (lo end regions pairs a : ℕ) : Type 0 where
  pub low : lo ≤ a
  pub inside : a ≤ end
  pub start : a < end → bit_at index a ≡ true
  pub regions_are : regions + starts_in index a (end - a) ≡ starts_in index lo (end - lo)
  pub pairs_are : pairs + counts_in index count a (end - a) ≡ counts_in index count lo (end - lo)

-- what a start at place q adds to the regions, and to the resident pages
abbrev one : List ℕ → ℕ → ℕ
one index q = cond (bit_at index q) 1 0

abbrev many : List ℕ → List ℕ → ℕ → ℕ
many index count q = cond (bit_at index q) (at count q) 0

one_none : (index : List ℕ) (q : ℕ) → bit_at index q ≡ false → one index q ≡ 0
one_none index q e = rw e

many_none : (index count : List ℕ) (q : ℕ) → bit_at index q ≡ false → many index count q ≡ 0
many_none index count q e = rw e

module _ {index count : List ℕ} {lo end : ℕ} where
  pub tally_begun : {a : ℕ} → lo ≤ end → a ≡ lo + until_start (bit_at index) lo (end - lo) → Tallying index count lo end 0 0 a
  tally_begun {a} h e =
      let n = next_told (bit_at index) lo end a h e in
      record {
        low = n.from;
        inside = n.to;
        start = n.start;
        regions_are = omega (arith, sum_first (bit_at index) (one index) (one_none index) end lo a h e);
        pairs_are = omega (arith, sum_first (bit_at index) (many index count) (many_none index count) end lo a h e);
      }

  module _ {regions pairs a : ℕ} (t : Tallying index count lo end regions pairs a) where
    pub one_tallied : {next v : ℕ} → a < end → v ≡ at count a → next ≡ a + 1 + until_start (bit_at index) (a + 1) (end - (a + 1))
        → Tallying index count lo end (regions + 1) (pairs + v) next
    one_tallied {next} {v} l told e =
        let n = next_told (bit_at index) (a + 1) end next (omega arith) e in
        let one-here : one index a ≡ 1 = rw (t.start l) in
        let many-here : many index count a ≡ at count a = rw (t.start l) in
        record {
          low = omega (arith, t.low, n.from);
          inside = n.to;
          start = n.start;
          regions_are = omega (arith, t.regions_are, sum_next (bit_at index) (one index) (one_none index) end a next l e);
          pairs_are = omega (arith, t.pairs_are, sum_next (bit_at index) (many index count) (many_none index count) end a next l e);
        }

    module _ (w : Walkable index count lo end) (fits : (q : ℕ) → Fits w32 (at count q)) where
      pub tally_fits : (regions ≤ 262144) × (pairs ≤ 1125899906842624)
      tally_fits = (
        omega (arith, t.regions_are, few_starts index lo (end - lo), w.few),
        omega (arith, t.pairs_are, few_counts index count fits lo (end - lo), w.few),
      )

      pub tally_done : end ≤ a → Tallied index count lo end (record { regions = regions; pairs = pairs })
      tally_done h =
          let none : end - a ≡ 0 = omega arith in
          record {
            regions_are = omega (arith, rw none at t.regions_are);
            pairs_are = omega (arith, rw none at t.pairs_are);
            few_regions = tally_fits.0;
            few_pairs = tally_fits.1;
          }
