-- What each test of the walk says of the body.
use mathlib.Core.Path.{◌≡◌, sym, ◌∙◌}
use mathlib.Core.Bool.{Bool, true, false}
use mathlib.Core.List.{List}
use Prim.Native.Nat.{ℕ, ◌+◌, ◌-◌, ◌*◌, ◌/◌, ◌≤◌, ◌<◌}
use native.Mathlib.Omega.{arith}
use borrow.Author.Tests.{eq-eqb, ne_eqb, lt-ltb, le-ltb, le-leb, lt-leb}
use lib.Dec.{eqb}
use Rattle.std.proofs.Math.Decide.{dec_le}
use lib.ListN.{length, get_or}
use lib.Seq.{slice, slice-cons, slice_empty}
use Rattle.machine.specs.Map.{whole_from, rest_in}
use Rattle.machine.specs.MapRules.{all_within, tiled, fine_from, fine_body}
use Rattle.distinct.specs.Distinct.{picked, picked_on}
use Rattle.distinct.specs.Laws.{picked_next, picked_end}
use Rattle.std.specs.Prelude.{Some}
use Rattle.walking.specs.declared.Front.{Front}
use Rattle.walking.specs.Walking.{Fronts}
use Rattle.walking.specs.Laws.{start_at, length_at, count_at, next_at, head_ok, fine_cut, fine_short, fine_false, fine_next}

-- ---- pages

-- a page outside ends it, one inside leaves those after it
module _ (lo hi : ℕ) (ws : List ℕ) (from n k p : ℕ) (some : k < n) (p-is : p ≡ get_or ws (from + 2 * k) 0) where
  pub page_outside : (lo ≤ p → hi ≤ p) → all_within lo hi (picked_on ws from 2 n k) ≡ false
  unfolding all_within
  page_outside h = rw (picked_next ws from 2 n k p some p-is) (elim (dec_le lo p) [
    | yes l ↦ rw (le-leb lo p l, le-ltb p hi (h l))
    | no l ↦ rw (lt-leb lo p (omega arith))
  ])

  pub page_inside : lo ≤ p → p < hi → all_within lo hi (picked_on ws from 2 n k) ≡ all_within lo hi (picked_on ws from 2 n (k + 1))
  unfolding all_within
  page_inside l h = rw (picked_next ws from 2 n k p some p-is, le-leb lo p l, lt-ltb p hi h)

pub pages_end : (lo hi : ℕ) (ws : List ℕ) (from n k : ℕ) → n ≤ k → all_within lo hi (picked_on ws from 2 n k) ≡ true
unfolding all_within
pages_end lo hi ws from n k h = rw (picked_end ws from 2 n k h)

-- ---- the head: k entries, start s, l pages

module _ (n b : ℕ) (ws : List ℕ) (at to : ℕ) (long : to ≤ length ws) where
  pub head_cut : at < to → to - at < 3 → fine_from n b (slice at to ws) ≡ false
  head_cut h k = fine_cut n b ws at to long h (omega arith)

  module _ (k : ℕ) (k-is : k ≡ count_at ws at) (three : 3 ≤ to - at) where
    pub entries_cut : (to - at - 3) / 2 < k → fine_from n b (slice at to ws) ≡ false
    entries_cut h = fine_short n b ws at to long (omega arith) (omega arith)

    module _ (room : k ≤ (to - at - 3) / 2) (s : ℕ) (s-is : s ≡ start_at ws at) where
      fits : next_at ws at ≤ to
      fits = omega arith

      pub other_start : (s ≡ b → ⊥) → fine_from n b (slice at to ws) ≡ false
      other_start d = fine_false ws at to long fits n b (rw (ne_eqb (start_at ws at) b (λ e. d (s-is ∙ e))))

      module _ (same : s ≡ b) (l : ℕ) (l-is : l ≡ length_at ws at) where
        first_is : eqb (start_at ws at) b ≡ true
        first_is = eq-eqb (start_at ws at) b (sym s-is ∙ same)

        pub no_pages : l ≡ 0 → fine_from n b (slice at to ws) ≡ false
        no_pages z = fine_false ws at to long fits n b (rw (first_is, le-ltb 0 (length_at ws at) (omega arith)))

        pub beyond : (l ≡ 0 → ⊥) → n < b + l → fine_from n b (slice at to ws) ≡ false
        beyond some_pages h =
            fine_false ws at to long fits n b
            (rw (first_is, lt-ltb 0 (length_at ws at) (omega arith), lt-leb (b + length_at ws at) n (omega arith)))

-- ---- the region

module _ (n b : ℕ) (ws : List ℕ) (at to : ℕ) (long : to ≤ length ws) {r : Front} (f : Fronts ws n b at to (Some r)) where
  ends : next_at ws at ≤ to
  ends = rw f.5 f.2

  head_is : (w : Bool) → all_within b (b + r.length) (picked ws (at + 3) 2 r.entries) ≡ w → head_ok ws at n b ≡ w
  head_is w e = rw (f.4, f.5, eq-eqb (start_at ws at) b f.3, lt-ltb 0 r.length f.0, le-leb (b + r.length) n f.1) e

  pub region_bad : all_within b (b + r.length) (picked ws (at + 3) 2 r.entries) ≡ false → fine_from n b (slice at to ws) ≡ false
  region_bad e = fine_false ws at to long ends n b (head_is false e)

  pub region_good : all_within b (b + r.length) (picked ws (at + 3) 2 r.entries) ≡ true
      → fine_from n b (slice at to ws) ≡ fine_from n (b + r.length) (slice (at + (3 + 2 * r.entries)) to ws)
  region_good e = fine_next ws at to long ends n b (head_is true e) ∙ rw (f.4, f.5)

-- ---- the whole body

module _ (n : ℕ) (ws : List ℕ) where
  pub body_from : (from to : ℕ) → from < to → to ≤ length ws → fine_body n (slice from to ws) ≡ fine_from n (get_or ws from 0) (slice from to ws)
  body_from from to h long = rw (slice-cons from to ws 0 h long)

  pub body_end : (at to b : ℕ) → at ≡ to → fine_from n b (slice at to ws) ≡ eqb b n
  unfolding fine_from whole_from tiled rest_in
  body_end at to b e = rw (e, slice_empty to ws)
