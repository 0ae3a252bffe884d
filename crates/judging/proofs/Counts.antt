-- The pairs of a whole body, region after region; and the loop over the third words.
use mathlib.Core.Path.{◌≡◌, sym, ap, ◌∙◌}
use mathlib.Core.Bool.{Bool, true, false, ◌&&◌}
use mathlib.Core.List.{List}
use Prim.Native.Nat.{ℕ, suc, ◌+◌, ◌-◌, ◌*◌, ◌≤◌, ◌<◌}
use native.Mathlib.Omega.{arith}
use borrow.Author.Tests.{eq-eqb, ne_eqb}
use lib.Dec.{eqb}
use lib.ListN.{length, get_or, length-append}
use lib.Seq.{slice, length-slice}
use Rattle.machine.specs.Map.{Block, blocks_in, row_count, part_in, whole_from}
use Rattle.machine.specs.MapRules.{entries_of}
use Rattle.walking.specs.Laws.{next_at, count_at, entries_at, length_entries}
use Rattle.walking.specs.Regions.{region_fits, blocks_next, whole_next, blocks_end}
use Rattle.judging.specs.Contents.{counts_from}

-- ---- a body

-- so many pairs stand before word at
pub record Counting (ws : List ℕ) (first to at pairs : ℕ) : Type 0 where
  pub low : at ≤ to
  pub whole : whole_from 0 (slice at to ws) ≡ true
  pub rest : length (entries_of (blocks_in (slice first to ws))) ≡ pairs + length (entries_of (blocks_in (slice at to ws)))
  pub few : first + 2 * pairs ≤ at

module _ (ws : List ℕ) (first to at pairs : ℕ) (c : Counting ws first to at pairs) where
  pub all_counted : to ≤ at → pairs ≡ length (entries_of (blocks_in (slice first to ws)))
  unfolding entries_of
  all_counted end =
      let none : length (entries_of (blocks_in (slice at to ws))) ≡ 0 = ap (λ (bs : List Block). length (entries_of bs)) (blocks_end ws at to c.low end) in
      omega (arith, c.rest, none)

  module _ (long : to ≤ length ws) (some : at < to) where
    pub region_in : at + (3 + 2 * get_or ws (at + 2) 0) ≤ to
    region_in = region_fits ws at to long some c.whole

    count_here : length (entries_of (blocks_in (slice at to ws))) ≡ get_or ws (at + 2) 0 + length (entries_of (blocks_in (slice (next_at ws at) to ws)))
    unfolding entries_of
    count_here =
        let later = entries_of (blocks_in (slice (next_at ws at) to ws)) in
        ap (λ (bs : List Block). length (entries_of bs)) (blocks_next ws at to long some c.whole)
        ∙ length-append (entries_at ws at) later
        ∙ ap (λ (k : ℕ). k + length later) (length_entries ws (at + 3) (count_at ws at))

    pub one_counted : (n : ℕ) → n ≡ get_or ws (at + 2) 0 → Counting ws first to (at + (3 + 2 * n)) (pairs + n)
    one_counted n n_is =
        let there : next_at ws at ≡ at + (3 + 2 * n) = ap (λ (k : ℕ). at + (3 + 2 * k)) (sym n_is) in
        let here : length (entries_of (blocks_in (slice at to ws))) ≡ n + length (entries_of (blocks_in (slice (at + (3 + 2 * n)) to ws))) =
        count_here
        ∙ ap (λ (k : ℕ). k + length (entries_of (blocks_in (slice (next_at ws at) to ws)))) (sym n_is)
        ∙ ap (λ (i : ℕ). n + length (entries_of (blocks_in (slice i to ws)))) there in
        record {
          low = omega (arith, region_in, n_is);
          whole = ap (λ (i : ℕ). whole_from 0 (slice i to ws)) (sym there) ∙ whole_next ws at to long some c.whole;
          rest = omega (arith, c.rest, here);
          few = omega (arith, c.few);
        }

-- ---- third words

module _ (ws : List ℕ) (spaces i : ℕ) where
  counts_more : i < spaces → counts_from ws i (spaces - i)
      ≡ eqb (row_count ws i) (length (entries_of (blocks_in (part_in ws i)))) && counts_from ws (i + 1) (spaces - (i + 1))
  unfolding counts_from
  counts_more low =
      let left : spaces - i ≡ suc (spaces - (i + 1)) = omega arith in
      let next : suc i ≡ i + 1 = omega arith in
      ap (counts_from ws i) left
      ∙ ap (λ (j : ℕ). eqb (row_count ws i) (length (entries_of (blocks_in (part_in ws i)))) && counts_from ws j (spaces - (i + 1))) next

  pub count_bad : i < spaces → (row_count ws i ≡ length (entries_of (blocks_in (part_in ws i))) → ⊥) → counts_from ws i (spaces - i) ≡ false
  count_bad low d =
      counts_more low
      ∙ ap (λ (b : Bool). b && counts_from ws (i + 1) (spaces - (i + 1))) (ne_eqb (row_count ws i) (length (entries_of (blocks_in (part_in ws i)))) d)

  pub count_good : i < spaces → row_count ws i ≡ length (entries_of (blocks_in (part_in ws i)))
      → counts_from ws i (spaces - i) ≡ counts_from ws (i + 1) (spaces - (i + 1))
  count_good low e =
      counts_more low
      ∙ ap (λ (b : Bool). b && counts_from ws (i + 1) (spaces - (i + 1))) (eq-eqb (row_count ws i) (length (entries_of (blocks_in (part_in ws i)))) e)

  pub count_pool : i ≡ spaces → (first to : ℕ) → to ≤ length ws → slice first to ws ≡ part_in ws spaces
      → counts_from ws i (spaces - i) ≡ eqb (row_count ws spaces) (to - first)
  unfolding counts_from
  count_pool e first to long part =
      let none : spaces - i ≡ 0 = omega arith in
      ap (counts_from ws i) none
      ∙ ap (λ (j : ℕ). counts_from ws j 0) e
      ∙ ap (eqb (row_count ws spaces)) (ap length (sym part) ∙ length-slice first to ws long)
