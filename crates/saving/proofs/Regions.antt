-- A body underway: the regions from place a on are still to be stored, and a starts one, if it isn't the end.
use mathlib.Core.Path.{◌≡◌, ap, ◌∙◌}
use mathlib.Core.Bool.{true}
use mathlib.Core.List.{List}
use Prim.Native.Nat.{ℕ, ◌+◌, ◌-◌, ◌≤◌, ◌<◌}
use native.Mathlib.Omega.{arith}
use lib.ListN.{length}
use Rattle.layer.specs.Words.{bit_at}
use Rattle.machine.specs.State.{until_start}
use Rattle.machine.specs.Map.{body_words}
use Rattle.scanning.specs.Starts.{next_told}
use Rattle.saving.specs.Saved.{blocks_from}
use Rattle.saving.specs.Storing.{Room, Storing, Stored, Splits, none_stored, still_to_store, part_room, part_stored, all_stored}
use Rattle.saving.specs.Steps.{block_at, block_words, blocks_first, blocks_next, blocks_done, body_next}
use Rattle.saving.specs.Asked.{Walkable}

pub record StoringRegions (index count table stack : List ℕ) (lo end : ℕ) (file₀ : List ℕ) (word : ℕ) (file : List ℕ) (a to : ℕ) : Type 0 where
  pub low : lo ≤ a
  pub inside : a ≤ end
  pub start : a < end → bit_at index a ≡ true
  pub storing : Storing file₀ word (body_words (blocks_from index count table stack lo 0 (end - lo))) file to
      (body_words (blocks_from index count table stack lo (a - lo) (end - a)))

module _ {index count table stack : List ℕ} {lo end : ℕ} {file₀ : List ℕ} {word : ℕ} where
  pub regions_begun : {a : ℕ} → lo ≤ end → a ≡ lo + until_start (bit_at index) lo (end - lo)
      → StoringRegions index count table stack lo end file₀ word file₀ a word
  regions_begun {a} h e =
      let n = next_told (bit_at index) lo end a h e in
      record {
        low = n.from;
        inside = n.to;
        start = n.start;
        storing = none_stored file₀ word _ _ (ap body_words (blocks_first index count table stack lo end a h e));
      }

  module _ {file : List ℕ} {a to : ℕ} (w : StoringRegions index count table stack lo end file₀ word file a to) where
    module _ {next : ℕ} (l : a < end) (e : next ≡ a + 1 + until_start (bit_at index) (a + 1) (end - (a + 1))) where
      region_next : Splits (body_words (blocks_from index count table stack lo (a - lo) (end - a))) (block_words (block_at count table stack lo a next))
          (body_words (blocks_from index count table stack lo (next - lo) (end - next)))
      region_next = record { is = ap body_words (blocks_next index count table stack lo end a next w.low l (w.start l) e) ∙ body_next _ _ }

      -- what storing the region asks for
      pub region_asks : Walkable index count lo end → Room file₀ word (body_words (blocks_from index count table stack lo 0 (end - lo)))
          → (lo ≤ a) × (a < next) × (next ≤ 262144) × (a < length count) × Room file to (block_words (block_at count table stack lo a next))
      region_asks k room =
          let n = next_told (bit_at index) (a + 1) end next (omega arith) e in (
            w.low,
            omega (arith, n.from),
            omega (arith, n.to, k.few),
            omega (arith, k.count_long),
            part_room room w.storing region_next,
          )

      pub region_stored : {file' : List ℕ} {to' : ℕ} → Stored file to (block_words (block_at count table stack lo a next)) file' to'
          → StoringRegions index count table stack lo end file₀ word file' next to'
      region_stored d =
          let n = next_told (bit_at index) (a + 1) end next (omega arith) e in
          record { low = omega (arith, w.low, n.from); inside = n.to; start = n.start; storing = part_stored w.storing region_next d }

    pub regions_stored : end ≤ a → Stored file₀ word (body_words (blocks_from index count table stack lo 0 (end - lo))) file to
    unfolding body_words
    regions_stored h = all_stored (still_to_store w.storing (ap body_words (blocks_done index count table stack lo (a - lo) (end - a) (omega arith))))
