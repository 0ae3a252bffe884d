-- The regions of a whole body, one after another; and a body as its row has it.
use Rattle.std.specs.Prelude.{◌≡◌, true, List, [], ◌∷◌, ◌++◌, ℕ, zero, suc, ◌+◌, ◌*◌, ◌≤◌, ◌<◌, length, get_or, take, drop}
use Rattle.std.proofs.Math.Path.{refl, sym, ap}
use Rattle.std.proofs.Common.{◌∙◌, append-nil, zero-add, suc-add, arith}
use Rattle.std.proofs.lemmas.Bool.{false≢true}
use Rattle.std.proofs.Math.Decide.{dec_le}
use Rattle.std.proofs.Math.Seq.{slice, slice_empty, length-slice, take-nil, append_snoc}
use Rattle.machine.specs.Map.{Block, blocks_in, row_start, row_length, part_in, rest_in, whole_from}
use Rattle.machine.proofs.Laws.Map.Bodies.{entries_back, whole_entries}
use Rattle.walking.specs.Laws.{start_at, length_at, count_at, next_at, entries_at, after_is, whole_short, whole_cut, head_slice}

-- ---- a region of a whole body

-- the region at word at
abbrev pub block_at : List ℕ → ℕ → Block
block_at ws at = record { start = start_at ws at; length = length_at ws at; entries = entries_at ws at }

module _ (ws : List ℕ) (at to : ℕ) (long : to ≤ length ws) (some : at < to) (whole : whole_from 0 (slice at to ws) ≡ true) where
  pub region_fits : next_at ws at ≤ to
  unfolding whole_from
  region_fits = elim (dec_le (at + 3) to) [
    | yes three ↦ elim (dec_le (next_at ws at) to) [
      | yes l ↦ l
      | no l ↦
          let short = whole_short (count_at ws at) (slice (at + 3) to ws) (omega (arith, length-slice (at + 3) to ws long)) in
          absurd (false≢true (sym short ∙ sym (ap (whole_from 0) (head_slice ws to long at three)) ∙ whole))
    ]
    | no l ↦
        let words = length-slice at to ws long in
        absurd (false≢true (sym (whole_cut (slice at to ws) (omega (arith, words)) (omega (arith, words))) ∙ whole))
  ]

  pub blocks_next : blocks_in (slice at to ws) ≡ block_at ws at ∷ blocks_in (slice (next_at ws at) to ws)
  unfolding rest_in
  blocks_next = ap blocks_in (after_is ws at to long region_fits) ∙ rw (entries_back (entries_at ws at) (slice (next_at ws at) to ws)) refl

  pub whole_next : whole_from 0 (slice (next_at ws at) to ws) ≡ true
  unfolding whole_from
  whole_next =
      sym (whole_entries (entries_at ws at) (slice (next_at ws at) to ws)) ∙ sym (ap (whole_from 0) (after_is ws at to long region_fits)) ∙ whole

-- ---- a walk over a body: the blocks done, and those from word at on

pub record Walked (ws : List ℕ) (first to at : ℕ) : Type 0 where
  pub done : List Block
  pub split : blocks_in (slice first to ws) ≡ done ++ blocks_in (slice at to ws)
  pub whole : whole_from 0 (slice at to ws) ≡ true
  pub low : at ≤ to

abbrev pub walked_none : (ws : List ℕ) (first to : ℕ) → first ≤ to → whole_from 0 (slice first to ws) ≡ true → Walked ws first to first
walked_none ws first to l w = record { done = []; split = refl; whole = w; low = l }

-- no block is left at the end
pub blocks_end : (ws : List ℕ) (at to : ℕ) → at ≤ to → to ≤ at → blocks_in (slice at to ws) ≡ []
unfolding rest_in
blocks_end ws at to l h =
    let end : at ≡ to = omega arith in
    ap (λ (i : ℕ). blocks_in (slice i to ws)) end ∙ ap blocks_in (slice_empty to ws)

pub walked_all : {ws : List ℕ} {first to at : ℕ} (w : Walked ws first to at) → to ≤ at → blocks_in (slice first to ws) ≡ w.done
walked_all {ws} {first} {to} {at} w h =
    w.split ∙ ap (λ (bs : List Block). w.done ++ bs) (blocks_end ws at to w.low h) ∙ append-nil w.done

module _ (ws : List ℕ) {first to at : ℕ} (w : Walked ws first to at) (long : to ≤ length ws) (some : at < to) where
  abbrev pub here : Block
  here = block_at ws at

  pub walked_fits : next_at ws at ≤ to
  walked_fits = region_fits ws at to long some w.whole

  pub split_here : blocks_in (slice first to ws) ≡ w.done ++ (here ∷ blocks_in (slice (next_at ws at) to ws))
  split_here = w.split ∙ ap (λ (bs : List Block). w.done ++ bs) (blocks_next ws at to long some w.whole)

  module _ (n : ℕ) (n_is : n ≡ get_or ws (at + 2) 0) where
    pub walked_ends : at + (3 + 2 * n) ≤ to
    walked_ends = omega (arith, walked_fits)

    abbrev pub walked_more : Walked ws first to (at + (3 + 2 * n))
    walked_more =
        let there : at + (3 + 2 * n) ≡ next_at ws at = ap (λ (x : ℕ). at + (3 + 2 * x)) n_is in
        record {
          done = w.done ++ (here ∷ []);
          split =
              split_here
              ∙ sym (append_snoc w.done here (blocks_in (slice (next_at ws at) to ws)))
              ∙ ap (λ (i : ℕ). (w.done ++ (here ∷ [])) ++ blocks_in (slice i to ws)) (sym there);
          whole = ap (λ (i : ℕ). whole_from 0 (slice i to ws)) there ∙ whole_next ws at to long some w.whole;
          low = walked_ends;
        }

-- ---- a body as its row has it

slice_part : (s n : ℕ) (ws : List ℕ) → slice s (s + n) ws ≡ take n (drop s ws)
slice_part zero n ws = rw (zero-add n) refl
slice_part (suc s) n [] = rw (suc-add s n) (sym (take-nil n))
slice_part (suc s) n (w ∷ ws) = rw (suc-add s n) (slice_part s n ws)

pub part_slice : (ws : List ℕ) (i s n : ℕ) → s ≡ row_start ws i → n ≡ row_length ws i → slice s (s + n) ws ≡ part_in ws i
part_slice ws i s n s-is n_is =
    slice_part s n ws ∙ ap (λ (x : ℕ). take x (drop s ws)) n_is ∙ ap (λ (x : ℕ). take (row_length ws i) (drop x ws)) s-is
