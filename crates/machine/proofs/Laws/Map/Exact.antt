-- Words that keep the rules are the words of the state that they tell of.
use Rattle.std.specs.Prelude.{◌≡◌, refl, true, false, ℕ, ◌+◌, ◌-◌, ◌*◌, ◌/◌, ◌%◌, ◌≤◌, ◌<◌, length}
use Rattle.std.proofs.Common.{sym, ap₂, ◌∙◌, add-zero, zero-add, mul-le-mul_right, suc-mul, arith}
use Rattle.std.proofs.Math.Path.{ap}
use Rattle.std.proofs.Math.Option.{Option}
use mathlib.Core.List.{List, [], ◌∷◌, ◌++◌, map}
use Rattle.std.proofs.Math.Arith.{digits_div, digits_mod}
use Rattle.sequence.specs.Lists.{get_or_tabulate, tabulate_same}
use Rattle.sequence.specs.Sums.{sum}
use Rattle.machine.specs.State.{places, place_of, State, records}
use Rattle.machine.specs.Map.{Entry, Block, Part, body_words, file_words, block_of, blocks_of, space_part, map_words, whole_from, rest_in, blocks_in}
use Rattle.machine.specs.Map.{sizes_in, part_in, entries_at, is_some, or_empty, pair_of, found_at, held_at, state_in}
use Rattle.machine.specs.MapRules.{tiled, fine_from, fine_body, space_in, pool_in}
use Rattle.machine.proofs.Laws.Sizes.{both}
use Rattle.machine.proofs.Laws.Map.Bodies.{words_back, entries_count}
use Rattle.machine.proofs.Laws.Map.Rules.{Rules}
use Rattle.machine.proofs.Laws.Map.Again.{first_picked, ends_at, none_lower, records_skip, Tells, blocks_again}

-- ---- a body whose blocks fill the space

tiled_low : (n b : ℕ) (bs : List Block) → tiled n b bs ≡ true → b ≤ n
tiled_low n b [] h = omega (arith, ends_at n b h)
tiled_low n b (x ∷ xs) h = omega (arith, (first_picked n b x xs h).inside)

module _ (m : State) (lo n : ℕ) where
  tiled_again : (b : ℕ) (bs : List Block) → tiled n b bs ≡ true → ((c : ℕ) → Tells m lo n c bs) → map (block_of m lo) (records m lo 0 n) ≡ bs
  tiled_again b bs h t =
      let low = tiled_low n b bs h in
      let all : n ≡ b + (n - b) = omega arith in
      let skipped =
      records_skip m lo 0 b (n - b) (λ q from below. (t 0).starts q from (omega arith) ∙ ap is_some (none_lower n b q bs h (omega arith))) in
      ap (λ (k : ℕ). map (block_of m lo) (records m lo 0 k)) all
      ∙ ap (map (block_of m lo)) (skipped ∙ ap (λ (p : ℕ). records m lo p (n - b)) (zero-add b))
      ∙ blocks_again m lo n b bs h (t b)

  body_again : (part : List ℕ) → fine_body n part ≡ true → ((c : ℕ) → Tells m lo n c (blocks_in part))
      → map (block_of m lo) (records m lo 0 n) ≡ blocks_in part
  unfolding fine_from rest_in entries_at records
  body_again [] h t =
      ap (λ (k : ℕ). map (block_of m lo) (records m lo 0 k)) (sym (add-zero n))
      ∙ ap (map (block_of m lo)) (records_skip m lo 0 n 0 (λ q from below. (t 0).starts q from (omega arith)))
  body_again (a ∷ rest) h t = tiled_again a (blocks_in (a ∷ rest)) (both (whole_from 0 (a ∷ rest)) _ h).1 t

part_again : (n : ℕ) (part : List ℕ) → fine_body n part ≡ true → body_words (blocks_in part) ≡ part
unfolding fine_from rest_in body_words
part_again n [] h = refl
part_again n (a ∷ rest) h = words_back (a ∷ rest) (both (whole_from 0 (a ∷ rest)) _ h).0

-- ---- read, then written

module _ (ram ws : List ℕ) where
  abbrev m : State
  m = state_in ram ws

  abbrev N : ℕ
  N = (sizes_in ws).pages

  abbrev S : ℕ
  S = (sizes_in ws).spaces

  -- space i, of which the state tells what the file does
  module _ (i : ℕ) (inside : i < (sizes_in ws).spaces) where
    abbrev lo : ℕ
    lo = place_of (sizes_in ws) i 0

    low : (q : ℕ) → q < N → lo + q < places (sizes_in ws)
    low q h = omega (arith, mul-le-mul_right N inside, suc-mul i N)

    quotient : (q : ℕ) → q < N → (lo + q) / N ≡ i
    quotient q h = rw (add-zero (i * N)) (digits_div i {m = N} h)

    remainder : (q : ℕ) → q < N → (lo + q) % N ≡ q
    remainder q h = rw (add-zero (i * N)) (digits_mod i {m = N} h)

    found_is : (q : ℕ) → q < N → found_at N ws (lo + q) ≡ entries_at (blocks_in (part_in ws i)) q
    found_is q h = ap₂ (λ (j r : ℕ). entries_at (blocks_in (part_in ws j)) r) (quotient q h) (remainder q h)

    pub tells : (b : ℕ) → Tells m lo N b (blocks_in (part_in ws i))
    tells b =
        record {
          starts = λ q from h. get_or_tabulate (λ p. is_some (found_at N ws p)) (places (sizes_in ws)) (lo + q) false (low q h) ∙ ap is_some (found_is q h);
          held = λ q from h.
              let first : (lo + q) / N * N ≡ lo = ap (λ (j : ℕ). j * N) (quotient q h) ∙ sym (add-zero (i * N)) in
              get_or_tabulate (held_at N ws) (places (sizes_in ws)) (lo + q) [] (low q h)
              ∙ ap₂ (λ (j : ℕ) (o : Option (List Entry)). map (pair_of j) (or_empty o)) first (found_is q h);
        }

    module _ (fine : fine_body (sizes_in ws).pages (part_in ws i) ≡ true) where
      pub blocks_same : blocks_of m i ≡ blocks_in (part_in ws i)
      blocks_same = body_again m lo N (part_in ws i) fine tells

      part_same : space_part m i ≡ space_in ws i
      part_same =
          ap (λ (bs : List Block). record { words = body_words bs; count = sum (λ b. length b.entries) bs }) blocks_same
          ∙ ap₂ (λ (xs : List ℕ) (k : ℕ). record { words = xs; count = k }) (part_again N (part_in ws i) fine) (sym (entries_count (blocks_in (part_in ws i))))

  -- "read then write the same bytes", on words
  pub read_write : Rules ws → map_words m ≡ ws
  read_write r =
      ap (λ (xs : List Part). file_words (sizes_in ws) (xs ++ (pool_in ws ∷ [])))
      (tabulate_same (space_part m) (space_in ws) S (λ i h. part_same i h (r.bodies i h).fine))
      ∙ r.contents
