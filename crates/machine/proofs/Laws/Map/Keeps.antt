-- The words of a sound state keep all rules, whether calls lead to it or not.
use Rattle.std.specs.Prelude.{◌≡◌, refl, true, ℕ, ◌<◌}
use Rattle.std.proofs.Common.{sym, ◌∙◌, subst, zero-add}
use Rattle.std.proofs.Math.Path.{ap, ap₂}
use mathlib.Core.List.{List, [], ◌∷◌, ◌++◌}
use Rattle.std.proofs.Math.ListN.{length}
use Rattle.sequence.specs.Lists.{tabulate_same}
use Rattle.machine.specs.State.{State}
use Rattle.machine.specs.Claims.{Sound}
use Rattle.machine.specs.Map.{Block, Part, body_words, file_words, blocks_of, space_part, parts_of, map_words, part_in}
use Rattle.machine.specs.MapRules.{tiled, fine_from, fine_body, entries_of, space_in, parts_in, rules_ok}
use Rattle.machine.proofs.Laws.Map.Bodies.{blocks_back, whole_back, entries_count}
use Rattle.machine.proofs.Laws.Map.Rules.{Rules, rules_are}
use Rattle.machine.proofs.Laws.Map.Back.{blocks_of_lem, space_part_lem, pool_back}
use Rattle.machine.proofs.Laws.Map.Fine.{tiled_from}
use Rattle.machine.proofs.Laws.Map.Again.{first_picked}
use Rattle.machine.proofs.Laws.Map.Pages.{pages_once_lem}
use Rattle.machine.proofs.Laws.Map.Frames.{frames_many, frames_new}

-- a body of blocks that fill the space
fine_blocks : (n b : ℕ) (bs : List Block) → tiled n b bs ≡ true → fine_body n (body_words bs) ≡ true
unfolding body_words fine_from
fine_blocks n b [] h = refl
fine_blocks n b (x ∷ xs) h =
    rw (whole_back (x ∷ xs), blocks_back (x ∷ xs)) (subst (λ (c : ℕ). tiled n c (x ∷ xs) ≡ true) (sym (first_picked n b x xs h).start_is) h)

module _ (m : State) (s : Sound m) where
  pub body_fine : (i : ℕ) → i < m.sizes.spaces → fine_body m.sizes.pages (part_in (map_words m) i) ≡ true
  body_fine i h =
      ap (fine_body m.sizes.pages) (space_part_lem m s i h)
      ∙ fine_blocks m.sizes.pages _ (blocks_of m i) (tiled_from m s i 0 m.sizes.pages (zero-add m.sizes.pages))

  part_same : (i : ℕ) → i < m.sizes.spaces → space_in (map_words m) i ≡ space_part m i
  part_same i h =
      ap₂ (λ (ws : List ℕ) (k : ℕ). record { words = ws; count = k }) (space_part_lem m s i h)
      (ap (λ bs. length (entries_of bs)) (blocks_of_lem m s i h) ∙ entries_count (blocks_of m i))

  pub parts_same : parts_in (map_words m) ≡ parts_of m
  unfolding file_words
  parts_same =
      ap₂ (λ (xs ys : List Part). xs ++ ys) (tabulate_same (space_in (map_words m)) (space_part m) m.sizes.spaces part_same)
      (ap (λ (ws : List ℕ). record { words = ws; count = length ws } ∷ []) (pool_back m s))

  pub sound_keeps : Rules (map_words m)
  unfolding file_words
  sound_keeps =
      record {
        sizes_ok_lem = s.sizes_ok_lem;
        contents = ap (file_words m.sizes) parts_same;
        bodies = λ i h. record { fine = body_fine i h; once = pages_once_lem m s i h };
        frames_many = frames_many m s;
        frames_new = frames_new m s;
      }

  pub sound_rules : rules_ok (map_words m) ≡ true
  sound_rules = rules_are (map_words m) sound_keeps
