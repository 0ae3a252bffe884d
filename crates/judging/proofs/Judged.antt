-- Each test of the judging is one of the rules.
use mathlib.Core.Path.{◌≡◌, refl, sym, ap, ◌∙◌}
use mathlib.Core.Bool.{Bool, true, false, ◌&&◌, and-false}
use mathlib.Core.List.{List, ◌++◌}
use Prim.Native.Nat.{ℕ, zero, suc, ◌+◌, ◌*◌, ◌/◌, ◌≤◌}
use native.Mathlib.Omega.{arith}
use borrow.Author.Tests.{eq-eqb, ne_eqb, eqb-true, leb-true, leb-false}
use lib.Dec.{eqb, leb}
use lib.ListN.{length, get_or, length-append, length-map}
use Rattle.places.specs.Places.{all_new}
use Rattle.words.specs.Words.{words_in}
use Rattle.words.specs.Laws.{length_words, words_long}
use Rattle.machine.specs.State.{sizes_ok}
use Rattle.machine.specs.Map.{Entry, first_body, file_words, blocks_in, sizes_in, row_count, part_in}
use Rattle.machine.specs.MapRules.{entry_frames, entries_of, bodies_fine, held_frames, parts_in, same, rules_ok, contents_ok}
use Rattle.machine.proofs.Laws.Sizes.{both, Fit, fit}
use Rattle.walking.specs.Rows.{Bodied}
use Rattle.bodies.specs.Laws.{fine_bodied}
use Rattle.judging.specs.Contents.{Sized, rows_tile, counts_from, told_from}
use Rattle.judging.specs.Tiles.{tiles_rowed}
use Rattle.judging.specs.Same.{same_short, same_rows}

-- ---- third words that are right tell how many frames there are

held_told : (ws : List ℕ) (i n : ℕ) → counts_from ws i n ≡ true → told_from ws i (suc n) ≡ length (held_frames ws i n ++ part_in ws (i + n))
unfolding counts_from told_from held_frames
held_told ws i zero h =
    let e : i + 0 ≡ i = omega arith in
    let pool : length (part_in ws (i + 0)) ≡ length (part_in ws i) = ap (λ (j : ℕ). length (part_in ws j)) e in
    omega (arith, eqb-true (row_count ws i) (length (part_in ws i)) h, pool)
held_told ws i (suc n) h =
    let entries = entries_of (blocks_in (part_in ws i)) in
    let (here, later) = both (eqb (row_count ws i) (length entries)) (counts_from ws (suc i) n) h in
    let next : suc i + n ≡ i + suc n = omega arith in
    let rest = held_frames ws (suc i) n in
    let pool = part_in ws (i + suc n) in
    let ih : told_from ws (suc i) (suc n) ≡ length (rest ++ pool) =
    held_told ws (suc i) n later ∙ ap (λ (j : ℕ). length (rest ++ part_in ws j)) next in
    omega (
      arith,
      eqb-true (row_count ws i) (length entries) here,
      ih,
      length-append rest pool,
      length-append (entry_frames entries ++ rest) pool,
      length-append (entry_frames entries) rest,
      length-map entries (λ (x : Entry). x.frame),
    )

pub frames_told : (ws : List ℕ) (spaces : ℕ) → counts_from ws 0 spaces ≡ true → told_from ws 0 (suc spaces) ≡ length (held_frames ws 0 spaces ++ part_in ws spaces)
frames_told ws spaces h =
    let e : 0 + spaces ≡ spaces = omega arith in
    held_told ws 0 spaces h ∙ ap (λ (j : ℕ). length (held_frames ws 0 spaces ++ part_in ws j)) e

-- ---- no contents

pub contents_bad : (file : List ℕ) → contents_ok file ≡ false → rules_ok (words_in file) ≡ false
unfolding rules_ok
contents_bad file e = go (sizes_ok (sizes_in (words_in file))) refl
  where
    there : Bool
    there = leb (4 * first_body (get_or (words_in file) 0 0)) (length file)

    go : (b : Bool) → sizes_ok (sizes_in (words_in file)) ≡ b → rules_ok (words_in file) ≡ false
    go false fails = rw fails
    go true ok =
        let short = leb-false (4 * first_body (get_or (words_in file) 0 0)) (length file) (sym (ap (λ (b : Bool). b && there) ok) ∙ e) in
        rw (same_short (words_in file) (omega (arith, length_words (length file / 4) file refl, short)), and-false)

-- ---- the other rules, in the order of the code

module _ (file : List ℕ) (spaces pages frames : ℕ) (z : Sized file spaces pages frames) where
  abbrev ws : List ℕ
  ws = words_in file

  abbrev found : List ℕ
  found = held_frames ws 0 spaces ++ part_in ws spaces

  sizes_pass : (sizes_ok (sizes_in ws) ≡ true) × (leb (4 * first_body (get_or ws 0 0)) (length file) ≡ true)
  sizes_pass = both (sizes_ok (sizes_in ws)) (leb (4 * first_body (get_or ws 0 0)) (length file)) z.ok

  limits : Fit (sizes_in ws)
  limits = fit (sizes_in ws) sizes_pass.0

  there : 4 * first_body (get_or ws 0 0) ≤ length file
  there = leb-true (4 * first_body (get_or ws 0 0)) (length file) sizes_pass.1

  pub rows_ready : (spaces ≤ 64) × (4 * first_body spaces ≤ length file)
  rows_ready = (omega (arith, limits.few_spaces, z.spaces_is), omega (arith, there, z.spaces_is))

  pub few_pages : pages ≤ 262144
  few_pages = omega (arith, limits.few_pages, z.pages_is)

  pub frames_within : (1 ≤ frames) × (frames ≤ 65536)
  frames_within = (omega (arith, limits.some_frames, z.frames_is), omega (arith, limits.few_frames, z.frames_is))

  rows_are : same (file_words (sizes_in ws) (parts_in ws)) ws ≡ rows_tile ws spaces && counts_from ws 0 spaces
  rows_are =
      same_rows ws (words_long (first_body (get_or ws 0 0)) file there)
      ∙ ap (λ (s : ℕ). rows_tile ws s && counts_from ws 0 s) (sym z.spaces_is)

  -- the rules but for the sizes
  rules_are : rules_ok ws
      ≡ (rows_tile ws spaces && counts_from ws 0 spaces) && bodies_fine pages ws 0 spaces && eqb (length found) frames && all_new frames (λ _. false) found
  unfolding rules_ok
  rules_are = rw (sizes_pass.0, rows_are, z.spaces_is, z.pages_is, z.frames_is) refl

  pub rows_bad : rows_tile ws spaces ≡ false → rules_ok ws ≡ false
  rows_bad e = rules_are ∙ rw e refl

  pub bodies_bad : bodies_fine pages ws 0 spaces ≡ false → rules_ok ws ≡ false
  bodies_bad e = rules_are ∙ rw (e, and-false) refl

  module _ (tile : rows_tile ws spaces ≡ true) (fine : bodies_fine pages ws 0 spaces ≡ true) where
    pub bodied : Bodied (length file) ws spaces
    bodied = fine_bodied pages (tiles_rowed file spaces rows_ready.1 tile) fine

    pub counts_bad : counts_from ws 0 spaces ≡ false → rules_ok ws ≡ false
    counts_bad e = rules_are ∙ rw (tile, e) refl

    module _ (counts : counts_from ws 0 spaces ≡ true) (told : ℕ) (told_is : told ≡ told_from ws 0 (suc spaces)) where
      many : told ≡ length found
      many = told_is ∙ frames_told ws spaces counts

      pub many_bad : (told ≡ frames → ⊥) → rules_ok ws ≡ false
      many_bad d = rules_are ∙ rw (tile, counts, fine, ne_eqb (length found) frames (λ e. d (many ∙ e))) refl

      pub frames_left_lem : told ≡ frames → rules_ok ws ≡ all_new frames (λ _. false) found
      frames_left_lem e = rules_are ∙ rw (tile, counts, fine, eq-eqb (length found) frames (sym many ∙ e)) refl
