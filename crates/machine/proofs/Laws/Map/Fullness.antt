-- What the contents tell of a space: its part's number, and the same whatever follows them.
use Rattle.std.specs.Prelude.{◌≡◌, refl, Bool, true, false, ◌&&◌, List, [], ◌∷◌, ◌++◌, ℕ, ◌+◌, ◌*◌, ◌/◌, ◌≤◌, ◌<◌, ltb, length, get_or, take, drop}
use Rattle.std.proofs.Common.{sym, ap, ap₂, ◌∙◌, arith, le-leb, leb-true, lt-ltb, ltb-true, length-append, length-take, take-append-drop}
use Rattle.sequence.specs.Lists.{tabulate}
use Rattle.words.specs.Words.{words_in}
use Rattle.words.specs.Laws.{length_words, words_front}
use Rattle.machine.specs.State.{Sizes, sizes_ok, between}
use Rattle.machine.specs.Machine.{pages}
use Rattle.machine.specs.Map.{Part, file_words, sizes_in, row_count}
use Rattle.machine.specs.MapRules.{contents_words, contents_whole}
use Rattle.machine.specs.Fullness.{fullness_if, fullness_of}
use Rattle.machine.proofs.Laws.Sizes.{fit}
use Rattle.machine.proofs.Laws.Map.Contents.{parts_many, part_of, sizes_back, count_back, contents_fit}

-- whole contents lie in the bytes
pub contents_long : (bytes : List ℕ) → contents_whole bytes ≡ true → 4 * contents_words (words_in bytes) ≤ length bytes
contents_long bytes e = leb-true (4 * contents_words (words_in bytes)) (length bytes) e

-- of a file of these sizes, with such a part for each space
module _ (file : List ℕ) (z : Sizes) (f : ℕ → Part) (pool : Part) (ok : sizes_ok z ≡ true) where
  abbrev parts : List Part
  parts = tabulate f z.spaces ++ (pool ∷ [])

  pub space_told : words_in file ≡ file_words z parts → (i : ℕ) → i < z.spaces → fullness_of file i ≡ pages (f i).count
  space_told is i h =
      let s = z.spaces in
      let all = parts_many f s pool in
      let spaces : (sizes_in (words_in file)).spaces ≡ s =
      ap (λ (ws : List ℕ). (sizes_in ws).spaces) is ∙ ap (λ (y : Sizes). y.spaces) (sizes_back z parts all) in
      let long : 4 * contents_words (words_in file) ≤ length file =
      omega (arith, spaces, contents_fit z parts all, ap (λ (ws : List ℕ). length ws) is, length_words (length file / 4) file refl) in
      let whole : contents_whole file ≡ true = le-leb (4 * contents_words (words_in file)) (length file) long in
      ap₂ (λ (n : ℕ) (t : Bool). fullness_if (between 1 64 n && t) (ltb i n) (row_count (words_in file) i)) spaces whole
      ∙ rw (
        le-leb 1 s (fit z ok).some_spaces,
        le-leb s 64 (fit z ok).few_spaces,
        lt-ltb i s h,
        ap (λ (ws : List ℕ). row_count ws i) is,
        count_back z parts all i (omega (arith, all)),
        part_of f s pool i h,
      )

-- no word is told of a space that isn't there
untold : (t : Bool) (n k : ℕ) → fullness_if t false n ≡ fullness_if t false k
untold true n k = refl
untold false n k = refl

module _ (contents rest : List ℕ) (whole : contents_whole contents ≡ true) where
  abbrev spaces : ℕ
  spaces = (sizes_in (words_in contents)).spaces

  long : 4 * contents_words (words_in contents) ≤ length contents
  long = contents_long contents whole

  pub rest_unread : (i : ℕ) → fullness_of (contents ++ rest) i ≡ fullness_of contents i
  rest_unread i =
      let file = contents ++ rest in
      let same : (sizes_in (words_in file)).spaces ≡ spaces = words_front 0 contents rest (omega (arith, long)) in
      let longer : 4 * contents_words (words_in file) ≤ length file = omega (arith, long, same, length-append contents rest) in
      let still : contents_whole file ≡ true = le-leb (4 * contents_words (words_in file)) (length file) longer in
      ap₂ (λ (n : ℕ) (t : Bool). fullness_if (between 1 64 n && t) (ltb i n) (row_count (words_in file) i)) same (still ∙ sym whole)
      ∙ go (between 1 64 spaces && contents_whole contents) (ltb i spaces) refl
    where
      go : (fine below : Bool) → ltb i spaces ≡ below
          → fullness_if fine below (row_count (words_in (contents ++ rest)) i) ≡ fullness_if fine below (row_count (words_in contents) i)
      go fine true e = ap (fullness_if fine true) (words_front (4 + (3 * i + 2)) contents rest (omega (arith, long, ltb-true i spaces e)))
      go fine false e = untold fine _ _

-- a file cut behind its contents
module _ (file : List ℕ) (whole : contents_whole file ≡ true) (n : ℕ) (after : 4 * contents_words (words_in file) ≤ n) where
  contents_kept : contents_whole (take n file) ≡ true
  contents_kept =
      let long = contents_long file whole in
      let kept : 4 * contents_words (words_in file) ≤ length (take n file) = omega (arith, length-take n file, after, long) in
      let same : get_or (words_in file) 0 0 ≡ get_or (words_in (take n file)) 0 0 =
      ap (λ (xs : List ℕ). get_or (words_in xs) 0 0) (sym (take-append-drop n file)) ∙ words_front 0 (take n file) (drop n file) (omega (arith, kept)) in
      le-leb (4 * contents_words (words_in (take n file))) (length (take n file)) (omega (arith, kept, same))

  pub cut_unread : (i : ℕ) → fullness_of (take n file) i ≡ fullness_of file i
  cut_unread i = sym (rest_unread (take n file) (drop n file) contents_kept i) ∙ ap (λ (xs : List ℕ). fullness_of xs i) (take-append-drop n file)
