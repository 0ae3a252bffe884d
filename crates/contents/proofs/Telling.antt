-- What each test decides: of whole contents, and of `fullness_of`.
use mathlib.Core.Path.{◌≡◌, sym, ap, ap₂, ◌∙◌}
use mathlib.Core.Bool.{Bool, true, false, ◌&&◌, and-false}
use mathlib.Core.List.{List}
use Prim.Native.Nat.{ℕ, ◌+◌, ◌*◌, ◌≤◌, ◌<◌}
use native.Mathlib.Omega.{arith}
use borrow.Author.Tests.{le-leb, lt-leb, le-ltb, lt-ltb}
use lib.Dec.{leb, ltb}
use lib.ListN.{length, get_or}
use Rattle.words.specs.Words.{words_in}
use Rattle.machine.specs.State.{between}
use Rattle.machine.specs.Machine.{pages, refused}
use Rattle.machine.specs.Map.{row_count}
use Rattle.machine.specs.MapRules.{contents_words, contents_whole}
use Rattle.machine.specs.Fullness.{fullness_if, fullness_of}

module _ (bytes : List ℕ) where
  pub without_word : length bytes < 4 → contents_whole bytes ≡ false
  without_word h = lt-leb (4 * contents_words (words_in bytes)) (length bytes) (omega arith)

  pub by_length : (s : ℕ) → s ≡ get_or (words_in bytes) 0 0 → leb (4 * (4 + 3 * (s + 1))) (length bytes) ≡ contents_whole bytes
  by_length s s-is =
      let same : 4 * (4 + 3 * (s + 1)) ≡ 4 * contents_words (words_in bytes) = omega (arith, s-is) in
      ap (λ (n : ℕ). leb n (length bytes)) same

module _ (bytes : List ℕ) (i : ℕ) where
  pub cut_short : contents_whole bytes ≡ false → fullness_of bytes i ≡ refused 1
  cut_short e = rw (e, and-false)

  -- whole contents, and S as it was read
  module _ (s : ℕ) (s-is : s ≡ get_or (words_in bytes) 0 0) (whole : contents_whole bytes ≡ true) where
    by_spaces : fullness_of bytes i ≡ fullness_if (between 1 64 s && true) (ltb i s) (row_count (words_in bytes) i)
    by_spaces = ap₂ (λ (n : ℕ) (t : Bool). fullness_if (between 1 64 n && t) (ltb i n) (row_count (words_in bytes) i)) (sym s-is) whole

    pub too_few : s < 1 → fullness_of bytes i ≡ refused 1
    too_few h = by_spaces ∙ rw (lt-leb 1 s h)

    module _ (some_spaces : 1 ≤ s) where
      pub too_many : 64 < s → fullness_of bytes i ≡ refused 1
      too_many h = by_spaces ∙ rw (le-leb 1 s some_spaces, lt-leb s 64 h)

      module _ (few : s ≤ 64) where
        within : fullness_of bytes i ≡ fullness_if true (ltb i s) (row_count (words_in bytes) i)
        within = by_spaces ∙ rw (le-leb 1 s some_spaces, le-leb s 64 few)

        pub no_space : s ≤ i → fullness_of bytes i ≡ refused 2
        no_space h = within ∙ rw (le-ltb i s h)

        pub told : i < s → (n : ℕ) → n ≡ row_count (words_in bytes) i → fullness_of bytes i ≡ pages n
        told h n n_is = within ∙ rw (lt-ltb i s h, n_is)
