-- Each test of the sizes is one part of `contents_ok`.
use mathlib.Core.Path.{◌≡◌, refl, sym, ap, ap₂, ◌∙◌}
use mathlib.Core.Bool.{Bool, true, false, ◌&&◌, and-false}
use mathlib.Core.List.{List}
use Prim.Native.Nat.{ℕ, ◌*◌, ◌^◌, ◌<◌}
use native.Mathlib.Omega.{arith}
use borrow.Author.Tests.{lt-leb}
use lib.ListN.{length, get_or}
use Rattle.words.specs.Words.{words_in}
use Rattle.machine.specs.Machine.{sizes, sizes_ok}
use Rattle.machine.specs.Answers.{page_size_says, page_size_for}
use Rattle.machine.specs.Map.{sizes_in}
use Rattle.machine.specs.MapRules.{contents_words, contents_whole, contents_ok}
use Rattle.machine.proofs.Laws.PageSizes.{none_of, bytes_of}
use Rattle.machine.specs.declared.PageSize.{PageSize}
use Rattle.refusals.specs.declared.Refusal.{Refusal}
use Rattle.memory.specs.Memory.{sizes_of}
use Rattle.memory.specs.declared.Head.{Head}
use Rattle.judging.specs.Contents.{ContentsAre}
use Rattle.std.specs.Prelude.{Some, Result, Ok, Err}

module _ (file : List ℕ) where
  pub cut_short : contents_whole file ≡ false → contents_ok file ≡ false
  cut_short e = rw (e, and-false)

  -- without the words of the sizes
  pub no_sizes : length file < 16 → contents_ok file ≡ false
  no_sizes h = cut_short (lt-leb (4 * contents_words (words_in file)) (length file) (omega arith))

  -- the four words read, and the page size made of the last
  module _ (s n f b : ℕ) (s-is : s ≡ get_or (words_in file) 0 0) (n_is : n ≡ get_or (words_in file) 1 0) (f-is : f ≡ get_or (words_in file) 2 0)
      (b-is : b ≡ get_or (words_in file) 3 0) (made : Result PageSize Refusal) (of : page_size_says made ≡ page_size_for b) where
    pub no_page_size : (k : Refusal) → made ≡ Err k → contents_ok file ≡ false
    unfolding sizes_ok
    no_page_size k e = rw (← b-is, none_of b made of k e, and-false)

    module _ (p : PageSize) (e : made ≡ Ok p) where
      abbrev head : Head
      head = record { spaces = s; pages = n; frames = f; page = p; first = 0; many = 0; fresh = 0 }

      sizes_are : sizes_of head ≡ sizes_in (words_in file)
      sizes_are =
          ap₂ (λ (x y : ℕ). sizes x y f (2 ^ p.shift)) s-is n_is
          ∙ ap₂ (λ (x y : ℕ). sizes (get_or (words_in file) 0 0) (get_or (words_in file) 1 0) x y) f-is (bytes_of b made of p e ∙ b-is)

      pub outside_limits : sizes_ok (sizes_of head) ≡ false → contents_ok file ≡ false
      outside_limits fails = ap (λ (t : Bool). t && contents_whole file) (ap sizes_ok (sym sizes_are) ∙ fails)

      pub sizes_told : sizes_ok (sizes_of head) ≡ true → contents_whole file ≡ true → ContentsAre file (Some head)
      sizes_told passes whole = (rw (ap sizes_ok (sym sizes_are) ∙ passes, whole) refl, sizes_are, refl, refl, refl)
