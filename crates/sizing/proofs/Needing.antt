-- What is needed, from the page size made of the bytes asked for and the test on the sizes.
use mathlib.Core.Path.{◌≡◌, refl, ap}
use mathlib.Core.Bool.{Bool, true, false, cond, ◌&&◌}
use mathlib.Core.List.{[], ◌∷◌}
use Prim.Native.Nat.{ℕ, ◌^◌, ◌≤◌}
use native.Mathlib.Omega.{arith}
use lib.Dec.{leb}
use Rattle.machine.specs.Machine.{Sizes, places, sizes_ok, is_page_size, between}
use Rattle.machine.specs.Answers.{size as sized, no_size, page_size_says, page_size_for}
use Rattle.machine.proofs.Laws.Sizes.{fit, some_places}
use Rattle.std.specs.Prelude.{Result, Ok, Err}
use Rattle.refusals.specs.Refusals.{number}
use Rattle.refusals.specs.declared.Refusal.{Refusal}
use Rattle.machine.specs.declared.PageSize.{PageSize}
use Rattle.machine.specs.Machine.{sizes}
use Rattle.sizing.specs.Needed.{all_needed, needed_for}

and-false : (a b c d : Bool) → (a && b && c && d && false) ≡ false
and-false false b c d = refl
and-false true false c d = refl
and-false true true false d = refl
and-false true true true false = refl
and-false true true true true = refl

module _ (s n f bytes : ℕ) (made : Result PageSize Refusal) (of : page_size_says made ≡ page_size_for bytes) where
  pub no_page_size : (x : Refusal) → made ≡ Err x → 1 ∷ 0 ∷ 0 ∷ 0 ∷ 0 ∷ 0 ∷ [] ≡ needed_for (sizes s n f bytes)
  unfolding needed_for sizes_ok page_size_for
  no_page_size x e = go (is_page_size bytes) (rw e at of)
    where
      go : (b : Bool) → no_size (number x) ≡ cond b (sized bytes) (no_size 1)
          → 1 ∷ 0 ∷ 0 ∷ 0 ∷ 0 ∷ 0 ∷ [] ≡ cond (between 1 64 s && between 1 262144 n && leb (places (sizes s n f bytes)) 262144 && between 1 65536 f && b)
          (all_needed (sizes s n f bytes)) (1 ∷ 0 ∷ 0 ∷ 0 ∷ 0 ∷ 0 ∷ [])
      go true q = absurd (let z : ◌≡◌ {A = ℕ} 0 1 = cc in omega arith)
      go false q = rw (and-false (between 1 64 s) (between 1 262144 n) (leb (places (sizes s n f bytes)) 262144) (between 1 65536 f))

  module _ (p : PageSize) (e : made ≡ Ok p) where
    same_bytes : 2 ^ p.shift ≡ bytes
    unfolding page_size_for
    same_bytes = go (is_page_size bytes) (rw e at of)
      where
        go : (b : Bool) → sized (2 ^ p.shift) ≡ cond b (sized bytes) (no_size 1) → 2 ^ p.shift ≡ bytes
        go true q = cc
        go false q = absurd (let z : ◌≡◌ {A = ℕ} 0 1 = cc in omega arith)

    abbrev asked : Sizes
    asked = record { spaces = s; pages = n; frames = f; page = 2 ^ p.shift }

    needed_at : needed_for asked ≡ needed_for (sizes s n f bytes)
    needed_at = ap (λ (b : ℕ). needed_for (sizes s n f b)) same_bytes

    pub too_large : sizes_ok asked ≡ false → 1 ∷ 0 ∷ 0 ∷ 0 ∷ 0 ∷ 0 ∷ [] ≡ needed_for (sizes s n f bytes)
    unfolding needed_for
    too_large fails = rw (← needed_at, fails)

    pub within_limits : sizes_ok asked ≡ true → all_needed asked ≡ needed_for (sizes s n f bytes)
    unfolding needed_for
    within_limits passes = rw (← needed_at, passes)

-- what the words of the index ask
pub countable : (z : Sizes) → sizes_ok z ≡ true → (1 ≤ places z) × (places z ≤ 262144)
countable z ok = (some_places z (fit z ok), (fit z ok).few_places)
