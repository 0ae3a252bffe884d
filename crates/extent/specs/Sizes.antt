-- How many words the index of t places takes: laws of `size`, for this crate and those above it.
use Rattle.std.specs.Prelude.{◌≡◌, ℕ, zero, suc, pred, ◌+◌, ◌≤◌, ◌<◌}
use Rattle.std.proofs.Math.Path.{ap}
use Rattle.std.proofs.Common.{arith}
use Rattle.std.proofs.Math.Decide.{dec_le}
use Rattle.places.specs.Places.{layers, words_for, stack_size, size}
use Rattle.places.specs.Laws.{layers_one, layers_two, layers_three}

-- r is 0 for 0, and 1 for every other number
abbrev pub Signum : ℕ → ℕ → Type 0
Signum n r = (r ≤ 1) × ((n ≡ 0 → r ≡ 0) × (0 < n → r ≡ 1))

-- ---- how many words

pub lowest_fits : (h n : ℕ) → n ≤ stack_size h n
unfolding stack_size
lowest_fits zero n = omega arith
lowest_fits (suc h) n = omega arith

module _ (t : ℕ) where
  pub lowest_size : words_for t ≤ size t
  unfolding size
  lowest_size = lowest_fits (pred (layers t)) (words_for t)

  module _ (h : ℕ) (e : layers t ≡ suc h) where
    pub size_is : size t ≡ stack_size h (words_for t)
    unfolding size
    size_is = ap (λ (k : ℕ). stack_size (pred k) (words_for t)) e

  pub size_one : t ≤ 64 → size t ≡ words_for t
  unfolding stack_size
  size_one h = size_is 0 (layers_one t h)

  pub size_two : 64 < t → t ≤ 4096 → size t ≡ words_for t + words_for (words_for t)
  unfolding stack_size
  size_two l h = size_is 1 (layers_two t l h)

  pub size_three : 4096 < t → size t ≡ words_for t + (words_for (words_for t) + words_for (words_for (words_for t)))
  unfolding stack_size
  size_three l = size_is 2 (layers_three t l)

-- ---- "until a layer has one word"

-- the words of the k-th layer above a layer of n words
unfoldable pub words_up : ℕ → ℕ → ℕ
words_up zero n = n
words_up (suc k) n = words_up k (words_for n)

pub record UntilOne (t h : ℕ) : Type 0 where
  pub top : words_up h (words_for t) ≡ 1
  pub under : (k : ℕ) → k < h → 1 < words_up k (words_for t)

pub until_one : (t : ℕ) → 1 ≤ t → t ≤ 262144 → UntilOne t (pred (layers t))
unfolding words_up
until_one t l m = go (dec_le t 64) (dec_le t 4096)
  where
    two : 64 < t → (k : ℕ) → k < 1 → 1 < words_up k (words_for t)
    two h zero x = omega arith
    two h (suc k) x = absurd (omega arith)

    three : 4096 < t → (k : ℕ) → k < 2 → 1 < words_up k (words_for t)
    three h zero x = omega arith
    three h (suc zero) x = omega arith
    three h (suc (suc k)) x = absurd (omega arith)

    go : Dec (t ≤ 64) → Dec (t ≤ 4096) → UntilOne t (pred (layers t))
    go (yes a) b = rw (layers_one t a) (record { top = omega arith; under = λ k h. absurd (omega arith) })
    go (no a) (yes b) = rw (layers_two t (omega arith) b) (record { top = omega arith; under = two (omega arith) })
    go (no a) (no b) = rw (layers_three t (omega arith)) (record { top = omega arith; under = three (omega arith) })
