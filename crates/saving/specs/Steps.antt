-- One step of each walk over what is saved: from a start to the next, from a place to the next.
use Rattle.std.specs.Prelude.{◌≡◌, Bool}
use Rattle.std.proofs.Math.Path.{refl, ap, fun_ext}
use Rattle.std.proofs.Common.{sym, ap₂, ◌∙◌, zero-add, add-zero, add-one}
use Rattle.std.proofs.Math.Bool.{true, false, cond}
use mathlib.Core.List.{List, [], ◌∷◌, ◌++◌}
use Prim.Native.Nat.{ℕ, zero, suc, ◌+◌, ◌-◌, ◌≤◌, ◌<◌}
use Rattle.std.proofs.Math.Nat.{add-suc, sub-zero}
use native.Mathlib.Omega.{arith}
use Rattle.std.proofs.Math.ListN.{length}
use Rattle.sequence.specs.Lists.{suc_across, tabulate, length_tabulate}
use Rattle.sequence.specs.Sums.{sum_from}
use Rattle.layer.specs.Words.{bit_at}
use Rattle.machine.specs.State.{until_start}
use Rattle.machine.specs.Map.{Block, entry_words, body_words}
use Rattle.memory.specs.Memory.{at}
use Rattle.saving.specs.Storing.{Splits}
use Rattle.saving.specs.Saved.{entry_at, entries_from, blocks_from, chained}

-- ---- a list by a rule, from its entry i on

module _ {ℓ} {A : Type ℓ} (f : ℕ → A) (i n : ℕ) where
  pub rest_next : i < n → tabulate (λ j. f (i + j)) (n - i) ≡ f i ∷ tabulate (λ j. f (i + 1 + j)) (n - (i + 1))
  unfolding tabulate
  rest_next h =
      let e : n - i ≡ suc (n - (i + 1)) = omega arith in
      let on : (j : ℕ) → i + suc j ≡ i + 1 + j = λ j. omega arith in
      rw e
      (ap₂ (λ (x : A) (xs : List A). x ∷ xs) (ap f (add-zero i))
      (ap (λ (g : ℕ → A). tabulate g (n - (i + 1))) (fun_ext (λ (j : ℕ). ap f (on j)))))

  pub rest_all : i ≡ 0 → tabulate f n ≡ tabulate (λ j. f (i + j)) (n - i)
  rest_all e = rw (e, sub-zero) (ap (λ (g : ℕ → A). tabulate g n) (fun_ext (λ (j : ℕ). ap f (sym (zero-add j)))))

  pub rest_done : n ≤ i → tabulate (λ j. f (i + j)) (n - i) ≡ []
  unfolding tabulate
  rest_done h = let e : n - i ≡ 0 = omega arith in rw e

-- ---- the pages of a region

-- from the one whose place stands at p in the stack to before `end`
abbrev pub entries_left : List ℕ → List ℕ → ℕ → ℕ → ℕ → List ℕ
entries_left table stack lo p end = entry_words (tabulate (λ j. entry_at table lo (at stack (p + j))) (end - p))

module _ (table stack : List ℕ) (lo : ℕ) where
  pub entries_all : (a n : ℕ) → entry_words (entries_from table stack lo a n) ≡ entries_left table stack lo a (a + n)
  entries_all a n = let e : a + n - a ≡ n = omega arith in rw e

  -- u and v are the words of the page at place q, the next
  pub entries_next : {p next end q r u v : ℕ} → p < end → next ≡ p + 1 → q ≡ at stack p → u ≡ q - lo → r ≡ q → v ≡ at table r
      → Splits (entries_left table stack lo p end) (u ∷ v ∷ []) (entries_left table stack lo next end)
  unfolding entry_words
  entries_next {p} {end = end} h on place page same frame =
      record { is = rw (on, frame, same, page, place) (ap entry_words (rest_next (λ q. entry_at table lo (at stack q)) p end h)) }

  pub entries_done : (p end : ℕ) → end ≤ p → entries_left table stack lo p end ≡ []
  unfolding entry_words
  entries_done p end h = ap entry_words (rest_done (λ q. entry_at table lo (at stack q)) p end h)

-- ---- a chain

pub chain_next : (link : List ℕ) (a n : ℕ) → 0 < n → chained link a n ≡ a ∷ chained link (at link a) (n - 1)
unfolding chained
chain_next link a n h = let e : n ≡ suc (n - 1) = omega arith in go n (n - 1) e
  where
    go : (n m : ℕ) → n ≡ suc m → chained link a n ≡ a ∷ chained link (at link a) m
    go n m e = rw e

-- with the next frame as it was read
pub chain_on : (link : List ℕ) (a n : ℕ) {w next : ℕ} → 0 < n → w ≡ a → next ≡ at link w → chained link a n ≡ a ∷ chained link next (n - 1)
chain_on link a n h same e = chain_next link a n h ∙ ap (λ (b : ℕ). a ∷ chained link b (n - 1)) (sym (e ∙ ap (at link) same))

pub chain_done : (link : List ℕ) (a n : ℕ) → n ≤ 0 → chained link a n ≡ []
unfolding chained
chain_done link a zero h = refl
chain_done link a (suc n) h = absurd (omega arith)

-- ---- sums over starts

module _ (s : ℕ → Bool) (g : ℕ → ℕ) (none : (q : ℕ) → s q ≡ false → g q ≡ 0) where
  sum_skip : (p n : ℕ) → sum_from g p n ≡ sum_from g (p + until_start s p n) (n - until_start s p n)
  unfolding until_start
  sum_skip p zero = refl
  sum_skip p (suc n) = go (s p) refl (sum_skip (suc p) n)
    where
      go : (b : Bool) → s p ≡ b
          → sum_from g (suc p) n ≡ sum_from g (suc p + until_start s (suc p) n) (n - until_start s (suc p) n)
          → let u = cond b 0 (suc (until_start s (suc p) n)) in sum_from g p (suc n) ≡ sum_from g (p + u) (suc n - u)
      go true e rest = rw (add-zero, sub-zero)
      go false e rest =
          let less : suc n - suc (until_start s (suc p) n) ≡ n - until_start s (suc p) n = omega arith in
          rw (less, ← suc_across p (until_start s (suc p) n)) (omega (arith, none p e, rest))

  module _ (end : ℕ) where
    pub sum_first : (p a : ℕ) → p ≤ end → a ≡ p + until_start s p (end - p) → sum_from g p (end - p) ≡ sum_from g a (end - a)
    sum_first p a h e =
        let left : end - p - until_start s p (end - p) ≡ end - a = omega arith in
        sum_skip p (end - p) ∙ ap₂ (sum_from g) (sym e) left

    pub sum_next : (a next : ℕ) → a < end → next ≡ a + 1 + until_start s (a + 1) (end - (a + 1))
        → sum_from g a (end - a) ≡ g a + sum_from g next (end - next)
    sum_next a next h e =
        let more : end - a ≡ suc (end - (a + 1)) = omega arith in
        rw (more, ← add-one a) (ap (λ (n : ℕ). g a + n) (sum_first (a + 1) next (omega arith) e))

-- ---- regions

-- the region from place a to before place next
abbrev pub block_at : List ℕ → List ℕ → List ℕ → ℕ → ℕ → ℕ → Block
block_at count table stack lo a next = record { start = a - lo; length = next - a; entries = entries_from table stack lo a (at count a) }

module _ (index count table stack : List ℕ) (lo : ℕ) where
  blocks_skip : (b n : ℕ) → let u = until_start (bit_at index) (lo + b) n in
      blocks_from index count table stack lo b n ≡ blocks_from index count table stack lo (b + u) (n - u)
  unfolding until_start blocks_from
  blocks_skip b zero = refl
  blocks_skip b (suc n) = go (bit_at index (lo + b)) refl (rw add-suc at (blocks_skip (suc b) n))
    where
      go : (v : Bool) → bit_at index (lo + b) ≡ v
          → (let w = until_start (bit_at index) (suc (lo + b)) n in
          blocks_from index count table stack lo (suc b) n ≡ blocks_from index count table stack lo (suc b + w) (n - w))
          → (let u = cond v 0 (suc (until_start (bit_at index) (suc (lo + b)) n)) in
          blocks_from index count table stack lo b (suc n) ≡ blocks_from index count table stack lo (b + u) (suc n - u))
      go true e rest = rw (add-zero, sub-zero)
      go false e rest =
          let w = until_start (bit_at index) (suc (lo + b)) n in
          let less : suc n - suc w ≡ n - w = omega arith in
          rw (less, ← suc_across b w, e) rest

  module _ (end : ℕ) where
    -- from place p on, that of page b
    blocks_from_lem : (b p a : ℕ) → p ≤ end → p ≡ lo + b → a ≡ p + until_start (bit_at index) p (end - p)
        → blocks_from index count table stack lo b (end - p) ≡ blocks_from index count table stack lo (a - lo) (end - a)
    blocks_from_lem b p a h here e =
        let u = until_start (bit_at index) (lo + b) (end - p) in
        let same : a ≡ p + u = e ∙ ap (λ (q : ℕ). p + until_start (bit_at index) q (end - p)) here in
        let on : b + u ≡ a - lo = omega arith in
        let left : end - p - u ≡ end - a = omega arith in
        blocks_skip b (end - p) ∙ ap₂ (blocks_from index count table stack lo) on left

    pub blocks_first : (a : ℕ) → lo ≤ end → a ≡ lo + until_start (bit_at index) lo (end - lo)
        → blocks_from index count table stack lo 0 (end - lo) ≡ blocks_from index count table stack lo (a - lo) (end - a)
    blocks_first a h e = blocks_from_lem 0 lo a h (sym (add-zero lo)) e

    pub blocks_next : (a next : ℕ) → lo ≤ a → a < end → bit_at index a ≡ true → next ≡ a + 1 + until_start (bit_at index) (a + 1) (end - (a + 1))
        → blocks_from index count table stack lo (a - lo) (end - a)
        ≡ block_at count table stack lo a next ∷ blocks_from index count table stack lo (next - lo) (end - next)
    unfolding blocks_from
    blocks_next a next h l start e =
        let n = end - (a + 1) in
        let more : end - a ≡ suc n = omega arith in
        let here : lo + (a - lo) ≡ a = omega arith in
        let same : next ≡ a + 1 + until_start (bit_at index) (suc a) n = e ∙ ap (λ (q : ℕ). a + 1 + until_start (bit_at index) q n) (add-one a) in
        let long : suc (until_start (bit_at index) (suc a) n) ≡ next - a = omega arith in
        let tail = blocks_from_lem (suc (a - lo)) (a + 1) next (omega arith) (omega arith) e in
        rw (more, here, start)
        (ap₂ (λ (m : ℕ) (bs : List Block). record { start = a - lo; length = m; entries = entries_from table stack lo a (at count a) } ∷ bs) long tail)

  pub blocks_done : (b n : ℕ) → n ≤ 0 → blocks_from index count table stack lo b n ≡ []
  unfolding blocks_from
  blocks_done b zero h = refl
  blocks_done b (suc n) h = absurd (omega arith)

-- a region's words: its head, then its pages
abbrev pub block_words : Block → List ℕ
block_words b = b.start ∷ b.length ∷ length b.entries ∷ entry_words b.entries

pub body_next : (b : Block) (bs : List Block) → body_words (b ∷ bs) ≡ block_words b ++ body_words bs
unfolding body_words
body_next b bs = refl

-- n is the resident count, told twice
pub block_parts : (count table stack : List ℕ) (lo a next : ℕ) {n w : ℕ} → n ≡ at count a → w ≡ n
    → Splits (block_words (block_at count table stack lo a next)) ((a - lo) ∷ (next - a) ∷ n ∷ []) (entry_words (entries_from table stack lo a w))
block_parts count table stack lo a next {n} {w} told same =
    let pages = entry_words (entries_from table stack lo a (at count a)) in
    record { is = rw (same, told) (ap (λ (m : ℕ). (a - lo) ∷ (next - a) ∷ m ∷ pages) (length_tabulate _ (at count a))) }
