-- The bytes of one frame set to 0: those are 0, every other stays.
use Rattle.std.specs.Prelude.{◌≡◌, refl, ◌≢◌, ◌⊎◌, List, [], ◌∷◌, ◌++◌, ℕ, zero, suc, ◌+◌, ◌*◌, ◌/◌, ◌%◌, ◌≤◌, ◌<◌, length, get_or, set, drop, replicate}
use Rattle.std.proofs.Common.{sym, ap, ◌∙◌, ⊎_elim, mod-lt, div-add-mod', arith, length-set, get_or-set_same, get_or-set_other, drop-set-lt}
use Rattle.std.proofs.Math.Logic.{inl, inr}
use Rattle.std.proofs.Math.Nat.{mul-le-mul_right}
use Rattle.std.proofs.Math.Decide.{ℕ_discrete, dec_lt}
use Rattle.std.proofs.Math.Arith.{digits_div}
use Rattle.std.proofs.Math.ListN.{length-replicate, get_or-eq_default}
use Rattle.std.proofs.lemmas.List.Edits.{sets}
use Rattle.std.proofs.Math.Seq.{length-sets}
use Rattle.std.proofs.lemmas.List.{set-append_left}
use Rattle.machine.specs.Machine.{Sizes, zeroed}

-- ---- a run of stores

pub sets_out : (vs l : List ℕ) (i q : ℕ) → (q < i) ⊎ (i + length vs ≤ q) → get_or (sets l i vs) q 0 ≡ get_or l q 0
sets_out [] l i q d = refl
sets_out (v ∷ vs) l i q d =
    sets_out vs (set l i v) (suc i) q (⊎_elim (λ x. inl (omega arith)) (λ x. inr (omega arith)) d)
    ∙ get_or-set_other l i q v 0 (⊎_elim (λ x e. omega arith) (λ x e. omega arith) d)

-- past the end it is 0 too
set_zero : (l : List ℕ) (i : ℕ) → get_or (set l i 0) i 0 ≡ 0
set_zero l i = elim (dec_lt i (length l)) [
  | yes h ↦ get_or-set_same l i 0 0 h
  | no h ↦ get_or-eq_default (set l i 0) 0 (rw length-set (omega arith))
]

pub sets_zero : (n : ℕ) (l : List ℕ) (i q : ℕ) → i ≤ q → q < i + n → get_or (sets l i (replicate n 0)) q 0 ≡ 0
sets_zero zero l i q a b = absurd (omega arith)
sets_zero (suc n) l i q a b = elim (ℕ_discrete q i) [
  | yes e ↦ rw e (sets_out (replicate n 0) (set l i 0) (suc i) i (inl (omega arith)) ∙ set_zero l i)
  | no d ↦ sets_zero n (set l i 0) (suc i) q (omega arith) (omega arith)
]

drop_sets : (n : ℕ) (ws : List ℕ) (q : ℕ) (vs : List ℕ) → q + length vs ≤ n → drop n (sets ws q vs) ≡ drop n ws
drop_sets n ws q [] h = refl
drop_sets n ws q (v ∷ vs) h = drop_sets n (set ws q v) (suc q) vs (omega arith) ∙ drop-set-lt n ws q v (omega arith)

-- with more behind them
sets_front : (part rest : List ℕ) (i : ℕ) (vs : List ℕ) → i + length vs ≤ length part → sets (part ++ rest) i vs ≡ sets part i vs ++ rest
sets_front part rest i [] h = refl
sets_front part rest i (v ∷ vs) h =
    ap (λ (ws : List ℕ). sets ws (suc i) vs) (set-append_left part rest i v (omega arith))
    ∙ sets_front (set part i v) rest (suc i) vs (rw length-set (omega arith))

-- ---- a frame's bytes

-- a place of another frame lies before this one or past it
pub frame_apart : (n p f : ℕ) → 0 < n → p / n ≢ f → (p < f * n) ⊎ (suc f * n ≤ p)
frame_apart n p f pos d = go (dec_lt (p / n) f)
  where
    place : p / n * n + p % n ≡ p
    place = div-add-mod' p n

    go : Dec (p / n < f) → (p < f * n) ⊎ (suc f * n ≤ p)
    go (yes l) = inl (omega (arith, place, mod-lt p pos, mul-le-mul_right n l))
    go (no l) = let up : suc f ≤ p / n = omega arith in inr (omega (arith, place, mul-le-mul_right n up))

module _ (z : Sizes) (f : ℕ) (ram : List ℕ) where
  pub length_zeroed : length (zeroed z f ram) ≡ length ram
  unfolding zeroed
  length_zeroed = length-sets ram (f * z.page) (replicate z.page 0)

  pub zeroed_in : (o : ℕ) → o < z.page → get_or (zeroed z f ram) (f * z.page + o) 0 ≡ 0
  unfolding zeroed
  zeroed_in o l = sets_zero z.page ram (f * z.page) (f * z.page + o) (omega arith) (omega arith)

  -- a byte of another frame, by its place
  pub zeroed_else : (p : ℕ) → 0 < z.page → p / z.page ≢ f → get_or (zeroed z f ram) p 0 ≡ get_or ram p 0
  unfolding zeroed
  zeroed_else p pos d =
      sets_out (replicate z.page 0) ram (f * z.page) p
      (⊎_elim inl (λ l. inr (omega (arith, length-replicate {A = ℕ} z.page 0))) (frame_apart z.page p f pos d))

  -- and by its frame and offset
  pub zeroed_out : (g o : ℕ) → g ≢ f → o < z.page → get_or (zeroed z f ram) (g * z.page + o) 0 ≡ get_or ram (g * z.page + o) 0
  zeroed_out g o d l = zeroed_else (g * z.page + o) (omega arith) (λ e. d (sym (digits_div g {m = z.page} l) ∙ e))

  -- bytes past the frames
  pub zeroed_beyond : f < z.frames → drop (z.frames * z.page) (zeroed z f ram) ≡ drop (z.frames * z.page) ram
  unfolding zeroed
  zeroed_beyond l =
      drop_sets (z.frames * z.page) ram (f * z.page) (replicate z.page 0)
      (omega (arith, mul-le-mul_right z.page l, length-replicate {A = ℕ} z.page 0))

  -- bytes behind the RAM
  pub zeroed_front : (rest : List ℕ) → f < z.frames → z.frames * z.page ≤ length ram → zeroed z f (ram ++ rest) ≡ zeroed z f ram ++ rest
  unfolding zeroed
  zeroed_front rest l h =
      sets_front ram rest (f * z.page) (replicate z.page 0) (omega (arith, mul-le-mul_right z.page l, length-replicate {A = ℕ} z.page 0))
