-- The nine page sizes as powers of two, for the loop that finds one.
use Rattle.std.proofs.Math.Path.{◌≡◌, refl}
use Rattle.std.proofs.Common.{sym, ap, ◌∙◌, pow-suc, lt_of_not-le, not-le_of_lt, add-one, arith, eq-eqb, ne_eqb, pow_mono}
use Rattle.std.specs.Prelude.{◌≢◌, Bool, ℕ, ◌+◌, ◌*◌, ◌%◌, ◌^◌, ◌≤◌, ◌<◌, eqb, Result, Ok, Err}
use Rattle.std.proofs.Math.Bool.{true, false, cond}
use Rattle.std.proofs.Math.Decide.{ℕ_discrete}
use Rattle.std.proofs.Math.Pow.{pow-lt}
use Rattle.places.specs.Laws.{any_holds, any_clear}
use Rattle.machine.specs.Machine.{is_page_size}
use Rattle.machine.specs.Answers.{size, no_size, page_size_says, page_size_for}
use Rattle.machine.specs.declared.PageSize.{PageSize}
use Rattle.refusals.specs.Refusals.{number}
use Rattle.refusals.specs.declared.Refusal.{Refusal}

-- n is none of the sizes below 2 ^ shift
abbrev pub NoneBelow : ℕ → ℕ → Type 0
NoneBelow n shift = (k : ℕ) → 8 ≤ k → k < shift → n ≢ 2 ^ k

pub one_more : (n shift : ℕ) → NoneBelow n shift → n ≢ 2 ^ shift → NoneBelow n (shift + 1)
one_more n shift none d k l h = elim (ℕ_discrete k shift) [
  | yes e ↦ λ q. d (q ∙ ap (λ (x : ℕ). 2 ^ x) e)
  | no e ↦ none k l (omega arith)
]

pub size_made : (n shift : ℕ) → 8 ≤ shift → shift ≤ 16 → n ≡ 2 ^ shift → size (2 ^ shift) ≡ page_size_for n
unfolding page_size_for is_page_size
size_made n shift l h is =
    rw (any_holds (λ k. eqb n (2 ^ k)) 8 9 (record { place = shift; from = l; low = omega arith; member = eq-eqb n (2 ^ shift) is })) (ap size (sym is))

pub none_made : (n : ℕ) → NoneBelow n 17 → no_size 1 ≡ page_size_for n
unfolding page_size_for is_page_size
none_made n none = rw (any_clear (λ k. eqb n (2 ^ k)) 8 9 (λ k l g. ne_eqb n (2 ^ k) (none k l (omega arith))))

-- 1 shifted by it, in 32 bits
pub shifted_in : (shift : ℕ) → shift ≤ 16 → 1 * 2 ^ shift % 4294967296 ≡ 2 ^ shift
shifted_in shift h = let m : 2 ^ shift ≤ 2 ^ 16 = pow_mono h in omega arith

-- ---- what a size made, or none, says of the bytes asked for

module _ (n : ℕ) (made : Result PageSize Refusal) (of : page_size_says made ≡ page_size_for n) where
  pub none_of : (r : Refusal) → made ≡ Err r → is_page_size n ≡ false
  unfolding page_size_for
  none_of r e = go (is_page_size n) (rw e at of)
    where
      go : (b : Bool) → no_size (number r) ≡ cond b (size n) (no_size 1) → b ≡ false
      go true q = absurd (let z : ◌≡◌ {A = ℕ} 0 1 = cc in omega arith)
      go false q = refl

  pub bytes_of : (p : PageSize) → made ≡ Ok p → 2 ^ p.shift ≡ n
  unfolding page_size_for
  bytes_of p e = go (is_page_size n) (rw e at of)
    where
      go : (b : Bool) → size (2 ^ p.shift) ≡ cond b (size n) (no_size 1) → 2 ^ p.shift ≡ n
      go true q = cc
      go false q = absurd (let z : ◌≡◌ {A = ℕ} 0 1 = cc in omega arith)

-- ---- the same by the powers themselves

-- the sizes tried so far, up to 2 ^ shift, aren't n
pub record Tried (n power shift : ℕ) : Type 0 where
  pub is : power ≡ 2 ^ shift
  pub least : 8 ≤ shift
  pub most : shift ≤ 17
  pub none : (k : ℕ) → 8 ≤ k → k < shift → n ≢ 2 ^ k

pub none_tried : (n : ℕ) → Tried n 256 8
none_tried n = record { is = refl; least = omega arith; most = omega arith; none = λ k l h. absurd (omega arith) }

pub low_shift : (shift : ℕ) → 2 ^ shift ≤ 65536 → shift ≤ 16
low_shift shift h = let l : shift < 17 = lt_of_not-le (λ (g : 17 ≤ shift). not-le_of_lt (pow-lt {i = 16} {j = 17} (omega arith)) (grown g)) in omega arith
  where
    grown : 17 ≤ shift → 2 ^ 17 ≤ 2 ^ 16
    grown g = let m = pow_mono g in omega arith

pub high_shift : (shift : ℕ) → 65536 < 2 ^ shift → 17 ≤ shift
high_shift shift h = let l : 16 < shift = lt_of_not-le (λ (g : shift ≤ 16). not-le_of_lt h (pow_mono g)) in omega arith

pub one_tried : (n power shift : ℕ) → Tried n power shift → power ≤ 65536 → n ≢ power → Tried n (power * 2) (shift + 1)
one_tried n power shift t h d =
    let low = low_shift shift (let e = t.is in omega arith) in
    record {
      is = rw (add-one, pow-suc, ← t.is);
      least = omega (arith, t.least);
      most = omega arith;
      none = λ k l g. elim (ℕ_discrete k shift) [
        | yes e ↦ λ q. d (q ∙ ap (λ (x : ℕ). 2 ^ x) e ∙ sym t.is)
        | no e ↦ t.none k l (omega arith)
      ];
    }
