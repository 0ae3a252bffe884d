-- Words picked from a file, the set of those seen, and numbers seen one list after another.
use Rattle.std.specs.Prelude.{◌≡◌, refl, Bool, true, false, not, ◌&&◌, List, [], ◌∷◌, ◌++◌, ℕ, zero, suc, ◌+◌, ◌-◌, ◌*◌, ◌≤◌, ◌<◌, ltb, length, get_or}
use Rattle.std.proofs.Common.{sym, ap, ap₂, ◌∙◌, subst, mul-suc, mul-zero, arith}
use Rattle.std.proofs.Math.Bool.{and_assoc}
use Rattle.std.proofs.lemmas.Bool.{false≢true}
use Rattle.std.proofs.Math.Decide.{dec_le}
use Rattle.std.proofs.Math.Seq.{slice, slice-cons, slice_empty}
use Rattle.places.specs.Places.{put, adding, all_new, size}
use Rattle.extent.specs.Checks.{check_size}
use Rattle.extent.specs.Passing.{long_passes}
use Rattle.extent.specs.Sizes.{size_one, size_two, size_three}
use Rattle.index.specs.Words.{IndexOf}
use Rattle.distinct.specs.Distinct.{picked, picked_on, Reach, Saw, Seeing}

-- ---- words picked from a file

pub picked_more : (ws : List ℕ) (at step n : ℕ) → 0 < n → picked ws at step n ≡ get_or ws at 0 ∷ picked ws (at + step) step (n - 1)
unfolding picked
picked_more ws at step zero h = absurd (omega arith)
picked_more ws at step (suc n) h = let e : suc n - 1 ≡ n = omega arith in rw e

pub picked_first : (ws : List ℕ) (at step n w : ℕ) → 0 < n → w ≡ get_or ws at 0 → picked ws at step n ≡ (w ∷ []) ++ picked ws (at + step) step (n - 1)
picked_first ws at step n w h e = picked_more ws at step n h ∙ ap (λ (x : ℕ). x ∷ picked ws (at + step) step (n - 1)) (sym e)

pub picked_none : (ws : List ℕ) (at step n : ℕ) → n ≤ 0 → picked ws at step n ≡ []
unfolding picked
picked_none ws at step n h = let none : n ≡ 0 = omega arith in rw none

-- from number k on
module _ (ws : List ℕ) (from step n : ℕ) where
  pub picked_next : (k w : ℕ) → k < n → w ≡ get_or ws (from + step * k) 0 → picked_on ws from step n k ≡ (w ∷ []) ++ picked_on ws from step n (k + 1)
  picked_next k w h e =
      let there : from + step * k + step ≡ from + step * (k + 1) = omega (arith, mul-suc step k) in
      let left : n - k - 1 ≡ n - (k + 1) = omega arith in
      picked_first ws (from + step * k) step (n - k) w (omega arith) e ∙ ap₂ (λ (i j : ℕ). w ∷ picked ws i step j) there left

  pub picked_end : (k : ℕ) → n ≤ k → picked_on ws from step n k ≡ []
  picked_end k h = picked_none ws (from + step * k) step (n - k) (omega arith)

-- one after another
pub picked_slice : (ws : List ℕ) (from n : ℕ) → from + n ≤ length ws → picked ws from 1 n ≡ slice from (from + n) ws
unfolding picked
picked_slice ws from zero h = let e : from + 0 ≡ from = omega arith in rw e (sym (slice_empty from ws))
picked_slice ws from (suc n) h =
    let next : from + 1 ≡ suc from = omega arith in
    let end : suc from + n ≡ from + suc n = omega arith in
    ap (λ (xs : List ℕ). get_or ws from 0 ∷ xs)
    (ap (λ (i : ℕ). picked ws i 1 n) next ∙ picked_slice ws (suc from) n (omega arith) ∙ ap (λ (i : ℕ). slice (suc from) i ws) end)
    ∙ sym (slice-cons from (from + suc n) ws 0 (omega arith) h)

pub reach_first : (bytes at step n : ℕ) → Reach bytes at step n → 0 < n → 4 * at + 4 ≤ bytes
reach_first bytes at step n r h = omega (arith, r 0 h, mul-zero step)

pub reach_rest : (bytes at step n : ℕ) → Reach bytes at step n → 0 < n → Reach bytes (at + step) step (n - 1)
reach_rest bytes at step n r h k l = omega (arith, r (suc k) (omega arith), mul-suc step k)

-- ---- a buffer of 1,041 words holds a set of up to 65,536 numbers

pub size_few : (f : ℕ) → f ≤ 65536 → size f ≤ 1041
size_few f h = elim (dec_le f 64) [
  | yes l ↦ omega (arith, size_one f l)
  | no l ↦ elim (dec_le f 4096) [
    | yes k ↦ omega (arith, size_two f (omega arith) k)
    | no k ↦ omega (arith, size_three f (omega arith))
  ]
]

pub set_fits : (len f : ℕ) → 1041 ≤ len → 1 ≤ f → f ≤ 65536 → check_size len f ≡ 0
set_fits len f long low high = long_passes len f (record { some_places = low; few_places = omega arith; long = omega (arith, size_few f high) })

-- ---- one list after another

pub adding_append : (s : ℕ → Bool) (xs ys : List ℕ) → adding s (xs ++ ys) ≡ adding (adding s xs) ys
unfolding adding
adding_append s [] ys = refl
adding_append s (x ∷ xs) ys = adding_append (put s x true) xs ys

pub new_append : (f : ℕ) (s : ℕ → Bool) (xs ys : List ℕ) → all_new f s (xs ++ ys) ≡ all_new f s xs && all_new f (adding s xs) ys
unfolding all_new adding
new_append f s [] ys = refl
new_append f s (x ∷ xs) ys =
    ap (λ (t : Bool). ltb x f && not (s x) && t) (new_append f (put s x true) xs ys)
    ∙ sym (and_assoc (ltb x f && not (s x)) (all_new f (put s x true) xs) (all_new f (adding (put s x true) xs) ys))

pub saw_as : {f : ℕ} {xs ys ws ws' : List ℕ} {r : Bool} → xs ≡ ys → Saw f ys ws r ws' → Saw f xs ws r ws'
saw_as {f} {xs} {ys} {ws} {ws'} {r} e = subst (λ (zs : List ℕ). Saw f zs ws r ws') (sym e)

saw_none : (f : ℕ) (ws : List ℕ) → Saw f [] ws true ws
unfolding all_new adding
saw_none f ws = record { size = refl; right = λ s i. refl; after = λ s i e. i }

pub saw_nothing : {f : ℕ} {xs ws : List ℕ} → xs ≡ [] → Saw f xs ws true ws
saw_nothing {f} {xs} {ws} e = saw_as e (saw_none f ws)

module _ {f : ℕ} (xs ys : List ℕ) {ws ws₁ : List ℕ} where
  pub saw_more : {ws₂ : List ℕ} {r : Bool} → Saw f xs ws true ws₁ → Saw f ys ws₁ r ws₂ → Saw f (xs ++ ys) ws r ws₂
  saw_more {ws₂} {r} a b =
      record {
        size = b.size ∙ a.size;
        right = λ s i.
            b.right (adding s xs) (a.after s i refl)
            ∙ ap (λ (t : Bool). t && all_new f (adding s xs) ys) (a.right s i)
            ∙ sym (new_append f s xs ys);
        after = λ s i e. subst (λ (u : ℕ → Bool). IndexOf f u ws₂) (sym (adding_append s xs ys)) (b.after (adding s xs) (a.after s i refl) e);
      }

  -- what isn't new stays so, whatever follows
  pub saw_not : Saw f xs ws false ws₁ → Saw f (xs ++ ys) ws false ws₁
  saw_not a =
      record {
        size = a.size;
        right = λ s i. ap (λ (t : Bool). t && all_new f (adding s xs) ys) (a.right s i) ∙ sym (new_append f s xs ys);
        after = λ s i e. absurd (false≢true e);
      }

-- ---- a loop that sees one part after another

pub begin_seeing : {f : ℕ} {xs ys seen : List ℕ} → xs ≡ ys → Seeing f xs seen seen ys
begin_seeing e = record { size = refl; rest = λ r seen'. saw_as e }

module _ {f : ℕ} {xs seen₀ seen ys : List ℕ} (so_far : Seeing f xs seen₀ seen ys) where
  pub all_seen : ys ≡ [] → Saw f xs seen₀ true seen
  all_seen e = so_far.rest true seen (saw_nothing e)

  module _ (part zs : List ℕ) (split : ys ≡ part ++ zs) {r : Bool} {seen' : List ℕ} (one : Saw f part seen r seen') where
    pub seen_more : r ≡ true → Seeing f xs seen₀ seen' zs
    seen_more e =
        let new = subst (λ (t : Bool). Saw f part seen t seen') e one in
        record {
          size = one.size ∙ so_far.size;
          rest = λ t seen'' y. so_far.rest t seen'' (saw_as split (saw_more part zs new y));
        }

    pub seen_not : r ≡ false → Saw f xs seen₀ false seen'
    seen_not e =
        let old = subst (λ (t : Bool). Saw f part seen t seen') e one in
        so_far.rest false seen' (saw_as split (saw_not part zs old))
