-- One number put into the set, and the set made empty, from what the index answers.
use mathlib.Core.Path.{◌≡◌, refl, ap, ◌∙◌}
use mathlib.Core.Bool.{Bool, true, false, cond, not, ◌&&◌, false≢true}
use mathlib.Core.List.{List, [], ◌∷◌, ◌++◌}
use Prim.Native.Nat.{ℕ, ◌≤◌}
use native.Mathlib.Omega.{arith}
use lib.Dec.{leb, ltb}
use lib.ListN.{length, drop, length-append, length-drop}
use Rattle.places.specs.Places.{put, adding, all_new, size}
use Rattle.extent.specs.Checks.{places_ok, check_size, check}
use Rattle.index.specs.Words.{index_of, IndexOf}
use Rattle.std.specs.Prelude.{Result, Ok, Err}
use Rattle.std.specs.Result.{result_unwrap_or}
use Rattle.refusals.specs.declared.Refusal.{Refusal}
use Rattle.refusals.specs.Refusals.{answered}
use Rattle.index.specs.Promise.{Prepared, Asked, Inserted, Put}
use Rattle.index.specs.Laws.{index_front, length_index}
use Rattle.distinct.specs.Distinct.{Emptied, Saw}
use Rattle.distinct.specs.Laws.{size_few, set_fits}

check_is : (len f w : ℕ) → check_size len f ≡ 0 → check len f w ≡ cond (ltb w f) 0 3
unfolding check check_size
check_is len f w = go (places_ok f && leb (size f) len)
  where
    go : (b : Bool) → ◌≡◌ {A = ℕ} (cond b 0 1) 0 → ◌≡◌ {A = ℕ} (cond b (cond (ltb w f) 0 3) 1) (cond (ltb w f) 0 3)
    go true h = refl
    go false h = absurd (omega arith)

-- ---- one number

module _ {f w : ℕ} {ws : List ℕ} (fits : check_size (length ws) f ≡ 0) where
  answer_is : {a : Result Bool Refusal} → Asked f w ws a → (s : ℕ → Bool) → IndexOf f s ws → a ≡ answered (cond (ltb w f) 0 3) (s w)
  answer_is asked s i = asked.right s i ∙ ap (λ (n : ℕ). answered n (s w)) (check_is (length ws) f w fits)

  -- in the set already, or not below the bound
  saw_old : {a : Result Bool Refusal} → Asked f w ws a → (a ≡ Ok false → ⊥) → Saw f (w ∷ []) ws false ws
  unfolding all_new
  saw_old {a} asked d = record { size = refl; right = λ s i. go (ltb w f) (s w) (answer_is asked s i); after = λ s i e. absurd (false≢true e) }
    where
      go : (t u : Bool) → a ≡ answered (cond t 0 3) u → false ≡ t && not u && true
      go true true e = refl
      go true false e = absurd (d e)
      go false u e = refl

  saw_new : {r : Result (Unit {0}) Refusal} {ws' : List ℕ} → Asked f w ws (Ok false) → Put true f w ws r ws' → Saw f (w ∷ []) ws true ws'
  unfolding all_new adding
  saw_new {r} {ws'} asked p =
      record {
        size = p.few.size;
        right = λ s i. (go (ltb w f) (s w) (answer_is asked s i)).0;
        after = λ s i e.
            index_front f (put s w true) ws' (drop (size f) ws)
            (p.changed s i (check_is (length ws) f w fits ∙ (go (ltb w f) (s w) (answer_is asked s i)).1));
      }
    where
      go : (t u : Bool) → Ok false ≡ answered (cond t 0 3) u → (true ≡ t && not u && true) × (◌≡◌ {A = ℕ} (cond t 0 3) 0)
      go true true e = absurd (cc)
      go true false e = (refl, refl)
      go false u e = absurd (cc)

  -- an insertion tells whether the number is new
  pub saw_inserted : (r : Result Bool Refusal) {ws' : List ℕ} → Inserted f w ws r ws' → Saw f (w ∷ []) ws (result_unwrap_or r false) ws'
  saw_inserted (Ok true) i = saw_new i.0 i.1
  saw_inserted (Ok false) i = rw i.1 (saw_old i.0 (λ e. cc))
  saw_inserted (Err e) i = rw i.1 (saw_old i.0 (λ n. cc))

-- ---- the empty set

module _ {f : ℕ} {ws ws' : List ℕ} {a : Result (Unit {0}) Refusal} (low : 1 ≤ f) (high : f ≤ 65536) (long : 1041 ≤ length ws) (p : Prepared f ws a ws') where
  room : check_size (length ws) f ≡ 0
  room = set_fits (length ws) f long low high

  emptied_is : ws' ≡ index_of f (λ _. false) ++ drop (size f) ws
  emptied_is = p.cleared room

  same_size : length ws' ≡ length ws
  same_size =
      let front = length_index f (λ _. false) in
      let parts = length-append (index_of f (λ _. false)) (drop (size f) ws) in
      omega (arith, ap length emptied_is, parts, front, length-drop (size f) ws, size_few f high)

  pub emptied : Emptied f ws ws'
  emptied =
      record {
        size = same_size;
        room = ap (λ (n : ℕ). check_size n f) same_size ∙ room;
        none = index_front f (λ _. false) ws' (drop (size f) ws) emptied_is;
      }
