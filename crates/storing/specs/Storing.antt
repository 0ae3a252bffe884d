-- Bytes stored one after another, at whatever places: a part and then the rest, a run of places, how much changes.
use Rattle.std.specs.Prelude.{◌≡◌, ℕ, suc, ◌+◌, ◌<◌, length, set}
use Rattle.std.proofs.Math.Path.{refl, sym, ap, subst}
use Rattle.std.proofs.Common.{◌∙◌, add-suc, suc-add, one-add, arith}
use mathlib.Core.List.{List, [], ◌∷◌, ◌++◌}
use Rattle.std.proofs.Math.Option.{Option, none, some}
use Rattle.std.proofs.Math.Nat.{add-zero}
use Rattle.std.proofs.lemmas.List.Edits.{sets}
use Rattle.std.proofs.Math.Seq.{drop-set-lt}
use Rattle.sequence.specs.Changes.{changed_none, changed_set}
use Rattle.sequence.specs.Lists.{suc_across}
use Rattle.machine.specs.Machine.{stored_in, stored_at}
use Rattle.promise.specs.Did.{Words}
use Rattle.promise.proofs.Refuses.{words_then}

module _ (place : ℕ → Option ℕ) where
  -- a part, then the rest
  pub stored_append : (x : ℕ) (vs ws ram : List ℕ) → stored_at place x (vs ++ ws) ram ≡ stored_at place (x + length vs) ws (stored_at place x vs ram)
  unfolding stored_at
  stored_append x [] ws ram = rw add-zero
  stored_append x (v ∷ vs) ws ram =
      let r = stored_in ram (place x) v in
      stored_append (suc x) vs ws r ∙ ap (λ (y : ℕ). stored_at place y ws (stored_at place (suc x) vs r)) (suc_across x (length vs))

  -- at addresses that lie one after another in RAM, from q on
  pub stored_run : (x q : ℕ) (vs ram : List ℕ) → ((k : ℕ) → k < length vs → place (x + k) ≡ some (q + k)) → stored_at place x vs ram ≡ sets ram q vs
  unfolding stored_at
  stored_run x q [] ram at = refl
  stored_run x q (v ∷ vs) ram at =
      let here : place x ≡ some q = ap place (sym (add-zero x)) ∙ at 0 (omega arith) ∙ ap some (add-zero q) in
      ap (λ o. stored_at place (suc x) vs (stored_in ram o v)) here
      ∙ stored_run (suc x) (suc q) vs (set ram q v)
      (λ k l. ap place (suc_across x k) ∙ at (suc k) (omega arith) ∙ ap some (add-suc q k ∙ sym (suc-add q k)))

  -- at addresses that have no place
  pub stored_nowhere : (x : ℕ) (vs ram : List ℕ) → ((k : ℕ) → k < length vs → place (x + k) ≡ none) → stored_at place x vs ram ≡ ram
  unfolding stored_at
  stored_nowhere x [] ram nowhere = refl
  stored_nowhere x (v ∷ vs) ram nowhere =
      ap (λ o. stored_at place (suc x) vs (stored_in ram o v)) (ap place (sym (add-zero x)) ∙ nowhere 0 (omega arith))
      ∙ stored_nowhere (suc x) vs ram (λ k l. ap place (suc_across x k) ∙ nowhere (suc k) (omega arith))

  -- at the same places
  pub stored_same : (place' : ℕ → Option ℕ) (x : ℕ) (vs ram : List ℕ) → ((k : ℕ) → k < length vs → place (x + k) ≡ place' (x + k))
      → stored_at place x vs ram ≡ stored_at place' x vs ram
  unfolding stored_at
  stored_same place' x [] ram same = refl
  stored_same place' x (v ∷ vs) ram same =
      ap (λ o. stored_at place (suc x) vs (stored_in ram o v)) (ap place (sym (add-zero x)) ∙ same 0 (omega arith) ∙ ap place' (add-zero x))
      ∙ stored_same place' (suc x) vs (stored_in ram (place' x) v)
      (λ k l. ap place (suc_across x k) ∙ same (suc k) (omega arith) ∙ ap place' (sym (suc_across x k)))

  -- as many bytes as were stored, none past the t bytes that they lie in
  pub stored_words : (t x : ℕ) (vs ram : List ℕ) → ((k p : ℕ) → k < length vs → place (x + k) ≡ some p → p < t)
      → Words (length vs) t ram (stored_at place x vs ram)
  unfolding stored_at
  stored_words t x [] ram low = record { few = changed_none 0 ram; excess = refl }
  stored_words t x (v ∷ vs) ram low =
      let one = store_words (place x) refl in
      let rest = stored_words t (suc x) vs (stored_in ram (place x) v) (λ k p l e. low (suc k) p (omega arith) (ap place (sym (suc_across x k)) ∙ e)) in
      subst (λ (n : ℕ). Words n t ram (stored_at place x (v ∷ vs) ram)) (one-add (length vs)) (words_then one rest)
    where
      store_words : (o : Option ℕ) → place x ≡ o → Words 1 t ram (stored_in ram o v)
      store_words none e = record { few = changed_none 1 ram; excess = refl }
      store_words (some q) e = record { few = changed_set ram q v; excess = drop-set-lt t ram q v (low 0 q (omega arith) (ap place (add-zero x) ∙ e)) }
