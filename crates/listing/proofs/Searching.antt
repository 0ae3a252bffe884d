-- The greatest start below a place, from what a find at the place before it answers.
use Rattle.std.specs.Prelude.{◌≡◌, refl, List, ℕ, zero, suc, ◌-◌, ◌≤◌, ◌<◌, length, Some, None, Result, Ok, Err}
use Rattle.std.proofs.Common.{ap, ◌∙◌, arith}
use Rattle.std.specs.Result.{result_ok}
use Rattle.std.proofs.Math.Option.{Option, none, some}
use Rattle.places.specs.Places.{last_below, words_read}
use Rattle.places.specs.Laws.{Last, below_last, below_none}
use Rattle.extent.specs.Checks.{check}
use Rattle.index.specs.declared.RefusedFind.{RefusedFind}
use Rattle.layer.specs.declared.Greatest.{Greatest}
use Rattle.index.specs.Answers.{greatest_at, find, found as index_found}
use Rattle.index.specs.Promise.{Sought, Bounded}
use Rattle.machine.specs.Machine.{State, is_start}
use Rattle.listing.specs.Steps.{Indexed, StartBelow}

module _ (t lo e : ℕ) (ws : List ℕ) where
  module _ (low : e ≤ t) (some_pages : lo < e) where
    honest : {f : Result Greatest RefusedFind} → Sought t (e - 1) ws f → (m : State) → Indexed m t ws
        → f ≡ Ok (greatest_at (last_below (is_start m) e) (words_read t (is_start m) (e - 1)))
    unfolding find
    honest sought m x =
        let s = is_start m in
        let here : suc (e - 1) ≡ e = omega arith in
        sought.right s x.index_is
        ∙ ap (λ (n : ℕ). index_found n (find t s (e - 1))) (x.passes (e - 1) (omega arith))
        ∙ ap (λ (n : ℕ). Ok (greatest_at (last_below s n) (words_read t s (e - 1)))) here

    module _ {f : Result Greatest RefusedFind} {g : Greatest} (sought : Sought t (e - 1) ws f) (good : Some g ≡ result_ok f) where
      place_is : (m : State) → Indexed m t ws → g.place ≡ (greatest_at (last_below (is_start m) e) (words_read t (is_start m) (e - 1))).place
      place_is m x =
          let is = rw (honest sought m x) at good in
          let same : g ≡ greatest_at (last_below (is_start m) e) (words_read t (is_start m) (e - 1)) = cc in
          ap (λ (y : Greatest). y.place) same

      pub found_none : g.place ≡ None → StartBelow t lo e ws None
      found_none found =
          record { any = tt; right = λ m x q from below. below_none (is_start m) e (go m (last_below (is_start m) e) (rw found at (place_is m x))) q below }
        where
          go : (m : State) (o : Option ℕ) → None ≡ (greatest_at o (words_read t (is_start m) (e - 1))).place → o ≡ none
          go m none h = refl
          go m (some q) h = absurd (let z : ◌≡◌ {A = ℕ} 0 1 = cc in omega arith)

      module _ {a : ℕ} (found : g.place ≡ Some a) where
        found_low : a < e
        found_low = go (check (length ws) t (e - 1)) f good sought.any
          where
            go : (n : ℕ) (f : Result Greatest RefusedFind) → Some g ≡ result_ok f → Bounded n t (e - 1) f → a < e
            go zero (Ok h) is b =
                let same : h.place ≡ Some a = (let here : h ≡ g = cc in rw here found) in
                let inside = rw same at b.0 in
                omega arith
            go zero (Err k) is b = absurd b
            go (suc n) (Ok h) is b = absurd (let z : ◌≡◌ {A = ℕ} 0 1 = cc in omega arith)
            go (suc n) (Err k) is b = absurd (let z : ◌≡◌ {A = ℕ} 0 1 = cc in omega arith)

        found_last : (m : State) → Indexed m t ws → Last (is_start m) e a
        found_last m x = below_last (is_start m) e a (go (last_below (is_start m) e) (rw found at (place_is m x)))
          where
            go : (o : Option ℕ) → Some a ≡ (greatest_at o (words_read t (is_start m) (e - 1))).place → o ≡ some a
            go none h = absurd (let z : ◌≡◌ {A = ℕ} 0 1 = cc in omega arith)
            go (some q) h = cc

        pub found_inside : lo ≤ a → StartBelow t lo e ws (Some a)
        found_inside from = record { any = (from, found_low); right = λ m x. found_last m x }

        pub found_lower : a < lo → StartBelow t lo e ws None
        found_lower h = record { any = tt; right = λ m x q from below. (found_last m x).clear q (omega arith) below }
