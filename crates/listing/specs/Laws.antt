-- The regions of a space told from the last to the first: what the records told so far say of all of them, and the promise of a list from them.
use Rattle.std.specs.Prelude.{◌≡◌, refl, List, [], ◌∷◌, ◌++◌, ℕ, ◌≤◌, length}
use Rattle.std.proofs.Common.{sym, ◌∙◌, append-nil, append_assoc, arith}
use Rattle.machine.specs.declared.Region.{Region}
use Rattle.listing.specs.declared.Cursor.{Cursor}
use Rattle.listing.specs.declared.Told.{Told}
use Rattle.listing.specs.Steps.{Shows, Tellable, Tells}

-- c is left of the regions c₀; those after them are rs
pub record TellsOn (c₀ : Cursor) (index count : List ℕ) (c : Cursor) (rs : List Region) : Type 0 where
  pub few : c.left ≤ c₀.left
  pub tellable : Tellable c count
  pub right : (qs : List Region) → Shows c index count qs → Shows c₀ index count (qs ++ rs)

module _ {c₀ : Cursor} {index count : List ℕ} where
  pub none_told : Tellable c₀ count → TellsOn c₀ index count c₀ []
  none_told t = record { few = omega arith; tellable = t; right = λ qs shows. rw append-nil shows }

  module _ {c : Cursor} {rs : List Region} where
    pub one_told : {r : Told} → TellsOn c₀ index count c rs → Tells c index count r → TellsOn c₀ index count r.rest (r.region ∷ rs)
    one_told {r} so_far told =
        record {
          few = omega (arith, so_far.few, told.one_less);
          tellable = told.tellable;
          right = λ qs shows. rw append_assoc at (so_far.right (qs ++ (r.region ∷ [])) (told.right qs shows));
        }

    -- none are left
    pub all_told : c.left ≡ 0 → TellsOn c₀ index count c rs → Shows c₀ index count rs
    all_told none so_far = so_far.right [] (λ m x counts all. sym (empty _ (sym none ∙ all)))
      where
        empty : (xs : List Region) → 0 ≡ length xs → xs ≡ []
        empty [] h = refl
        empty (x ∷ xs) h = absurd (omega arith)
