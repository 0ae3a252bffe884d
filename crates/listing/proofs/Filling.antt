-- Filling the records of a space from the last to the first: each region told is the record before those that stand already.
use mathlib.Core.Path.{◌≡◌, refl, ap, ◌∙◌}
use mathlib.Core.List.{List, [], ◌∷◌}
use Prim.Native.Nat.{ℕ, suc, ◌+◌, ◌-◌, ◌*◌, ◌≤◌, ◌<◌}
use native.Mathlib.Omega.{arith}
use lib.ListN.{length, drop, set, length-set, length-drop}
use lib.Seq.{drop-drop, drop-set-lt, drop-set-add}
use Rattle.machine.specs.declared.Region.{Region}
use Rattle.promise.specs.Filled.{records_in}
use Rattle.listing.specs.declared.Cursor.{Cursor}
use Rattle.listing.specs.declared.Told.{Told}
use Rattle.listing.specs.Laws.{TellsOn, one_told, all_told}
use Rattle.listing.specs.Steps.{Tells, with_record, Fills}

-- ---- one record put

first_record : (x : Region) (n : ℕ) (ws : List ℕ) → 3 ≤ length ws
    → records_in (suc n) (set (set (set ws 0 x.start) 1 x.length) 2 x.resident) ≡ x ∷ records_in n (drop 3 ws)
first_record x n [] h = absurd (omega arith)
first_record x n (a ∷ []) h = absurd (omega arith)
first_record x n (a ∷ b ∷ []) h = absurd (omega arith)
first_record x n (a ∷ b ∷ c ∷ ws) h = refl

module _ (ws : List ℕ) (k : ℕ) (x : Region) where
  length_put : length (with_record ws k x) ≡ length ws
  length_put = simp length-set

  -- what lies after it stays
  put_rest : (n : ℕ) → 3 * k + 2 < n → drop n (with_record ws k x) ≡ drop n ws
  put_rest n h = rw (drop-set-lt n _ (3 * k + 2) _ h, drop-set-lt n _ (3 * k + 1) _ (omega arith), drop-set-lt n _ (3 * k) _ (omega arith))

  -- from it on it is the first
  put_first : (n : ℕ) → 3 * k + 2 < length ws → records_in (suc n) (drop (3 * k) (with_record ws k x)) ≡ x ∷ records_in n (drop (3 * suc k) ws)
  put_first n h =
      let at = 3 * k in
      let zero-th : at ≡ at + 0 = omega arith in
      let three : at + 3 ≡ 3 * suc k = omega arith in
      let front : drop at (set ws at x.start) ≡ set (drop at ws) 0 x.start =
      ap (λ (i : ℕ). drop at (set ws i x.start)) zero-th ∙ drop-set-add at ws 0 x.start in
      let whole : drop at (with_record ws k x) ≡ set (set (set (drop at ws) 0 x.start) 1 x.length) 2 x.resident =
      drop-set-add at _ 2 _ ∙ ap (λ l. set l 2 x.resident) (drop-set-add at _ 1 _ ∙ ap (λ l. set l 1 x.length) front) in
      ap (records_in (suc n)) whole
      ∙ first_record x n (drop at ws) (omega (arith, length-drop at ws))
      ∙ ap (λ l. x ∷ records_in n l) (drop-drop 3 at ws ∙ ap (λ (i : ℕ). drop i ws) three)

-- ---- the loop

-- c is left of the regions c₀; the records from number c .left on are told
pub record Filling (c₀ : Cursor) (index count slice slice' : List ℕ) (c : Cursor) : Type 0 where
  pub size : length slice' ≡ length slice
  pub after_last : drop (3 * c₀.left) slice' ≡ drop (3 * c₀.left) slice
  pub tells : TellsOn c₀ index count c (records_in (c₀.left - c.left) (drop (3 * c.left) slice'))

module _ {c₀ : Cursor} {index count slice : List ℕ} where
  module _ {slice' : List ℕ} {c : Cursor} (so_far : Filling c₀ index count slice slice' c) where
    pub all_filled : c.left ≤ 0 → Fills c₀ index count slice slice'
    all_filled done =
        let none : c.left ≡ 0 = omega arith in
        let from : 3 * c.left ≡ 0 = omega arith in
        let all : c₀.left - c.left ≡ c₀.left = omega arith in
        record { after_last = so_far.after_last; right = all_told none (rw (all, from) at so_far.tells) }

    module _ (room : 3 * c₀.left ≤ length slice) {r : Told} (told : Tells c index count r) where
      pub one_filled : Filling c₀ index count slice (with_record slice' r.rest.left r.region) r.rest
      one_filled =
          let k = r.rest.left in
          let next : suc k ≡ c.left = omega (arith, told.one_less) in
          let more : c₀.left - k ≡ suc (c₀.left - c.left) = omega (arith, so_far.tells.few, told.one_less) in
          record {
            size = length_put slice' k r.region ∙ so_far.size;
            after_last = put_rest slice' k r.region (3 * c₀.left) (omega (arith, so_far.tells.few, told.one_less)) ∙ so_far.after_last;
            tells = rw (more, put_first slice' k r.region (c₀.left - c.left) (omega (arith, so_far.tells.few, so_far.size, told.one_less)), next) (one_told so_far.tells told);
          }
