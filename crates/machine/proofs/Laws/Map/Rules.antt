-- The rules on a file's words, one by one.
use Rattle.std.specs.Prelude.{◌≡◌, Bool, true, false, ◌&&◌, List, [], ◌∷◌, eqb, length}
use Rattle.std.proofs.Math.Path.{refl, subst}
use Rattle.std.proofs.Common.{ap₂, arith}
use Rattle.std.proofs.lemmas.Bool.{false≢true}
use Prim.Native.Nat.{ℕ, zero, suc, ◌+◌, ◌≤◌, ◌<◌}
use Rattle.std.proofs.Math.Decide.{ℕ_discrete}
use borrow.Author.Tests.{eq-eqb, eqb-true}
use Rattle.places.specs.Places.{all_new}
use Rattle.machine.specs.State.{sizes_ok}
use Rattle.machine.specs.Map.{file_words, sizes_in, part_in, blocks_in}
use Rattle.machine.specs.MapRules.{fine_body, pages_once, bodies_fine, all_frames, parts_in, same, rules_ok}
use Rattle.machine.proofs.Laws.Sizes.{both}

-- ---- same words

same_refl : (xs : List ℕ) → same xs xs ≡ true
unfolding same
same_refl [] = refl
same_refl (x ∷ xs) = rw (eq-eqb x x refl) (same_refl xs)

pub is_same : (xs ys : List ℕ) → xs ≡ ys → same xs ys ≡ true
is_same xs ys e = subst (λ (zs : List ℕ). same xs zs ≡ true) e (same_refl xs)

pub same_is : (xs ys : List ℕ) → same xs ys ≡ true → xs ≡ ys
unfolding same
same_is [] [] h = refl
same_is [] (y ∷ ys) h = absurd (false≢true h)
same_is (x ∷ xs) [] h = absurd (false≢true h)
same_is (x ∷ xs) (y ∷ ys) h =
    let (a, b) = both (eqb x y) _ h in
    ap₂ ◌∷◌ (eqb-true x y a) (same_is xs ys b)

-- ---- bodies

-- the body of space i is one whose regions fill the space, with no page twice
pub record Body (pages : ℕ) (ws : List ℕ) (i : ℕ) : Type 0 where
  pub fine : fine_body pages (part_in ws i) ≡ true
  pub once : pages_once pages (blocks_in (part_in ws i)) ≡ true

module _ (pages : ℕ) (ws : List ℕ) where
  pub bodies_each : (j n : ℕ) → bodies_fine pages ws j n ≡ true → (i : ℕ) → j ≤ i → i < j + n → Body pages ws i
  unfolding bodies_fine
  bodies_each j zero h i low high = absurd (omega arith)
  bodies_each j (suc n) h i low high =
      let (a, rest) = both (fine_body pages (part_in ws j) && pages_once pages (blocks_in (part_in ws j))) _ h in
      let (fine, once) = both (fine_body pages (part_in ws j)) _ a in
      elim (ℕ_discrete j i) [
        | yes e ↦ subst (Body pages ws) e (record { fine = fine; once = once })
        | no d ↦ bodies_each (suc j) n rest i (omega arith) (omega arith)
      ]

  pub each_bodies : (j n : ℕ) → ((i : ℕ) → j ≤ i → i < j + n → Body pages ws i) → bodies_fine pages ws j n ≡ true
  unfolding bodies_fine
  each_bodies j zero h = refl
  each_bodies j (suc n) h =
      let b = h j (omega arith) (omega arith) in
      rw (b.fine, b.once) (each_bodies (suc j) n (λ i low high. h i (omega arith) (omega arith)))

-- ---- all rules

pub record Rules (ws : List ℕ) : Type 0 where
  pub sizes_ok_lem : sizes_ok (sizes_in ws) ≡ true
  -- "in order with no gaps", and no word more
  pub contents : file_words (sizes_in ws) (parts_in ws) ≡ ws
  pub bodies : (i : ℕ) → i < (sizes_in ws).spaces → Body (sizes_in ws).pages ws i
  -- "each frame stands once"
  pub frames_many : length (all_frames ws) ≡ (sizes_in ws).frames
  pub frames_new : all_new (sizes_in ws).frames (λ _. false) (all_frames ws) ≡ true

module _ (ws : List ℕ) where
  abbrev sized : Bool
  sized = sizes_ok (sizes_in ws)

  abbrev listed : Bool
  listed = same (file_words (sizes_in ws) (parts_in ws)) ws

  abbrev told : Bool
  told = bodies_fine (sizes_in ws).pages ws 0 (sizes_in ws).spaces

  abbrev counted : Bool
  counted = eqb (length (all_frames ws)) (sizes_in ws).frames

  pub rules_of : rules_ok ws ≡ true → Rules ws
  unfolding rules_ok
  rules_of h =
      let (h₄, new) = both (sized && listed && told && counted) _ h in
      let (h₃, many) = both (sized && listed && told) _ h₄ in
      let (h₂, fine) = both (sized && listed) _ h₃ in
      let (ok, contents) = both sized _ h₂ in
      record {
        sizes_ok_lem = ok;
        contents = same_is (file_words (sizes_in ws) (parts_in ws)) ws contents;
        bodies = λ i l. bodies_each (sizes_in ws).pages ws 0 (sizes_in ws).spaces fine i (omega arith) (omega arith);
        frames_many = eqb-true (length (all_frames ws)) (sizes_in ws).frames many;
        frames_new = new;
      }

  pub rules_are : Rules ws → rules_ok ws ≡ true
  unfolding rules_ok
  rules_are r =
      rw (
        r.sizes_ok_lem,
        is_same (file_words (sizes_in ws) (parts_in ws)) ws r.contents,
        each_bodies (sizes_in ws).pages ws 0 (sizes_in ws).spaces (λ i low high. r.bodies i (omega arith)),
        eq-eqb (length (all_frames ws)) (sizes_in ws).frames r.frames_many,
        r.frames_new,
      )
