-- Records stored from the last to the first: each region told is the record before those that stand already; and the promise of a list from them.
use mathlib.Core.Path.{◌≡◌, refl, ap, ◌∙◌}
use mathlib.Core.List.{List, [], ◌∷◌}
use Prim.Native.Nat.{ℕ, zero, suc, ◌-◌, ◌≤◌, ◌<◌}
use native.Mathlib.Omega.{arith}
use lib.ListN.{length, take, drop, set, length-set}
use lib.Seq.{drop-set-lt}
use Rattle.machine.specs.declared.Region.{Region}
use Rattle.memory.specs.Memory.{memory}
use Rattle.memory.specs.declared.Head.{Head}
use Rattle.promise.specs.Filled.{RecordsDid}
use Rattle.listing.specs.declared.Cursor.{Cursor}
use Rattle.listing.specs.declared.Told.{Told}
use Rattle.machine.specs.Machine.{refused}
use Rattle.refusals.specs.Refusals.{number}
use Rattle.refusals.specs.declared.Refusal.{Refusal}
use Rattle.std.specs.Prelude.{Ok, Err}
use Rattle.listing.specs.Steps.{Tellable, Tells, Lists, ToTell}
use Rattle.listing.specs.Laws.{TellsOn, none_told, one_told, all_told}

-- c is left of the regions c₀; the records from number c .left on are told
pub record Stored (c₀ : Cursor) (index count : List ℕ) (slice : List Region) (c : Cursor) (slice' : List Region) : Type 0 where
  pub size : length slice' ≡ length slice
  pub after_last : drop c₀.left slice' ≡ drop c₀.left slice
  pub tells : TellsOn c₀ index count c (take (c₀.left - c.left) (drop c.left slice'))

first_record : (xs : List Region) (k n : ℕ) (x : Region) → k < length xs → take (suc n) (drop k (set xs k x)) ≡ x ∷ take n (drop (suc k) xs)
first_record [] k n x h = absurd (omega arith)
first_record (y ∷ xs) zero n x h = refl
first_record (y ∷ xs) (suc k) n x h = first_record xs k n x (omega arith)

module _ {c₀ : Cursor} {index count : List ℕ} {slice : List Region} where
  pub none_stored : Tellable c₀ count → Stored c₀ index count slice c₀ slice
  none_stored t =
      let nothing : c₀.left - c₀.left ≡ 0 = omega arith in
      record { size = refl; after_last = refl; tells = rw nothing (none_told t) }

  module _ {c : Cursor} {slice' : List Region} (so_far : Stored c₀ index count slice c slice') {r : Told} (told : Tells c index count r)
      (room : c₀.left ≤ length slice) where
    pub inside : r.rest.left < length slice'
    inside = omega (arith, so_far.tells.few, so_far.size, told.one_less)

    pub one_stored : Stored c₀ index count slice r.rest (set slice' r.rest.left r.region)
    one_stored =
        let k = r.rest.left in
        let next : suc k ≡ c.left = omega (arith, told.one_less) in
        let more : c₀.left - k ≡ suc (c₀.left - c.left) = omega (arith, so_far.tells.few, told.one_less) in
        record {
          size = length-set slice' k r.region ∙ so_far.size;
          after_last = drop-set-lt c₀.left slice' k r.region (omega (arith, so_far.tells.few, told.one_less)) ∙ so_far.after_last;
          tells = rw (more, first_record slice' k (c₀.left - c.left) r.region inside, next) (one_told so_far.tells told);
        }

-- all are stored, or nothing is where the survey refuses
module _ {h : Head} {i : ℕ} {index count : List ℕ} (slice : List Region) where
  pub all_stored : {c₀ c : Cursor} {slice' : List Region} → ToTell h i (length slice) index count c₀ → Stored c₀ index count slice c slice' → c.left ≤ 0
      → (table helper stack cache link ram : List ℕ)
      → RecordsDid i (memory h index count table helper stack cache link ram) (Ok c₀.left) slice slice'
  all_stored {c₀} {c} {slice'} s stored done table helper stack cache link ram =
      let none : c.left ≡ 0 = omega arith in
      let all : c₀.left - c.left ≡ c₀.left = omega arith in
      let from : drop c.left slice' ≡ slice' = ap (λ (k : ℕ). drop k slice') none in
      record {
        did = s.did (take c₀.left slice') (all_told none (rw (all, from) at stored.tells)) table helper stack cache link ram;
        kept = λ e is. absurd (let z : ◌≡◌ {A = ℕ} 0 1 = cc in omega arith);
        fits = s.fits;
        after_last = stored.after_last;
      }

  pub none_kept : (e : Refusal) → Lists h i (length slice) index count (refused (number e)) → (table helper stack cache link ram : List ℕ)
      → RecordsDid i (memory h index count table helper stack cache link ram) (Err e) slice slice
  none_kept e did table helper stack cache link ram =
      record { did = did table helper stack cache link ram; kept = λ e is. refl; fits = omega arith; after_last = refl }
