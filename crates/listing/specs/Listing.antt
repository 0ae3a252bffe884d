-- Listing a space from its end: the records of the pages before a place split at the last start among them; and the answers of list.
use Rattle.std.specs.Prelude.{◌≡◌, Bool, leb, length}
use Rattle.std.proofs.Math.Path.{refl, sym, ap}
use Rattle.std.proofs.Common.{◌∙◌, inl, inr, lt-ltb, le-leb}
use Rattle.std.proofs.Math.Bool.{true, false, cond}
use mathlib.Core.List.{List, [], ◌∷◌, ◌++◌}
use Prim.Native.Nat.{ℕ, zero, suc, ◌+◌, ◌-◌, ◌≤◌, ◌<◌}
use Rattle.std.proofs.Math.Nat.{add-zero, zero-add, suc-add, add-suc}
use native.Mathlib.Omega.{arith}
use Rattle.std.proofs.lemmas.Bool.{lt-leb}
use Rattle.places.specs.Laws.{Last}
use Rattle.machine.specs.declared.PageCall.TheVariants.{Mark}
use Rattle.machine.specs.Machine.{State, sizes_ok, is_start, region, until_start, records, records_of, list_if, Answer, list, asked, accepted, refused, regions}
use Rattle.machine.proofs.Laws.Sizes.{fit}
use Rattle.machine.specs.declared.Region.{Region}
use Rattle.memory.specs.Memory.{Memory, sizes_of, lengths}
use Rattle.promise.specs.Holds.{Holds}
use Rattle.promise.specs.Did.{Later, Did}
use Rattle.laws.specs.Models.{check_of, mark_lengths}
use Rattle.laws.specs.Refusals.{passed_step, early_did, kept_did}
use Rattle.laws.specs.Checks.{page_check}

-- ---- the pages before the first start

module _ (s : ℕ → Bool) where
  until_clear : (p n : ℕ) → ((q : ℕ) → p ≤ q → q < p + n → s q ≡ false) → until_start s p n ≡ n
  unfolding until_start
  until_clear p zero clear = refl
  until_clear p (suc n) clear =
      rw (clear p (omega arith) (omega arith)) (ap suc (until_clear (suc p) n (λ q a b. clear q (omega arith) (omega arith))))

  -- what lies after a start counts for nothing
  until_cut : (p j n : ℕ) → s (p + j) ≡ true → until_start s p (j + suc n) ≡ until_start s p j
  unfolding until_start
  until_cut p zero n start = rw (zero-add, rw add-zero at start)
  until_cut p (suc j) n start =
      rw suc-add
      (ap (λ (x : ℕ). cond (s p) 0 (suc x)) (until_cut (suc p) j n (rw suc-add (rw add-suc at start))))

-- ---- the records of some pages

module _ (m : State) (lo : ℕ) where
  records_clear : (b n : ℕ) → ((q : ℕ) → lo + b ≤ q → q < lo + b + n → is_start m q ≡ false) → records m lo b n ≡ []
  unfolding records
  records_clear b zero clear = refl
  records_clear b (suc n) clear =
      rw (clear (lo + b) (omega arith) (omega arith)) (records_clear (suc b) n (λ q a b. clear q (omega arith) (omega arith)))

  -- the region from place a to before place e
  abbrev pub record_of : ℕ → ℕ → Region
  record_of a e = record { start = a - lo; length = e - a; resident = length (region m a) }

  module _ (a e : ℕ) (start : is_start m a ≡ true) (clear : (q : ℕ) → a < q → q < e → is_start m q ≡ false) where
    -- of j pages before a start and the others after it, these have the last record
    records_cut : (b j n : ℕ) → a ≡ lo + b + j → e ≡ a + suc n → records m lo b (j + suc n) ≡ records m lo b j ++ (record_of a e ∷ [])
    unfolding records
    records_cut b zero n ea ee =
        let here : a ≡ lo + b = omega arith in
        let at : a - lo ≡ b = omega arith in
        let long : e - a ≡ suc n = omega arith in
        rw (
          zero-add,
          ← here,
          start,
          at,
          long,
          until_clear (is_start m) (suc a) n (λ q x y. clear q (omega arith) (omega arith)),
          records_clear (suc b) n (λ q x y. clear q (omega arith) (omega arith)),
        )
    records_cut b (suc j) n ea ee =
        rw (
          suc-add,
          records_cut (suc b) j n (omega arith) ee,
          until_cut (is_start m) (suc (lo + b)) j n (let here : suc (lo + b) + j ≡ a = omega arith in rw here start),
        )
        (first (is_start m (lo + b)) _ _ _)
      where
        first : (t : Bool) (x : Region) (xs ys : List Region) → cond t (x ∷ (xs ++ ys)) (xs ++ ys) ≡ cond t (x ∷ xs) xs ++ ys
        first true x xs ys = refl
        first false x xs ys = refl

-- ---- the records of the pages of a space before a place

-- lo is the space's first place
abbrev pub records_below : State → ℕ → ℕ → List Region
records_below m lo e = records m lo 0 (e - lo)

module _ (m : State) (lo e : ℕ) where
  pub last_record : (a : ℕ) → lo ≤ a → Last (is_start m) e a → records_below m lo e ≡ records_below m lo a ++ (record_of m lo a e ∷ [])
  last_record a from last =
      let n : e - lo ≡ (a - lo) + suc (e - suc a) = omega arith in
      rw n (records_cut m lo a e last.member last.clear 0 (a - lo) (e - suc a) (omega arith) (omega arith))

  pub no_record : ((q : ℕ) → lo ≤ q → q < e → is_start m q ≡ false) → records_below m lo e ≡ []
  no_record clear = records_clear m lo 0 (e - lo) (λ q x y. clear q (omega arith) (omega arith))

-- ---- the call

-- list is lent index and counts, as a mark of the space's first page is
list_check : (k : Memory) (i room : ℕ) → check_of k.head (mark_lengths k) i true ≡ asked (sizes_of k.head) (list i room (lengths k))
unfolding check_of asked
list_check k i room = go (sizes_ok (sizes_of k.head)) refl
  where
    go : (ok : Bool) → sizes_ok (sizes_of k.head) ≡ ok → check_of k.head (mark_lengths k) i true ≡ asked (sizes_of k.head) (list i room (lengths k))
    go true e = rw (lt-ltb 0 k.head.pages (fit (sizes_of k.head) e).some_pages) at (page_check k i 0 Mark (mark_lengths k) refl)
    go false e = rw e

-- a list with room for so many records
module _ (i room : ℕ) (k : Memory) where
  pub list_refused : (n : ℕ) → n ≡ check_of k.head (mark_lengths k) i true → (n ≡ 0 → ⊥) → Did (list i room) k (refused n) k
  list_refused zero e d = absurd (d refl)
  list_refused (suc n) e d = early_did (list i room) k n (sym (e ∙ list_check k i room))

  module _ (checked : ◌≡◌ {A = ℕ} 0 (check_of k.head (mark_lengths k) i true)) where
    listed : (a : Answer) → Later (sizes_of k.head) (list i room (lengths k)) a
        → ((m : State) → Holds m k → a ≡ list_if (records_of m i) (leb (length (records_of m i)) room))
        → Did (list i room) k a k
    unfolding accepted
    listed a later says =
        let c = list i room (lengths k) in
        let e : asked (sizes_of k.head) c ≡ 0 = sym (list_check k i room) ∙ sym checked in
        kept_did (list i room) k a e later (tt, tt)
        (λ m h.
        let o = passed_step m c (ap (λ z. asked z c) (sym h.sizes_are) ∙ e) in
        (says m h ∙ ap (λ x. x.answer) (sym o), ap (λ x. x.after) o))

    module _ (many : ℕ) (counted : (m : State) → Holds m k → many ≡ length (records_of m i)) where
      pub list_short : room < many → Did (list i room) k (refused 11) k
      list_short h = listed _ (inr (inl refl), refl) (λ m o. rw (← counted m o, lt-leb many room h))

      -- rs are the records, on honest memory
      pub list_filled : (rs : List Region) → many ≤ room → ((m : State) → Holds m k → rs ≡ records_of m i) → Did (list i room) k (regions rs) k
      list_filled rs h filled = listed _ refl (λ m o. rw (← counted m o, le-leb many room h, filled m o))
