-- List's records: one step of them, and what they add up to.
use Rattle.std.specs.Prelude.{◌≡◌, Bool, List, [], ◌∷◌, length}
use Rattle.std.proofs.Math.Path.{refl, ap, fun_ext}
use Rattle.std.proofs.Common.{sym, ap₂, ◌∙◌, add-zero, zero-add, zero-mul, arith}
use Rattle.std.proofs.Math.Bool.{true, false}
use Prim.Native.Nat.{ℕ, zero, suc, ◌+◌, ◌*◌}
use Rattle.std.proofs.Math.Nat.{add-suc}
use Rattle.sequence.specs.Sums.{sum, sum_from, sum_by_place, sum_blocks}
use Rattle.machine.specs.declared.Region.{Region}
use Rattle.machine.specs.Machine.{places, State, Pair, place_of, is_start, region, until_start, records, records_of}
use Rattle.machine.specs.Claims.{Sound, resident_pages, resident_in, listed_pages}
use Rattle.machine.proofs.Laws.Kept.{none_elsewhere}

-- ---- one step of the records

module _ (m : State) (lo b n : ℕ) where
  abbrev pub record_at : Region
  record_at = record { start = b; length = suc (until_start (is_start m) (suc (lo + b)) n); resident = length (region m (lo + b)) }

  pub records_start : is_start m (lo + b) ≡ true → records m lo b (suc n) ≡ record_at ∷ records m lo (suc b) n
  unfolding records
  records_start e = rw e

  pub records_none : is_start m (lo + b) ≡ false → records m lo b (suc n) ≡ records m lo (suc b) n
  unfolding records
  records_none e = rw e

pub until_start_lem : (s : ℕ → Bool) (p n : ℕ) → s p ≡ true → until_start s p (suc n) ≡ 0
unfolding until_start
until_start_lem s p n e = rw e

pub until_later : (s : ℕ → Bool) (p n : ℕ) → s p ≡ false → until_start s p (suc n) ≡ suc (until_start s (suc p) n)
unfolding until_start
until_later s p n e = rw e

-- ---- lengths

-- the pages before the first start, and the regions' lengths, are all pages
pub lengths_from : (m : State) (lo b n : ℕ) → until_start (is_start m) (lo + b) n + sum (λ r. r.length) (records m lo b n) ≡ n
unfolding until_start records
lengths_from m lo b zero = omega arith
lengths_from m lo b (suc n) =
    let ih = rw add-suc at (lengths_from m lo (suc b) n) in
    go (is_start m (lo + b)) refl ih
  where
    go : (t : Bool) → is_start m (lo + b) ≡ t → until_start (is_start m) (suc (lo + b)) n + sum (λ r. r.length) (records m lo (suc b) n) ≡ n
        → until_start (is_start m) (lo + b) (suc n) + sum (λ r. r.length) (records m lo b (suc n)) ≡ suc n
    go true e ih = omega (arith, until_start_lem (is_start m) (lo + b) n e, ap (sum (λ r. r.length)) (records_start m lo b n e))
    go false e ih = omega (arith, until_later (is_start m) (lo + b) n e, ap (sum (λ r. r.length)) (records_none m lo b n e))

pub lengths_add : (m : State) (i : ℕ)
    → until_start (is_start m) (place_of m.sizes i 0) m.sizes.pages + sum (λ r. r.length) (records_of m i) ≡ m.sizes.pages
lengths_add m i = rw add-zero at (lengths_from m (place_of m.sizes i 0) 0 m.sizes.pages)

-- ---- measures of regions

module _ (m : State) where
  -- what counts at starts alone adds up over the records as over the places
  over_records : (g : Region → ℕ) (h : ℕ → ℕ) (lo : ℕ) → ((b n : ℕ) → g (record_at m lo b n) ≡ h (lo + b)) → ((p : ℕ) → is_start m p ≡ false → h p ≡ 0)
      → (b n : ℕ) → sum g (records m lo b n) ≡ sum_from h (lo + b) n
  unfolding records
  over_records g h lo here none b zero = refl
  over_records g h lo here none b (suc n) = go (is_start m (lo + b)) refl (rw add-suc at (over_records g h lo here none (suc b) n))
    where
      go : (t : Bool) → is_start m (lo + b) ≡ t → sum g (records m lo (suc b) n) ≡ sum_from h (suc (lo + b)) n
          → sum g (records m lo b (suc n)) ≡ sum_from h (lo + b) (suc n)
      go true e ih = omega (arith, ih, here b n, ap (sum g) (records_start m lo b n e))
      go false e ih = omega (arith, ih, none (lo + b) e, ap (sum g) (records_none m lo b n e))

  -- over a space
  pub over_space : (i : ℕ) (g : Region → ℕ) (h : ℕ → ℕ) → ((b n : ℕ) → g (record_at m (place_of m.sizes i 0) b n) ≡ h (place_of m.sizes i 0 + b))
      → ((p : ℕ) → is_start m p ≡ false → h p ≡ 0) → sum g (records_of m i) ≡ sum_from h (i * m.sizes.pages) m.sizes.pages
  over_space i g h here none =
      over_records g h (place_of m.sizes i 0) here none 0 m.sizes.pages
      ∙ ap (λ (p : ℕ). sum_from h p m.sizes.pages) (add-zero (i * m.sizes.pages + 0) ∙ add-zero (i * m.sizes.pages))

  -- over all spaces
  pub over_spaces : length m.held ≡ places m.sizes → (h : List Pair → ℕ)
      → sum_from (λ i. sum_from (λ p. h (region m p)) (i * m.sizes.pages) m.sizes.pages) 0 m.sizes.spaces ≡ sum h m.held
  over_spaces long h =
      let at : ℕ → ℕ = λ p. h (region m p) in
      sum_blocks at m.sizes.pages 0 m.sizes.spaces
      ∙ ap₂ (sum_from at) (zero-mul m.sizes.pages) (sym long)
      ∙ sym (sum_by_place [] h m.held at 0 (λ k l. ap at (zero-add k)))

-- the records of a space add up to its resident pages
pub listed_in : (m : State) → Sound m → (i : ℕ) → sum (λ r. r.resident) (records_of m i) ≡ resident_in m i
listed_in m s i = over_space m i (λ r. r.resident) (λ p. length (region m p)) (λ b n. refl) (λ p e. ap length (none_elsewhere m s p e))

-- those of all spaces to all resident pages
pub listed_pages_lem : (m : State) → Sound m → listed_pages m ≡ resident_pages m
listed_pages_lem m s =
    ap (λ (g : ℕ → ℕ). sum_from g 0 m.sizes.spaces) (fun_ext (listed_in m s))
    ∙ over_spaces m s.held_are (λ xs. length xs)
