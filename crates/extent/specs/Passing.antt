-- What a check that refuses nothing gives, and what it takes; for the crates above.
use Rattle.std.specs.Prelude.{◌≡◌, refl, Bool, true, false, cond, ◌&&◌, ℕ, ◌/◌, ◌≤◌, ◌<◌, leb, ltb}
use Rattle.std.proofs.Math.Bool.{and-eq-true_iff}
use Rattle.std.proofs.Common.{arith}
use borrow.Author.Tests.{leb-true, ltb-true, le-leb, lt-ltb}
use Rattle.places.specs.Places.{size}
use Rattle.extent.specs.Checks.{places_ok, check_needed, check_size, check}
use Rattle.extent.specs.Sizes.{lowest_size}

-- ---- the number of places

pub ok_places : (t : ℕ) → places_ok t ≡ true → (1 ≤ t) × (t ≤ 262144)
unfolding places_ok
ok_places t e =
    let k = (and-eq-true_iff (leb 1 t) (leb t 262144)).0 e in
    (leb-true 1 t k.0, leb-true t 262144 k.1)

pub places_ok_lem : (t : ℕ) → 1 ≤ t → t ≤ 262144 → places_ok t ≡ true
unfolding places_ok
places_ok_lem t l h = rw (le-leb 1 t l, le-leb t 262144 h)

pub needed_refused : (t : ℕ) → places_ok t ≡ false → check_needed t ≡ 1
unfolding check_needed
needed_refused t e = rw e

pub needed_ok : (t : ℕ) → places_ok t ≡ true → check_needed t ≡ 0
unfolding check_needed
needed_ok t e = rw e

-- ---- a buffer's length and a place

pub record Long (len t : ℕ) : Type 0 where
  pub some_places : 1 ≤ t
  pub few_places : t ≤ 262144
  pub long : size t ≤ len

pub record Passed (len t p : ℕ) : Type 0 where
  pub some_places : 1 ≤ t
  pub few_places : t ≤ 262144
  pub long : size t ≤ len
  pub inside : p < t

module _ (len t : ℕ) where
  pub long_passes : Long len t → check_size len t ≡ 0
  unfolding check_size
  long_passes l = rw (places_ok_lem t l.some_places l.few_places, le-leb (size t) len l.long)

  pub place_passes : (p : ℕ) → Passed len t p → check len t p ≡ 0
  unfolding check
  place_passes p a = rw (places_ok_lem t a.some_places a.few_places, le-leb (size t) len a.long, lt-ltb p t a.inside)

zero_true : (b : Bool) → ◌≡◌ {A = ℕ} (cond b 0 1) 0 → b ≡ true
zero_true true e = refl
zero_true false e = absurd (omega arith)

zero_both : (b c : Bool) → ◌≡◌ {A = ℕ} (cond b (cond c 0 3) 1) 0 → (b ≡ true) × (c ≡ true)
zero_both true true e = (refl, refl)
zero_both true false e = absurd (omega arith)
zero_both false c e = absurd (omega arith)

long_of : (len t : ℕ) → places_ok t && leb (size t) len ≡ true → Long len t
long_of len t e =
    let k = (and-eq-true_iff (places_ok t) (leb (size t) len)).0 e in
    let o = ok_places t k.0 in
    record { some_places = o.0; few_places = o.1; long = leb-true (size t) len k.1 }

pub long_enough_lem : (len t : ℕ) → check_size len t ≡ 0 → Long len t
unfolding check_size
long_enough_lem len t z = long_of len t (zero_true (places_ok t && leb (size t) len) z)

pub passed : (len t p : ℕ) → check len t p ≡ 0 → Passed len t p
unfolding check
passed len t p z =
    let k = zero_both (places_ok t && leb (size t) len) (ltb p t) z in
    let l = long_of len t k.0 in
    record { some_places = l.some_places; few_places = l.few_places; long = l.long; inside = ltb-true p t k.1 }

-- the word of the place is lent
pub word_lent : {len t p : ℕ} → Passed len t p → p / 64 < len
word_lent {t = t} a = omega (arith, lowest_size t)
