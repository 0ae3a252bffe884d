-- The whole call: what a check that passed says of the space, what a list is to answer, and the promise from the records filled.
use Rattle.std.specs.Prelude.{◌≡◌, refl, true, List, ℕ, ◌+◌, ◌-◌, ◌*◌, ◌/◌, ◌≤◌, ◌<◌, length, Ok, Err}
use Rattle.std.proofs.Common.{sym, ap, ◌∙◌, arith, mul-le-mul_right, div-mul-le_self}
use Rattle.machine.specs.Machine.{places, place_of, sizes_ok, State, records_of, refused}
use Rattle.machine.proofs.Laws.Sizes.{fit}
use Rattle.refusals.specs.declared.Refusal.{Refusal}
use Rattle.refusals.specs.Refusals.{number}
use Rattle.refusals.proofs.Laws.{not_none}
use Rattle.memory.specs.Memory.{Memory, memory, sizes_of}
use Rattle.memory.specs.declared.Head.{Head}
use Rattle.promise.specs.Holds.{Holds}
use Rattle.promise.specs.Filled.{records_in, ListDid}
use Rattle.laws.specs.Models.{lent_to, check_of}
use Rattle.laws.specs.Checking.{CheckPassed, ready}
use Rattle.laws.specs.Finds.{index_passes}
use Rattle.listing.specs.Listing.{records_below, list_refused, list_short, list_filled}
use Rattle.listing.specs.declared.Cursor.{Cursor}
use Rattle.listing.specs.Steps.{Indexed, Counted, Many, Lists, ToTell, Fills}

-- ---- a check that passed

module _ (h : Head) (index count i : ℕ) (checked : ◌≡◌ {A = ℕ} 0 (check_of h (lent_to index count) i true)) where
  is_ready : CheckPassed h (lent_to index count) i true
  is_ready = ready h (lent_to index count) i true (sym checked)

  pub sizes_pass : sizes_ok (sizes_of h) ≡ true
  sizes_pass = is_ready.sizes_ok_lem

  pub first_pass : (sizes_ok (sizes_of h) ≡ true) × (i < h.spaces) × (0 < h.pages)
  first_pass = (sizes_pass, is_ready.space, (fit (sizes_of h) sizes_pass).some_pages)

  -- t places, the space's first place and its pages, as the code has them
  pub space_inside : (t lo w : ℕ) → t ≡ places (sizes_of h) → lo ≡ place_of (sizes_of h) i 0 → w ≡ h.pages → (lo + w ≤ t) × (t ≤ 262144)
  space_inside t lo w t-is lo-is w-is =
      (omega (arith, mul-le-mul_right h.pages is_ready.space), omega (arith, (fit (sizes_of h) sizes_pass).few_places))

-- ---- what a list is to answer, whatever tables stand around index and counts

module _ (h : Head) (ws count : List ℕ) (i room : ℕ) where
  pub refused_early : (e : Refusal) → number e ≡ check_of h (lent_to (length ws) (length count)) i true → Lists h i room ws count (refused (number e))
  refused_early e checked table helper stack cache link ram =
      list_refused i room (memory h ws count table helper stack cache link ram) (number e) checked (not_none e)

  -- once the check passed, and the regions are counted
  module _ (checked : ◌≡◌ {A = ℕ} 0 (check_of h (lent_to (length ws) (length count)) i true)) (t lo w : ℕ) (t-is : t ≡ places (sizes_of h))
      (lo-is : lo ≡ place_of (sizes_of h) i 0) (w-is : w ≡ h.pages) (n left : ℕ) (many : Many t lo (lo + w) ws n) (left_is : left ≡ n) where
    -- honest memory
    module _ (table helper stack cache link ram : List ℕ) (m : State) (o : Holds m (memory h ws count table helper stack cache link ram)) where
      abbrev k : Memory
      k = memory h ws count table helper stack cache link ram

      t_of : t ≡ places m.sizes
      t_of = t-is ∙ ap places o.sizes_are

      indexed : Indexed m t ws
      indexed = rw t_of (record { index_is = o.index_is; passes = index_passes m k o })

      counted : Counted m t count
      counted = rw t_of o.counts

      same_records : records_below m lo (lo + w) ≡ records_of m i
      same_records =
          let pages : lo + w - lo ≡ m.sizes.pages = omega (arith, w-is, ap (λ z. z.pages) o.sizes_are) in
          let first : lo ≡ place_of m.sizes i 0 = lo-is ∙ ap (λ z. place_of z i 0) o.sizes_are in
          rw (pages, first)

      counts : left ≡ length (records_of m i)
      counts = left_is ∙ many m indexed ∙ ap length same_records

    pub short : room < left → Lists h i room ws count (refused 11)
    short less table helper stack cache link ram =
        list_short i room (memory h ws count table helper stack cache link ram) checked left (counts table helper stack cache link ram) less

    pub to_tell : left ≤ room → n < 4294967296 → ToTell h i room ws count (record { left = left; places = t; lo = lo; end = lo + w })
    to_tell enough few =
        let inside = space_inside h (length ws) (length count) i checked t lo w t-is lo-is w-is in
        record {
          tellable = record { low = inside.0; few = inside.1; count_long = rw t-is ((is_ready h (length ws) (length count) i checked).lent.count refl) };
          fits = enough;
          few = omega arith;
          did = λ rs shows table helper stack cache link ram.
              list_filled i room (memory h ws count table helper stack cache link ram) checked left (counts table helper stack cache link ram) rs enough
              (λ m o.
              let x = indexed table helper stack cache link ram m o in
              shows m x (counted table helper stack cache link ram m o) (left_is ∙ many m x) ∙ same_records table helper stack cache link ram m o);
        }

-- ---- the promise from the records filled

module _ {h : Head} {i : ℕ} {ws count : List ℕ} (slice : List ℕ) where
  pub room_found : {c : Cursor} → ToTell h i (length slice / 3) ws count c → 3 * c.left ≤ length slice
  room_found s = omega (arith, s.fits, div-mul-le_self (length slice) 3)

  pub filled : {c : Cursor} {slice' : List ℕ} → ToTell h i (length slice / 3) ws count c → Fills c ws count slice slice'
      → (table helper stack cache link ram : List ℕ) → ListDid i (memory h ws count table helper stack cache link ram) (Ok c.left) slice slice'
  filled {c} {slice'} s fills table helper stack cache link ram =
      record {
        did = s.did (records_in c.left slice') fills.right table helper stack cache link ram;
        kept = λ e is. absurd (let z : ◌≡◌ {A = ℕ} 0 1 = cc in omega arith);
        fits = room_found s;
        after_last = fills.after_last;
      }

  pub not_filled : (e : Refusal) → Lists h i (length slice / 3) ws count (refused (number e)) → (table helper stack cache link ram : List ℕ)
      → ListDid i (memory h ws count table helper stack cache link ram) (Err e) slice slice
  not_filled e did table helper stack cache link ram =
      record { did = did table helper stack cache link ram; kept = λ e is. refl; fits = omega arith; after_last = refl }
