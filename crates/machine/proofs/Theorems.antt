-- The laws of the plain machine, over every history of calls that follows an accepted start: what a reader may take from this crate.
use Rattle.std.specs.Prelude.{◌≡◌, true, false, List, ℕ, ◌+◌, ◌-◌, ◌*◌, ◌≤◌, ◌<◌, length, get_or}
use Rattle.std.proofs.Math.Option.{some}
use Rattle.sequence.specs.Lists.{Each}
use Rattle.sequence.specs.Sums.{sum, hit}
use Rattle.machine.specs.Machine.{Sizes, State, Lent, place_of, is_start, region, start_of, ram_at, until_start, records_of, Call, start, write, done, answer}
use Rattle.machine.specs.Machine.{sizes_after, after, after_all}
use Rattle.machine.specs.Claims.{Sound, in_regions, resident_pages, listed_pages, times_free, times_held, no_pair, is_refused, Address, Same, Spared, shows}
use Rattle.machine.specs.Claims.{shows_after, ReadThere, MayChange, RamFits}
use Rattle.machine.proofs.Laws.Holders.{one_holder, pool_and_resident, ram_below, same_byte}
use Rattle.machine.proofs.Laws.Records.{listed_pages_lem, lengths_add}
use Rattle.machine.proofs.Laws.Bytes.{read_there, written_stays}
use Rattle.machine.proofs.Laws.Calls.{start_sound, RoomFor, step_shown, history_sound, refusal_keeps, may_change}

-- a refused call changes nothing, in whatever state
pub refused_changes_nothing : (m : State) (c : Call) → is_refused (answer m c) ≡ true → after m c ≡ m
refused_changes_nothing = refusal_keeps

-- any state, an accepted start of it, then any calls
module _ (m₀ : State) (z : Sizes) (l : Lent) (started : answer m₀ (start z l) ≡ done) (cs : List Call) where
  -- the state that they lead to
  abbrev pub reached : State
  reached = after_all (after m₀ (start z l)) cs

  pub reached_sound : Sound reached
  reached_sound = history_sound (after m₀ (start z l)) cs (start_sound m₀ z l started)

  -- every frame is once in the pool or held by exactly one page
  pub each_frame_once : (f : ℕ) → f < reached.sizes.frames → times_free f reached + times_held f reached ≡ 1
  each_frame_once = one_holder reached reached_sound

  -- pool + resident = F
  pub no_frame_lost : length reached.pool + resident_pages reached ≡ reached.sizes.frames
  no_frame_lost = pool_and_resident reached reached_sound

  -- every resident page lies in its region, and stands there once
  pub in_its_region : (a : ℕ) → Each no_pair (λ x. start_of reached x.place ≡ some a) (region reached a)
  in_its_region = reached_sound.own

  pub stands_once : (p : ℕ) → in_regions (λ x. hit p x.place) reached ≤ 1
  stands_once = reached_sound.once

  -- different resident addresses have different places in RAM, each below F x P
  pub places_differ : (i x j y p : ℕ) → Address reached.sizes i x → Address reached.sizes j y → ram_at reached i x ≡ some p → ram_at reached j y ≡ some p
      → Same i x j y
  places_differ = same_byte reached reached_sound

  pub places_below : (i x p : ℕ) → ram_at reached i x ≡ some p → p < reached.sizes.frames * reached.sizes.page
  places_below = ram_below reached reached_sound

  -- the records that list gives add up to the resident pages
  pub records_resident : listed_pages reached ≡ resident_pages reached
  records_resident = listed_pages_lem reached reached_sound

  -- each call next changes only what it may
  pub next_changes : (c : Call) → MayChange reached c (after reached c)
  next_changes c = may_change reached c reached_sound

  -- and after it, unless it is refused, each address shows what `shows_after` says: W-201's zeros where the call mapped the page
  pub next_shows : (c : Call) → RoomFor reached c → is_refused (answer reached c) ≡ false → (i x : ℕ) → Address (sizes_after reached.sizes c) i x
      → shows (after reached c) i x ≡ shows_after reached i x c
  next_shows c room told = (step_shown reached c reached_sound room told).1

  -- "A byte stored through an address is read there until it is stored again or its region is released", W-205: or its page handed back: after an
  -- accepted write and calls that spare the address
  pub byte_stays : (j y : ℕ) (vs : List ℕ) (lw : Lent) (x : ℕ) (later : List Call) → RamFits reached
      → answer reached (write j y vs lw) ≡ done → y ≤ x → x < y + length vs → Spared (after reached (write j y vs lw)) j x later
      → ReadThere (after_all (after reached (write j y vs lw)) later) j x (get_or vs (x - y) 0)
  byte_stays j y vs lw x later room ok low high spared =
      read_there _ j x _ (written_stays reached j y vs lw x later reached_sound (λ _ _. room) ok low high spared).1

-- the pages of a space before its first start and the regions' lengths are all its pages, in whatever state
pub region_lengths : (m : State) (i : ℕ)
    → until_start (is_start m) (place_of m.sizes i 0) m.sizes.pages + sum (λ r. r.length) (records_of m i) ≡ m.sizes.pages
region_lengths = lengths_add
