-- What the steps of list promise each other: on any memory they stay in bounds, on honest memory they find the machine's regions.
use Rattle.std.specs.Prelude.{◌≡◌, false, List, [], ◌∷◌, ◌++◌, ℕ, ◌+◌, ◌*◌, ◌≤◌, ◌<◌, length, drop, set, Option, Some, None, Result, Ok, Err}
use Rattle.places.specs.Laws.{Last}
use Rattle.extent.specs.Checks.{check}
use Rattle.index.specs.Words.{IndexOf}
use Rattle.machine.specs.Machine.{State, is_start, region, Answer, list, refused, regions}
use Rattle.machine.specs.declared.Region.{Region}
use Rattle.memory.specs.Memory.{memory, at}
use Rattle.memory.specs.declared.Head.{Head}
use Rattle.promise.specs.Did.{Did}
use Rattle.promise.specs.Filled.{records_in}
use Rattle.refusals.specs.declared.Refusal.{Refusal}
use Rattle.refusals.specs.Refusals.{number}
use Rattle.listing.specs.Listing.{records_below}
use Rattle.listing.specs.declared.Cursor.{Cursor}
use Rattle.listing.specs.declared.Told.{Told}

-- ---- honest memory, of t places

-- ws is the index of the machine's starts, long enough for a find at every place
pub record Indexed (m : State) (t : ℕ) (ws : List ℕ) : Type 0 where
  pub index_is : IndexOf t (is_start m) ws
  pub passes : (p : ℕ) → p < t → check (length ws) t p ≡ 0

abbrev pub Counted : State → ℕ → List ℕ → Type 0
Counted m t count = (p : ℕ) → p < t → at count p ≡ length (region m p)

-- ---- the greatest start from place lo on and below place e

abbrev pub Within : ℕ → ℕ → Option ℕ → Type 0
Within lo e (Some a) = (lo ≤ a) × (a < e)
Within lo e None = Unit {0}

abbrev pub Greatest : State → ℕ → ℕ → Option ℕ → Type 0
Greatest m lo e (Some a) = Last (is_start m) e a
Greatest m lo e None = (q : ℕ) → lo ≤ q → q < e → is_start m q ≡ false

pub record StartBelow (t lo e : ℕ) (ws : List ℕ) (r : Option ℕ) : Type 0 where
  pub any : Within lo e r
  pub right : (m : State) → Indexed m t ws → Greatest m lo e r

-- ---- how many

abbrev pub Many : ℕ → ℕ → ℕ → List ℕ → ℕ → Type 0
Many t lo e ws n = (m : State) → Indexed m t ws → n ≡ length (records_below m lo e)

-- ---- the regions to be told

-- on honest memory, if as many are left as there are, they are rs
abbrev pub Shows : Cursor → List ℕ → List ℕ → List Region → Type 0
Shows c ws count rs = (m : State) → Indexed m c.places ws → Counted m c.places count → c.left ≡ length (records_below m c.lo c.end) → rs
    ≡ records_below m c.lo c.end

-- there is a count at every place
pub record Tellable (c : Cursor) (count : List ℕ) : Type 0 where
  pub low : c.end ≤ c.places
  pub few : c.places ≤ 262144
  pub count_long : c.places ≤ length count

-- the last one told, r.region is it and r.rest are those before it
pub record Tells (c : Cursor) (ws count : List ℕ) (r : Told) : Type 0 where
  pub one_less : r.rest.left + 1 ≡ c.left
  pub tellable : Tellable r.rest count
  pub right : (rs : List Region) → Shows r.rest ws count rs → Shows c ws count (rs ++ (r.region ∷ []))

-- ---- what a list with some room answers and tells

-- on any memory with these tables, space i is listed with an answer
abbrev pub Lists : Head → ℕ → ℕ → List ℕ → List ℕ → Answer → Type 0
Lists h i room ws count a =
    (table helper stack cache link ram : List ℕ)
    → Did (list i room) (memory h ws count table helper stack cache link ram) a (memory h ws count table helper stack cache link ram)

-- c are the regions to be told
pub record ToTell (h : Head) (i room : ℕ) (ws count : List ℕ) (c : Cursor) : Type 0 where
  pub tellable : Tellable c count
  pub fits : c.left ≤ room
  pub few : c.left < 4294967296
  pub did : (rs : List Region) → Shows c ws count rs → Lists h i room ws count (regions rs)

abbrev pub Surveys : Head → ℕ → ℕ → List ℕ → List ℕ → Result Cursor Refusal → Type 0
Surveys h i room ws count (Ok c) = ToTell h i room ws count c
Surveys h i room ws count (Err e) = Lists h i room ws count (refused (number e))

-- ---- a slice of numbers, three a record

-- record number k is x
abbrev pub with_record : List ℕ → ℕ → Region → List ℕ
with_record ws k x = set (set (set ws (3 * k) x.start) (3 * k + 1) x.length) (3 * k + 2) x.resident

pub record Fills (c : Cursor) (ws count slice slice' : List ℕ) : Type 0 where
  pub after_last : drop (3 * c.left) slice' ≡ drop (3 * c.left) slice
  pub right : Shows c ws count (records_in c.left slice')
