-- The state of the plain machine of document 01, and what it tells of pages, addresses and regions.
-- Definitions only, in the order of the document; its words stand beside them in quotation marks.
use Rattle.std.specs.Prelude.{Bool, false, cond, ◌&&◌, List, [], ◌∷◌, map, ℕ, zero, suc, ◌+◌, ◌-◌, ◌*◌, ◌/◌, ◌%◌, ◌^◌, eqb, leb, length, get_or, replicate}
use Rattle.std.proofs.Math.Option.{Option, none, some}
use Rattle.sequence.specs.Lists.{tabulate}
use Rattle.places.specs.Places.{any_from, last_below, words_read}
use Rattle.machine.specs.declared.Region.{Region}

-- ---- "Sizes"

pub record Sizes : Type 0 where
  pub spaces : ℕ
  pub pages : ℕ
  pub frames : ℕ
  pub page : ℕ

abbrev pub sizes : ℕ → ℕ → ℕ → ℕ → Sizes
sizes s n f p = record { spaces = s; pages = n; frames = f; page = p }

-- "T = S x N"
abbrev pub places : Sizes → ℕ
places z = z.spaces * z.pages

-- "nine powers of two, from 256 to 65,536 bytes"
unfoldable pub is_page_size : ℕ → Bool
is_page_size n = any_from (λ k. eqb n (2 ^ k)) 8 9

abbrev pub between : ℕ → ℕ → ℕ → Bool
between least greatest n = leb least n && leb n greatest

unfoldable pub sizes_ok : Sizes → Bool
sizes_ok z =
    between 1 64 z.spaces && between 1 262144 z.pages && leb (places z) 262144 && between 1 65536 z.frames && is_page_size z.page

-- "Page b of space i stands at place i x N + b"
abbrev pub place_of : Sizes → ℕ → ℕ → ℕ
place_of z i b = i * z.pages + b

-- the bytes of a space, N x P
abbrev pub space_bytes : Sizes → ℕ
space_bytes z = z.pages * z.page

-- ---- "The plain machine": its state

-- a resident page, by its place, and the frame that it holds
pub record Pair : Type 0 where
  pub place : ℕ
  pub frame : ℕ

-- the pair that stands past a list's end
abbrev pub no_pair : Pair
no_pair = record { place = 0; frame = 0 }

pub record State : Type 0 where
  pub sizes : Sizes
  -- whether each place is a start
  pub starts : List Bool
  -- at each start's place its region's pairs "in order of mapping", elsewhere none; the last is the newest, which a hand-back moves (W-205)
  pub held : List (List Pair)
  pub pool : List ℕ
  pub ram : List ℕ

-- "no start made (the head's S is then 0)"
abbrev pub unstarted : List ℕ → State
unstarted ram = record { sizes = record { spaces = 0; pages = 0; frames = 0; page = 0 }; starts = []; held = []; pool = []; ram = ram }

abbrev pub is_start : State → ℕ → Bool
is_start m p = get_or m.starts p false

-- the pairs of the region that starts at place a
abbrev pub region : State → ℕ → List Pair
region m a = get_or m.held a []

-- ---- the region of a page

-- a start found at place lo or above it: one "in a lower space" is no region's
abbrev pub not_below : ℕ → Option ℕ → Option ℕ
not_below lo none = none
not_below lo (some a) = cond (leb lo a) (some a) none

-- "the greatest start place at most p", if it lies in p's space, whose first place is p / n * n; n pages a space
unfoldable pub start_in : ℕ → List Bool → ℕ → Option ℕ
start_in n starts p = not_below (p / n * n) (last_below (λ q. get_or starts q false) (suc p))

-- where the region of the page at place p starts
abbrev pub start_of : State → ℕ → Option ℕ
start_of m p = start_in m.sizes.pages m.starts p

-- the index words that a find at place p reads
abbrev pub words_at : State → ℕ → ℕ
words_at m p = words_read (places m.sizes) (is_start m) p

-- the frame that a list has for the page at place p
unfoldable pub frame_in : ℕ → List Pair → Option ℕ
frame_in p [] = none
frame_in p (x ∷ xs) = let r = frame_in p xs in cond (eqb x.place p) (some x.frame) r

-- a page has no region, is absent from the region that starts at a place, or is resident there with a frame
pub data Page : Type 0 where
  outside : Page
  unmapped : (start : ℕ) → Page
  mapped : (start frame : ℕ) → Page

abbrev pub page_in : ℕ → Option ℕ → Page
page_in a none = unmapped a
page_in a (some f) = mapped a f

abbrev pub page_at : List (List Pair) → ℕ → Option ℕ → Page
page_at held p none = outside
page_at held p (some a) = page_in a (frame_in p (get_or held a []))

abbrev pub page_of : State → ℕ → Page
page_of m p = page_at m.held p (start_of m p)

-- ---- addresses

-- the place of the page of address x of space i, "page = address / P"
abbrev pub page_of_address : Sizes → ℕ → ℕ → ℕ
page_of_address z i x = place_of z i (x / z.page)

-- "offset = address mod P; a resident page gives frame x P + offset"
abbrev pub ram_in : Sizes → ℕ → Page → Option ℕ
ram_in z x outside = none
ram_in z x (unmapped a) = none
ram_in z x (mapped a f) = some (f * z.page + x % z.page)

abbrev pub ram_at : State → ℕ → ℕ → Option ℕ
ram_at m i x = ram_in m.sizes x (page_of m (page_of_address m.sizes i x))

-- how many pages the span of n bytes from address x on has; they lie one after another from that of x on
abbrev pub span_pages : Sizes → ℕ → ℕ → ℕ
span_pages z x zero = 0
span_pages z x (suc n) = suc ((x + n) / z.page - x / z.page)

-- ---- beginnings

-- "sets the sizes, no starts, pool 0, 1, .., F-1"
abbrev pub begun : Sizes → List ℕ → State
begun z ram =
    record {
      sizes = z;
      starts = replicate (places z) false;
      held = replicate (places z) [];
      pool = tabulate (λ f. f) z.frames;
      ram = ram;
    }

abbrev pub with_ram : State → List ℕ → State
with_ram m ram = record { sizes = m.sizes; starts = m.starts; held = m.held; pool = m.pool; ram = ram }

-- ---- frames and regions

abbrev pub frames_of : List Pair → List ℕ
frames_of xs = map (λ x. x.frame) xs

-- how many of the n places from p on come before the first start among them
unfoldable pub until_start : (ℕ → Bool) → ℕ → ℕ → ℕ
until_start s p zero = 0
until_start s p (suc n) = let r = suc (until_start s (suc p) n) in cond (s p) 0 r

-- "one record a region (start, length, resident pages), ascending", of the n pages from b on of the space whose first place is lo
unfoldable pub records : State → ℕ → ℕ → ℕ → List Region
records m lo b zero = []
records m lo b (suc n) =
    let rest = records m lo (suc b) n in
    let p = lo + b in
    cond (is_start m p)
    (record { start = b; length = suc (until_start (is_start m) (suc p) n); resident = length (region m p) } ∷ rest)
    rest

abbrev pub records_of : State → ℕ → List Region
records_of m i = records m (place_of m.sizes i 0) 0 m.sizes.pages
