-- A sound state is read back from its own words; so a file describes one state at most.
use Rattle.std.specs.Prelude.{◌≡◌, ◌≢◌, Bool, cond, List, [], ◌∷◌, map, length}
use Rattle.std.proofs.Math.Path.{refl, ap}
use Rattle.std.proofs.Common.{sym, ap₂, ◌∙◌, add-zero, mod-lt, div-add-mod', div-lt_iff_lt-mul, arith, eq-eqb, ne_eqb, ext_get_or}
use Rattle.std.proofs.Math.Bool.{true, false}
use Rattle.std.proofs.Math.Option.{Option, none, some}
use Prim.Native.Nat.{ℕ, zero, suc, ◌+◌, ◌-◌, ◌*◌, ◌/◌, ◌%◌, ◌≤◌, ◌<◌}
use Rattle.std.proofs.Math.Decide.{ℕ_discrete}
use Rattle.std.proofs.lemmas.List.{get_or_at}
use Rattle.sequence.specs.Lists.{tabulate, length_tabulate, get_or_tabulate, Each}
use Rattle.machine.specs.State.{places, place_of, State, Pair, is_start, region, records}
use Rattle.machine.specs.Claims.{Sound, no_pair}
use Rattle.machine.specs.Map.{Entry, Block, entry_of, block_of, blocks_of, space_part, pool_part, parts_of, map_words, file_words}
use Rattle.machine.specs.Map.{blocks_in, part_in, entries_at, is_some, or_empty, pair_of, found_at, held_at, state_in}
use Rattle.machine.proofs.Laws.Sizes.{fit}
use Rattle.machine.proofs.Laws.Regions.{owner_of}
use Rattle.machine.proofs.Laws.Kept.{none_elsewhere}
use Rattle.machine.proofs.Laws.Records.{record_at, records_start, records_none}
use Rattle.machine.proofs.Laws.Map.Bodies.{blocks_back}
use Rattle.machine.proofs.Laws.Map.Contents.{no_part, parts_many, part_of, part_back}

-- ---- the block of a page among those of its space

pub found_first : (x : Block) (xs : List Block) (q : ℕ) → x.start ≡ q → entries_at (x ∷ xs) q ≡ some x.entries
unfolding entries_at
found_first x xs q e = rw (eq-eqb x.start q e)

pub found_later : (x : Block) (xs : List Block) (q : ℕ) → x.start ≢ q → entries_at (x ∷ xs) q ≡ entries_at xs q
unfolding entries_at
found_later x xs q d = rw (ne_eqb x.start q d)

module _ (m : State) (lo : ℕ) where
  abbrev blocks_from : ℕ → ℕ → List Block
  blocks_from b n = map (block_of m lo) (records m lo b n)

  blocks_start : (b n : ℕ) → is_start m (lo + b) ≡ true → blocks_from b (suc n) ≡ block_of m lo (record_at m lo b n) ∷ blocks_from (suc b) n
  blocks_start b n e = ap (map (block_of m lo)) (records_start m lo b n e)

  blocks_none : (b n : ℕ) → is_start m (lo + b) ≡ false → blocks_from b (suc n) ≡ blocks_from (suc b) n
  blocks_none b n e = ap (map (block_of m lo)) (records_none m lo b n e)

  none_before : (b n q : ℕ) → q < b → entries_at (blocks_from b n) q ≡ none
  unfolding records entries_at
  none_before b zero q h = refl
  none_before b (suc n) q h = go (is_start m (lo + b)) refl (none_before (suc b) n q (omega arith))
    where
      go : (t : Bool) → is_start m (lo + b) ≡ t → entries_at (blocks_from (suc b) n) q ≡ none → entries_at (blocks_from b (suc n)) q ≡ none
      go true e ih =
          ap (λ bs. entries_at bs q) (blocks_start b n e)
          ∙ found_later (block_of m lo (record_at m lo b n)) (blocks_from (suc b) n) q (λ d. omega arith)
          ∙ ih
      go false e ih = ap (λ bs. entries_at bs q) (blocks_none b n e) ∙ ih

  -- what the state has at page q
  abbrev told : ℕ → Option (List Entry)
  told q = cond (is_start m (lo + q)) (some (map (entry_of lo) (region m (lo + q)))) none

  found_from : (b n q : ℕ) → b ≤ q → q < b + n → entries_at (blocks_from b n) q ≡ told q
  unfolding records entries_at
  found_from b zero q l h = absurd (omega arith)
  found_from b (suc n) q l h = go (is_start m (lo + b)) refl (ℕ_discrete b q) (λ low high. found_from (suc b) n q low high)
    where
      go : (t : Bool) → is_start m (lo + b) ≡ t → Dec (b ≡ q) → (suc b ≤ q → q < suc b + n → entries_at (blocks_from (suc b) n) q ≡ told q)
          → entries_at (blocks_from b (suc n)) q ≡ told q
      go true e (yes d) ih =
          ap (λ bs. entries_at bs q) (blocks_start b n e)
          ∙ found_first (block_of m lo (record_at m lo b n)) (blocks_from (suc b) n) q d
          ∙ rw (← d, e)
      go true e (no d) ih =
          ap (λ bs. entries_at bs q) (blocks_start b n e)
          ∙ found_later (block_of m lo (record_at m lo b n)) (blocks_from (suc b) n) q d
          ∙ ih (omega arith) (omega arith)
      go false e (yes d) ih = ap (λ bs. entries_at bs q) (blocks_none b n e) ∙ none_before (suc b) n q (omega arith) ∙ rw (← d, e)
      go false e (no d) ih = ap (λ bs. entries_at bs q) (blocks_none b n e) ∙ ih (omega arith) (omega arith)

-- ---- pairs

pairs_back : (lo : ℕ) (xs : List Pair) → Each no_pair (λ x. lo ≤ x.place) xs → map (pair_of lo) (map (entry_of lo) xs) ≡ xs
pairs_back lo [] h = refl
pairs_back lo (x ∷ xs) h =
    let same : lo + (x.place - lo) ≡ x.place = omega (arith, h 0 (omega arith)) in
    ap₂ (λ (p : ℕ) (ys : List Pair). record { place = p; frame = x.frame } ∷ ys) same (pairs_back lo xs (λ k l. h (suc k) (omega arith)))

some_is : (t : Bool) (xs : List Entry) → is_some (cond t (some xs) none) ≡ t
some_is true xs = refl
some_is false xs = refl

or_is : (t : Bool) (xs : List Entry) → (t ≡ false → xs ≡ []) → or_empty (cond t (some xs) none) ≡ xs
or_is true xs e = refl
or_is false xs e = sym (e refl)

-- ---- the whole state

module _ (m : State) (s : Sound m) where
  abbrev N : ℕ
  N = m.sizes.pages

  abbrev S : ℕ
  S = m.sizes.spaces

  parts_are : length (parts_of m) ≡ suc S
  parts_are = parts_many (space_part m) S (pool_part m)

  pub space_part_lem : (i : ℕ) → i < S → part_in (map_words m) i ≡ (space_part m i).words
  space_part_lem i h =
      part_back m.sizes (parts_of m) parts_are i (omega (arith, parts_are))
      ∙ ap (λ x. x.words) (part_of (space_part m) S (pool_part m) i h)

  pub pool_back : part_in (map_words m) S ≡ m.pool
  pool_back =
      part_back m.sizes (parts_of m) parts_are S (omega (arith, parts_are))
      ∙ ap (λ x. x.words) (get_or_at (tabulate (space_part m) S) (pool_part m) [] no_part S (length_tabulate (space_part m) S))

  pub blocks_of_lem : (i : ℕ) → i < S → blocks_in (part_in (map_words m) i) ≡ blocks_of m i
  blocks_of_lem i h = ap blocks_in (space_part_lem i h) ∙ blocks_back (blocks_of m i)

  -- a place as space and page
  module _ (p : ℕ) (low : p < places m.sizes) where
    -- the first place of its space
    abbrev lo : ℕ
    lo = p / N * N

    some_pages : 0 < N
    some_pages = (fit m.sizes s.sizes_ok_lem).some_pages

    space : p / N < S
    space = (div-lt_iff_lt-mul some_pages).1 low

    page : p % N < N
    page = mod-lt p some_pages

    first_is : place_of m.sizes (p / N) 0 ≡ lo
    first_is = add-zero lo

    place_is : lo + p % N ≡ p
    place_is = div-add-mod' p N

    found_back : found_at N (map_words m) p ≡ cond (is_start m p) (some (map (entry_of lo) (region m p))) none
    found_back =
        ap (λ bs. entries_at bs (p % N)) (blocks_of_lem (p / N) space)
        ∙ found_from m (place_of m.sizes (p / N) 0) 0 N (p % N) (omega arith) (omega (arith, page))
        ∙ rw (first_is, place_is)

    start_back : is_some (found_at N (map_words m) p) ≡ is_start m p
    start_back = ap is_some found_back ∙ some_is (is_start m p) _

    above : Each no_pair (λ x. lo ≤ x.place) (region m p)
    above k l = omega (arith, (owner_of N m.starts _ p (s.own p k l)).at_most, place_is)

    held_back : held_at N (map_words m) p ≡ region m p
    held_back =
        ap (λ o. map (pair_of lo) (or_empty o)) found_back
        ∙ ap (map (pair_of lo)) (or_is (is_start m p) _ (λ e. ap (map (entry_of lo)) (none_elsewhere m s p e)))
        ∙ pairs_back lo (region m p) above

  starts_back : tabulate (λ p. is_some (found_at N (map_words m) p)) (places m.sizes) ≡ m.starts
  starts_back =
      let f : ℕ → Bool = λ p. is_some (found_at N (map_words m) p) in
      let long = length_tabulate f (places m.sizes) in
      ext_get_or false (tabulate f (places m.sizes)) m.starts (long ∙ sym s.starts_are)
      (λ p h. let low : p < places m.sizes = omega arith in get_or_tabulate f (places m.sizes) p false low ∙ start_back p low)

  helds_back : tabulate (held_at N (map_words m)) (places m.sizes) ≡ m.held
  helds_back =
      let f : ℕ → List Pair = held_at N (map_words m) in
      let long = length_tabulate f (places m.sizes) in
      ext_get_or [] (tabulate f (places m.sizes)) m.held (long ∙ sym s.held_are)
      (λ p h. let low : p < places m.sizes = omega arith in get_or_tabulate f (places m.sizes) p [] low ∙ held_back p low)

  rebuilt : {starts : List Bool} {held : List (List Pair)} {pool : List ℕ} → starts ≡ m.starts → held ≡ m.held → pool ≡ m.pool
      → record { sizes = m.sizes; starts = starts; held = held; pool = pool; ram = m.ram } ≡ m
  rebuilt {starts} {held} {pool} a b c =
      ap (λ (x : List Bool). record { sizes = m.sizes; starts = x; held = held; pool = pool; ram = m.ram }) a
      ∙ ap₂ (λ (y : List (List Pair)) (z : List ℕ). record { sizes = m.sizes; starts = m.starts; held = y; pool = z; ram = m.ram }) b c

  pub state_back : state_in m.ram (map_words m) ≡ m
  unfolding file_words
  state_back = rebuilt starts_back helds_back pool_back
