-- Blocks that lie one behind another to the space's end are the blocks of the state that they tell of.
use Rattle.std.specs.Prelude.{◌≡◌, refl, true, false, ◌&&◌, eqb, leb, ltb}
use Rattle.std.proofs.Common.{sym, ap₂, ◌∙◌, add-zero, arith, ne_eqb, eqb-true, ltb-true, leb-true}
use Rattle.std.proofs.Math.Path.{ap}
use Rattle.std.proofs.Math.Option.{none}
use mathlib.Core.List.{List, [], ◌∷◌, map}
use Prim.Native.Nat.{ℕ, zero, suc, ◌+◌, ◌-◌, ◌≤◌, ◌<◌}
use Rattle.std.proofs.Math.Nat.{add-suc, suc-add, zero-add}
use Rattle.machine.specs.State.{State, is_start, region, until_start, records}
use Rattle.machine.specs.Map.{Entry, Block, entry_of, block_of, entries_at, is_some, or_empty, pair_of}
use Rattle.machine.specs.MapRules.{all_within, entry_pages, tiled}
use Rattle.machine.proofs.Laws.Sizes.{both}
use Rattle.machine.proofs.Laws.Records.{record_at, records_start, records_none, until_start_lem}
use Rattle.machine.proofs.Laws.Map.Back.{found_first, found_later}

-- ---- what a tiled list says of its first block

pub record First (n b : ℕ) (x : Block) (xs : List Block) : Type 0 where
  pub start_is : x.start ≡ b
  pub some_pages : 0 < x.length
  pub inside : b + x.length ≤ n
  pub pages : all_within b (b + x.length) (entry_pages x.entries) ≡ true
  pub rest : tiled n (b + x.length) xs ≡ true

pub first_picked : (n b : ℕ) (x : Block) (xs : List Block) → tiled n b (x ∷ xs) ≡ true → First n b x xs
unfolding tiled
first_picked n b x xs h =
    let end = b + x.length in
    let (h₄, rest) = both (eqb x.start b && ltb 0 x.length && leb end n && all_within b end (entry_pages x.entries)) _ h in
    let (h₃, pages) = both (eqb x.start b && ltb 0 x.length && leb end n) _ h₄ in
    let (h₂, inside) = both (eqb x.start b && ltb 0 x.length) _ h₃ in
    let (h₁, long) = both (eqb x.start b) _ h₂ in
    record {
      start_is = eqb-true x.start b h₁;
      some_pages = ltb-true 0 x.length long;
      inside = leb-true end n inside;
      pages = pages;
      rest = rest;
    }

pub ends_at : (n b : ℕ) → tiled n b [] ≡ true → b ≡ n
unfolding tiled
ends_at n b h = eqb-true b n h

-- no block of a tiled list starts before its first
pub none_lower : (n b q : ℕ) (xs : List Block) → tiled n b xs ≡ true → q < b → entries_at xs q ≡ none
unfolding entries_at
none_lower n b q [] h l = refl
none_lower n b q (x ∷ xs) h l =
    let f = first_picked n b x xs h in
    rw (ne_eqb x.start q (λ e. omega (arith, f.start_is))) (none_lower n (b + x.length) q xs f.rest (omega arith))

-- ---- pages that are no starts

module _ (m : State) (lo : ℕ) where
  -- none of the j pages from b on is a start
  abbrev Clear : ℕ → ℕ → Type 0
  Clear b j = (q : ℕ) → b ≤ q → q < b + j → is_start m (lo + q) ≡ false

  pub records_skip : (b j n : ℕ) → Clear b j → records m lo b (j + n) ≡ records m lo (b + j) n
  unfolding records
  records_skip b zero n clear = rw (zero-add, add-zero)
  records_skip b (suc j) n clear =
      let ih = rw suc-add at (records_skip (suc b) j n (λ q x y. clear q (omega arith) (omega arith))) in
      rw (suc-add, add-suc) (records_none m lo b (j + n) (clear b (omega arith) (omega arith)) ∙ ih)

  until_skip : (b j n : ℕ) → Clear b j → until_start (is_start m) (lo + b) (j + n) ≡ j + until_start (is_start m) (lo + (b + j)) n
  unfolding until_start
  until_skip b zero n clear = rw (zero-add, zero-add, add-zero)
  until_skip b (suc j) n clear =
      let ih = rw (suc-add, add-suc) at (until_skip (suc b) j n (λ q x y. clear q (omega arith) (omega arith))) in
      rw (suc-add, suc-add, add-suc, clear b (omega arith) (omega arith)) (ap suc ih)

-- ---- the blocks again

entries_again : (lo : ℕ) (xs : List Entry) → map (entry_of lo) (map (pair_of lo) xs) ≡ xs
entries_again lo [] = refl
entries_again lo (x ∷ xs) =
    let page : lo + x.page - lo ≡ x.page = omega arith in
    ap₂ (λ (p : ℕ) (ys : List Entry). record { page = p; frame = x.frame } ∷ ys) page (entries_again lo xs)

-- the state tells of the space from place lo on, from page b on, what the blocks do
pub record Tells (m : State) (lo n b : ℕ) (bs : List Block) : Type 0 where
  pub starts : (q : ℕ) → b ≤ q → q < n → is_start m (lo + q) ≡ is_some (entries_at bs q)
  pub held : (q : ℕ) → b ≤ q → q < n → region m (lo + q) ≡ map (pair_of lo) (or_empty (entries_at bs q))

module _ (m : State) (lo n : ℕ) where
  -- the first of some blocks, with as many pages behind it as come to the space's end
  module _ (b : ℕ) (x : Block) (xs : List Block) (f : First n b x xs) (t : Tells m lo n b (x ∷ xs)) where
    abbrev more : ℕ
    more = x.length - 1

    abbrev end : ℕ
    end = b + x.length

    abbrev left : ℕ
    left = n - (b + x.length)

    later : (q : ℕ) → b < q → entries_at (x ∷ xs) q ≡ entries_at xs q
    later q l = found_later x xs q (λ e. omega (arith, f.start_is))

    pages_are : n - b ≡ suc (more + left)
    pages_are = omega (arith, f.some_pages, f.inside)

    is_start_lem : is_start m (lo + b) ≡ true
    is_start_lem = t.starts b (omega arith) (omega (arith, f.some_pages, f.inside)) ∙ ap is_some (found_first x xs b f.start_is)

    clear : (q : ℕ) → suc b ≤ q → q < suc b + more → is_start m (lo + q) ≡ false
    clear q low high =
        t.starts q (omega arith) (omega (arith, f.some_pages, f.inside))
        ∙ ap is_some (later q (omega arith) ∙ none_lower n end q xs f.rest (omega (arith, f.some_pages)))

    next_tells : Tells m lo n end xs
    next_tells =
        record {
          starts = λ q low high. t.starts q (omega arith) high ∙ ap is_some (later q (omega (arith, f.some_pages)));
          held = λ q low high. t.held q (omega arith) high ∙ ap (λ o. map (pair_of lo) (or_empty o)) (later q (omega (arith, f.some_pages)));
        }

    next_is : suc b + more ≡ end
    next_is = omega (arith, f.some_pages)

    -- behind it stands the next start, or nothing
    at_end : (ys : List Block) → tiled n end ys ≡ true → Tells m lo n end ys → until_start (is_start m) (lo + end) left ≡ 0
    unfolding until_start
    at_end [] e u =
        let none : left ≡ 0 = omega (arith, ends_at n end e) in
        rw none
    at_end (y ∷ ys) e u =
        let g = first_picked n end y ys e in
        let some : left ≡ suc (n - suc end) = omega (arith, g.some_pages, g.inside) in
        let start = u.starts end (omega arith) (omega (arith, g.some_pages, g.inside)) ∙ ap is_some (found_first y ys end g.start_is) in
        rw some (until_start_lem (is_start m) (lo + end) (n - suc end) start)

    long : suc (until_start (is_start m) (suc (lo + b)) (more + left)) ≡ x.length
    long =
        omega (
          arith,
          ap (λ (p : ℕ). until_start (is_start m) p (more + left)) (add-suc lo b),
          until_skip m lo (suc b) more left clear,
          ap (λ (p : ℕ). until_start (is_start m) (lo + p) left) next_is,
          at_end xs f.rest next_tells,
          f.some_pages,
        )

    held_is : region m (lo + b) ≡ map (pair_of lo) x.entries
    held_is =
        t.held b (omega arith) (omega (arith, f.some_pages, f.inside))
        ∙ ap (λ o. map (pair_of lo) (or_empty o)) (found_first x xs b f.start_is)

    block_is : block_of m lo (record_at m lo b (more + left)) ≡ x
    block_is =
        let e : map (entry_of lo) (region m (lo + b)) ≡ x.entries = ap (map (entry_of lo)) held_is ∙ entries_again lo x.entries in
        let run = suc (until_start (is_start m) (suc (lo + b)) (more + left)) in
        ap (λ (s : ℕ). record { start = s; length = run; entries = map (entry_of lo) (region m (lo + b)) }) (sym f.start_is)
        ∙ ap₂ (λ (l : ℕ) (es : List Entry). record { start = x.start; length = l; entries = es }) long e

    first_again : map (block_of m lo) (records m lo end left) ≡ xs → map (block_of m lo) (records m lo b (n - b)) ≡ x ∷ xs
    first_again ih =
        let skipped = records_skip m lo (suc b) more left clear ∙ ap (λ (p : ℕ). records m lo p left) next_is in
        rw pages_are (ap (map (block_of m lo)) (records_start m lo b (more + left) is_start_lem) ∙ ap₂ ◌∷◌ block_is (ap (map (block_of m lo)) skipped ∙ ih))

  pub blocks_again : (b : ℕ) (bs : List Block) → tiled n b bs ≡ true → Tells m lo n b bs → map (block_of m lo) (records m lo b (n - b)) ≡ bs
  unfolding records
  blocks_again b [] h t =
      let none : n - b ≡ 0 = omega (arith, ends_at n b h) in
      rw none
  blocks_again b (x ∷ xs) h t =
      let f = first_picked n b x xs h in
      first_again b x xs f t (blocks_again (b + x.length) xs f.rest (next_tells b x xs f t))
