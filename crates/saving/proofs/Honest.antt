-- On memory that stands for a state, what is saved is that state's map file.
use Rattle.std.specs.Prelude.{◌≡◌, Bool, get_or}
use Rattle.std.proofs.Math.Path.{refl, sym, ap}
use Rattle.std.proofs.Common.{ap₂, ◌∙◌, add-zero, zero-add, mul-le-mul_right, suc-mul, arith}
use Rattle.std.proofs.Math.Bool.{true, false, cond}
use mathlib.Core.List.{List, [], ◌∷◌, ◌++◌, map}
use Prim.Native.Nat.{ℕ, zero, suc, ◌+◌, ◌*◌, ◌≤◌, ◌<◌}
use borrow.Author.Tests.{le-leb, eq-eqb}
use Rattle.std.proofs.Math.ListN.{length}
use Rattle.sequence.specs.Lists.{tabulate, tabulate_same}
use Rattle.sequence.specs.Sums.{sum_from, sum_from_same, sum_by_place}
use Rattle.layer.specs.Words.{bit_at}
use Rattle.index.specs.Laws.{index_bit}
use Rattle.machine.specs.Machine.{State, Sizes, places, place_of, is_start, region, records}
use Rattle.machine.specs.Claims.{no_pair, resident_pages}
use Rattle.machine.specs.Map.{Part, entry_of, block_of, space_part, parts_of, file_words, map_words}
use Rattle.machine.proofs.Laws.Holders.{pool_and_resident}
use Rattle.machine.proofs.Laws.Kept.{none_elsewhere}
use Rattle.machine.specs.declared.Region.{Region}
use Rattle.memory.specs.Memory.{Memory, memory, at, sizes_of}
use Rattle.promise.specs.Did.{frames_left}
use Rattle.promise.specs.Holds.{Chain, Holds, unused}
use Rattle.scanning.specs.Starts.{until_ext}
use Rattle.saving.specs.Saved.{entry_at, entries_by, blocks_from, blocks_by, part_of, space_from, chained, pool_by, parts_by, saved_words, counts_in, adds_up}
use Rattle.saving.specs.Sizes.{length_pool}

-- ---- lists

-- a list by its entries
map_by_place : {A B : Type 0} (d : A) (g : A → B) (xs : List A) (f : ℕ → B) → ((j : ℕ) → j < length xs → f j ≡ g (get_or xs j d))
    → tabulate f (length xs) ≡ map g xs
unfolding tabulate
map_by_place d g [] f e = refl
map_by_place {A} {B} d g (x ∷ xs) f e =
    ap₂ (λ (y : B) (ys : List B). y ∷ ys) (e 0 (omega arith)) (map_by_place d g xs (λ j. f (suc j)) (λ j l. e (suc j) (omega arith)))

chain_is : (link : List ℕ) (a b : ℕ) (xs : List ℕ) → Chain link a xs b → chained link a (length xs) ≡ xs
unfolding chained
chain_is link a b [] c = refl
chain_is link a b (x ∷ xs) c = rw c.0 (ap (λ (ys : List ℕ). x ∷ ys) (chain_is link (at link x) b xs c.1))

module _ (m : State) (k : Memory) (H : Holds m k) where
  pages_are : k.head.pages ≡ m.sizes.pages
  pages_are = ap (λ (z : Sizes). z.pages) H.sizes_are

  spaces_are : k.head.spaces ≡ m.sizes.spaces
  spaces_are = ap (λ (z : Sizes). z.spaces) H.sizes_are

  start_bit : (p : ℕ) → p < places m.sizes → bit_at k.index p ≡ is_start m p
  start_bit p l = index_bit (places m.sizes) (is_start m) k.index H.index_is p l

  -- ---- a space

  entries_are : (lo a : ℕ) → a < places m.sizes → entries_by k lo a (at k.count a) ≡ map (entry_of lo) (region m a)
  entries_are lo a l =
      rw (H.counts a l)
      (map_by_place no_pair (entry_of lo) (region m a) (λ j. entry_at k.table lo (at k.stack (a + j)))
      (λ j h. let x = H.entries a j h in rw (x.stack_is, x.table_is)))

  blocks_are : (lo b n : ℕ) → lo + b + n ≤ places m.sizes
      → blocks_by k lo b n ≡ map (block_of m lo) (records m lo b n)
  unfolding blocks_from records
  blocks_are lo b zero h = refl
  blocks_are lo b (suc n) h =
      rw (
        start_bit (lo + b) (omega arith),
        until_ext (bit_at k.index) (is_start m) (suc (lo + b)) n (λ q x y. start_bit q (omega arith)),
        entries_are lo (lo + b) (omega arith),
        blocks_are lo (suc b) n (omega arith),
      )
      (go (is_start m (lo + b)) _)
    where
      go : (v : Bool) (r : Region)
          → (let rest = records m lo (suc b) n in
          cond v (block_of m lo r ∷ map (block_of m lo) rest) (map (block_of m lo) rest) ≡ map (block_of m lo) (cond v (r ∷ rest) rest))
      go true r = refl
      go false r = refl

  space_is : (i : ℕ) → i < m.sizes.spaces → space_from k.index k.count k.table k.stack m.sizes.pages i ≡ space_part m i
  space_is i l =
      let first : i * m.sizes.pages ≡ place_of m.sizes i 0 = sym (add-zero (i * m.sizes.pages)) in
      ap part_of
      (ap (λ (lo : ℕ). blocks_by k lo 0 m.sizes.pages) first
      ∙ blocks_are (place_of m.sizes i 0) 0 m.sizes.pages
      (omega (arith, suc-mul i m.sizes.pages, mul-le-mul_right m.sizes.pages l)))

  -- ---- the file

  pool_is : pool_by k ≡ m.pool
  pool_is =
      rw H.pooled.many_is
      (ap (λ (xs : List ℕ). xs ++ unused k.head.fresh k.head.frames)
      (chain_is k.link k.head.first H.pooled.stop H.pooled.linked H.pooled.chain)
      ∙ sym H.pooled.pool_is)

  parts_are : parts_by k ≡ parts_of m
  parts_are =
      rw (pages_are, spaces_are, pool_is)
      (ap (λ (xs : List Part). xs ++ (record { words = m.pool; count = length m.pool } ∷ []))
      (tabulate_same (space_from k.index k.count k.table k.stack m.sizes.pages) (space_part m) m.sizes.spaces space_is))

  pub saved_is : saved_words k ≡ map_words m
  saved_is = ap₂ file_words H.sizes_are parts_are

  -- ---- whether there is one

  resident_are : counts_in k.index k.count 0 (places m.sizes) ≡ resident_pages m
  resident_are =
      sum_from_same (λ q. cond (bit_at k.index q) (at k.count q) 0) (λ q. length (region m q)) 0 (places m.sizes)
      (λ q _ l. counted q (omega (arith, l)) (is_start m q) refl)
      ∙ ap (sum_from (λ q. length (region m q)) 0) (sym H.sound.held_are)
      ∙ sym (sum_by_place [] (λ xs. length xs) m.held (λ q. length (region m q)) 0 (λ j l. ap (λ (q : ℕ). length (region m q)) (zero-add j)))
    where
      counted : (q : ℕ) → q < places m.sizes → (v : Bool) → is_start m q ≡ v → cond (bit_at k.index q) (at k.count q) 0 ≡ length (region m q)
      counted q l true e = rw (start_bit q l, e) (H.counts q l)
      counted q l false e = rw (start_bit q l, e) (sym (ap length (none_elsewhere m H.sound q e)))

  pub honest_adds : adds_up k ≡ true
  unfolding adds_up
  honest_adds =
      let all = pool_and_resident m H.sound in
      let frames = ap (λ (z : Sizes). z.frames) H.sizes_are in
      let pool = sym (length_pool k) ∙ ap length pool_is in
      let resident = ap (λ (z : Sizes). counts_in k.index k.count 0 (places z)) H.sizes_are ∙ resident_are in
      let counts = counts_in k.index k.count 0 (places (sizes_of k.head)) in
      rw (
        le-leb k.head.fresh k.head.frames H.pooled.fresh_fits,
        eq-eqb (counts + frames_left k.head) k.head.frames (omega (arith, all, frames, pool, resident)),
      )

-- ---- a writing

-- what a writing is lent of the memory
abbrev pub lent_to_save : Memory → Memory
lent_to_save k = memory k.head k.index k.count k.table [] k.stack [] k.link []
