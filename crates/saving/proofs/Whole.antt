-- The whole file, part after part; and the numbers of one that adds up are small.
use mathlib.Core.Path.{◌≡◌, refl, sym, ap, ap₂, ◌∙◌}
use mathlib.Core.Bool.{true}
use mathlib.Core.List.{List, [], ◌∷◌, ◌++◌}
use Prim.Native.Nat.{ℕ, ◌+◌, ◌*◌, ◌≤◌, ◌<◌}
use native.Mathlib.Omega.{arith}
use borrow.Author.Tests.{leb-true, eqb-true}
use lib.Dec.{leb}
use lib.ListN.{length, length-append}
use Rattle.sequence.specs.Lists.{tabulate}
use Rattle.sequence.specs.Sums.{sum_from}
use Rattle.machine.specs.Machine.{places, sizes_ok}
use Rattle.machine.specs.Map.{bodies, first_body}
use Rattle.machine.proofs.Laws.Sizes.{both, fit}
use Rattle.memory.specs.Memory.{Memory, sizes_of}
use Rattle.memory.specs.declared.Head.{Head}
use Rattle.promise.specs.Did.{frames_left}
use Rattle.promise.specs.Holds.{unused}
use Rattle.saving.specs.Saved.{space_from, spaces_by, chained, pool_from, pool_by, counts_in, adds_up, saved_words}
use Rattle.saving.specs.Storing.{put_words, put_append, Room, Stored, Splits, then_room, then_stored}
use Rattle.saving.specs.Sizes.{space_size, space_rows, size_words, row_words, pool_row, content_words, space_words, sizes_add, saved_order}
use Rattle.saving.specs.Asked.{Walkable, Listable, Storable}
use Rattle.saving.proofs.Tallying.{few_starts}

-- ---- what adds up is small

pub record Adds (k : Memory) : Type 0 where
  pub fresh_fits : k.head.fresh ≤ k.head.frames
  pub all_frames_lem : counts_in k.index k.count 0 (places (sizes_of k.head)) + frames_left k.head ≡ k.head.frames

pub adds : (k : Memory) → adds_up k ≡ true → Adds k
unfolding adds_up
adds k e =
    let resident = counts_in k.index k.count 0 (places (sizes_of k.head)) in
    let b = both (leb k.head.fresh k.head.frames) _ e in
    record {
      fresh_fits = leb-true k.head.fresh k.head.frames b.0;
      all_frames_lem = eqb-true (resident + frames_left k.head) k.head.frames b.1;
    }

pub listable : (k : Memory) → sizes_ok (sizes_of k.head) ≡ true → Walkable k.index k.count 0 (places (sizes_of k.head)) → adds_up k ≡ true
    → Listable k.head k.index k.count
listable k ok w e =
    let f = fit (sizes_of k.head) ok in
    let a = adds k e in
    record {
      sizes_ok_lem = ok;
      walkable = w;
      fresh_fits = a.fresh_fits;
      few_free = omega (arith, a.all_frames_lem, f.few_frames);
      few_words =
          omega (
            arith,
            a.all_frames_lem,
            f.few_frames,
            f.few_spaces,
            f.few_places,
            sizes_add k.index k.count k.head.pages k.head.spaces,
            few_starts k.index 0 (places (sizes_of k.head)),
          );
    }

-- ---- part after part

-- what was stored, and then the last part
last_stored : {all xs ys : List ℕ} → Splits all xs ys → {file file' file'' : List ℕ} {at at' : ℕ} → Stored file at xs file' at'
    → file'' ≡ put_words file' at' ys → file'' ≡ put_words file at all
last_stored {all} {xs} {ys} p {file} {file'} {at = at} {at'} d e =
    e
    ∙ ap₂ (λ (f : List ℕ) (k : ℕ). put_words f k ys) d.is d.next
    ∙ sym (ap (put_words file at) p.is ∙ put_append file at xs ys)

-- the first of two parts has room
first_room : {all xs ys : List ℕ} → Splits all xs ys → (file : List ℕ) (at : ℕ) → Room file at all → Room file at xs
first_room {all} {xs} {ys} p file at room = omega (arith, ap length p.is, length-append xs ys)

-- ---- the contents; s spaces of n pages

module _ (h : Head) (index count file : List ℕ) {s n : ℕ} (s-is : s ≡ h.spaces) (n_is : n ≡ h.pages) (l : Listable h index count)
    (room : Room file 0 (content_words h index count)) where
  sizes_first : Splits (content_words h index count) (size_words h) (row_words h index count ++ pool_row h index count)
  sizes_first = record { is = refl }

  rows_first : Splits (row_words h index count ++ pool_row h index count) (row_words h index count) (pool_row h index count)
  rows_first = record { is = refl }

  module _ {one : List ℕ} (sized : Stored file 0 (size_words h) one 4) where
    pub rows_ask : Walkable index count 0 (s * n) × (s ≤ 64) × Room one 4 (space_rows index count n (first_body s) 0 s)
        × (first_body s + sum_from (space_size index count n) 0 s < 4294967296)
    rows_ask = rw (s-is, n_is) (
      l.walkable,
      (fit (sizes_of h) l.sizes_ok_lem).few_spaces,
      first_room rows_first one 4 (then_room sizes_first room sized),
      l.few_words,
    )

    module _ {two : List ℕ} (rowed : Stored one 4 (space_rows index count n (first_body s) 0 s) two (4 + 3 * s)) where
      all_rowed : Stored one 4 (row_words h index count) two (4 + 3 * s)
      all_rowed = rw (← s-is, ← n_is) rowed

      pub pool_row_room : 4 * (4 + 3 * s + 3) ≤ length two
      pool_row_room = then_room rows_first (then_room sizes_first room sized) all_rowed

      pub contents_stored : {three : List ℕ} {body free : ℕ} → body ≡ first_body s + sum_from (space_size index count n) 0 s → free ≡ frames_left h
          → Stored two (4 + 3 * s) (body ∷ free ∷ free ∷ []) three (4 + 3 * s + 3)
          → Stored file 0 (content_words h index count) three (first_body h.spaces)
      contents_stored {three} {body} {free} body_is free_is d =
          let on : first_body h.spaces ≡ 4 + 3 * s + 3 = omega arith in
          let place : body ≡ first_body h.spaces + space_words h index count = rw (s-is, n_is) at body_is in
          let row : Stored two (4 + 3 * s) (pool_row h index count) three (4 + 3 * s + 3) = rw (← place, ← free_is) d in
          let whole = then_stored sizes_first sized (then_stored rows_first all_rowed row) in
          record { is = whole.is; next = on ∙ whole.next }

-- ---- the pool

module _ (h : Head) (link file : List ℕ) (word : ℕ) {many : ℕ} (many_is : many ≡ h.many) (room : Room file word (pool_from h link)) where
  linked_first : Splits (pool_from h link) (chained link h.first many) (unused h.fresh h.frames)
  linked_first = record { is = rw many_is }

  pub chain_room : Room file word (chained link h.first many)
  chain_room = first_room linked_first file word room

  module _ {one : List ℕ} {last : ℕ} (d : Stored file word (chained link h.first many) one last) where
    pub unused_room : Room one last (unused h.fresh h.frames)
    unused_room = then_room linked_first room d

    pub pool_stored : {two : List ℕ} → two ≡ put_words one last (unused h.fresh h.frames) → two ≡ put_words file word (pool_from h link)
    pool_stored e = last_stored linked_first d e

-- ---- the file

module _ (k : Memory) (file : List ℕ) {s n : ℕ} (s-is : s ≡ k.head.spaces) (n_is : n ≡ k.head.pages) (ok : Storable k file) where
  contents_first : Splits (saved_words k) (content_words k.head k.index k.count) (bodies (spaces_by k) ++ pool_by k)
  contents_first = record { is = saved_order k }

  bodies_first : Splits (bodies (spaces_by k) ++ pool_by k) (bodies (spaces_by k)) (pool_by k)
  bodies_first = record { is = refl }

  all_room : Room file 0 (saved_words k)
  all_room = omega (arith, ok.fits)

  pub contents_ask : Listable k.head k.index k.count × Room file 0 (content_words k.head k.index k.count)
  contents_ask = (ok.listable, first_room contents_first file 0 all_room)

  module _ {one : List ℕ} (listed : Stored file 0 (content_words k.head k.index k.count) one (first_body k.head.spaces)) where
    on : first_body k.head.spaces ≡ 7 + 3 * s
    on = omega arith

    rest_room : Room one (first_body k.head.spaces) (bodies (spaces_by k) ++ pool_by k)
    rest_room = then_room contents_first all_room listed

    pub bodies_ask : Walkable k.index k.count 0 (s * n)
        × Room one (7 + 3 * s) (bodies (tabulate (space_from k.index k.count k.table k.stack n) s))
    bodies_ask =
        rw (← on, s-is, n_is) (ok.listable.walkable, first_room bodies_first one (first_body k.head.spaces) rest_room)

    module _ {two : List ℕ} {to : ℕ} (d : Stored one (7 + 3 * s) (bodies (tabulate (space_from k.index k.count k.table k.stack n) s)) two to) where
      bodied : Stored one (first_body k.head.spaces) (bodies (spaces_by k)) two to
      bodied = rw (on, ← s-is, ← n_is) d

      pub pool_ask : Room two to (pool_by k)
      pool_ask = then_room bodies_first rest_room bodied

      pub file_stored : {three : List ℕ} → three ≡ put_words two to (pool_by k) → three ≡ put_words file 0 (saved_words k)
      file_stored e = last_stored contents_first listed (last_stored bodies_first bodied e)
