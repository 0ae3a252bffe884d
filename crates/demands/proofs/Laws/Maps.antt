-- Maps written and read by the pager's own calls.
use Rattle.std.specs.Prelude.{◌≡◌, Bool, cond, ◌&&◌, List, [], ℕ, zero, suc, ◌≤◌, ◌<◌, leb, length}
use Rattle.std.proofs.Math.Path.{refl, ap, subst}
use Rattle.std.proofs.Common.{sym, ◌∙◌, arith, le-leb}
use Rattle.std.proofs.Math.Bool.{true, false}
use Rattle.std.proofs.lemmas.Bool.{false≢true}
use Rattle.std.proofs.Math.Option.{Option, some, some-injective}
use Rattle.sequence.specs.Lists.{Each}
use Rattle.words.specs.Words.{words_in}
use Rattle.machine.specs.Machine.{Sizes, sizes_ok, State, with_ram, Lent, every_table, stacks_and_link, enough, write_map, read_map, facts, lent_ok, file_first, asked}
use Rattle.machine.specs.Machine.{Answer, done, map_file, refused, refusal, map_if, accepted, unless, step, answer}
use Rattle.machine.specs.Claims.{Sound, Described}
use Rattle.machine.specs.Map.{sizes_in, state_in, map_of}
use Rattle.machine.specs.MapRules.{contents_ok, file_ok, described}
use Rattle.machine.proofs.MapTheorems.{file_described, described_file, read_then_write, described_ram, described_ok, described_sizes, file_contents}
use Rattle.machine.proofs.Laws.Sizes.{both, passed, around_passed}
use Rattle.machine.proofs.Laws.Calls.{map_described}
use Rattle.memory.specs.Memory.{Memory, sizes_of, lengths}
use Rattle.promise.specs.Holds.{Holds}
use Rattle.promise.specs.Did.{Exactly, still, BeginsBy, Did}
use Rattle.laws.specs.Refusals.{Long, long, passed_step}
use Rattle.laws.specs.Passing.{long_enough_lem}
use Rattle.laws.specs.Lengths.{lengths_stay}
use Rattle.demands.specs.Maps.{Reads}
use Rattle.demands.proofs.Laws.Run.{accepted_asks}

-- ---- what the checks ask

module _ (z : Sizes) (file : List ℕ) (l : Lent) where
  -- with tables long enough a map passes
  pub map_passes : file_ok file ≡ true → Long every_table (sizes_in (words_in file)) l → asked z (read_map file l) ≡ 0
  unfolding asked
  map_passes ok h =
      let (fits, _) = both (sizes_ok (sizes_in (words_in file))) _ (file_contents file ok) in
      rw (file_contents file ok, ok, fits, long_enough_lem every_table (sizes_in (words_in file)) l h)

  -- and any other file is refused with 12
  pub other_refused : file_ok file ≡ false → Long every_table (sizes_in (words_in file)) l → asked z (read_map file l) ≡ 12
  unfolding asked
  other_refused bad h = go (contents_ok file) refl
    where
      go : (c : Bool) → contents_ok file ≡ c → asked z (read_map file l) ≡ 12
      go false e = rw e
      go true e =
          let (fits, _) = both (sizes_ok (sizes_in (words_in file))) _ e in
          rw (e, bad, fits, long_enough_lem every_table (sizes_in (words_in file)) l h)

-- ---- reading

-- what is described is read, on any memory
pub described_begins : (file : List ℕ) (m : State) (k : Memory) (a : Answer) (k' : Memory) → described k.ram file ≡ some m
    → asked (sizes_of k.head) (read_map file (lengths k)) ≡ 0 → Did (read_map file) k a k' → (a ≡ done) × Holds m k'
described_begins file m k a k' is e d =
    let same : with_ram m k.ram ≡ m = some-injective (with_ram m k.ram) m (sym (described_ram k.ram file k.ram m is) ∙ is) in
    let r = subst (λ (o : Option State). BeginsBy o (asked (sizes_of k.head) (read_map file (lengths k))) k a k')
    (described_ram k.ram file [] m is) d.begins e in
    (r.0, rw same at r.1)

-- ---- writing

-- what is written of honest memory is the machine's map
pub map_is : (m : State) (room : ℕ) (l : Lent) (vs : List ℕ) → map_file vs ≡ answer m (write_map room l) → vs ≡ map_of m
unfolding step accepted
map_is m room l vs = go (asked m.sizes (write_map room l)) (leb (length (map_of m)) room)
  where
    go : (j : ℕ) (b : Bool) → map_file vs ≡ (unless (refusal (write_map room l)) j m (record { answer = map_if (map_of m) b; after = m })).answer → vs ≡ map_of m
    go zero true e = cc
    go zero false e = absurd (let w : ◌≡◌ {A = ℕ} 0 1 = cc in omega arith)
    go (suc j) b e = absurd (let w : ◌≡◌ {A = ℕ} 0 1 = cc in omega arith)

-- a writing is lent no table that a reading isn't
fewer_long : (z : Sizes) (l : Lent) → Long every_table z l → Long stacks_and_link z l
fewer_long z l h =
    record {
      index = h.index;
      count = h.count;
      table = h.table;
      helper = λ e. absurd (false≢true e);
      stack = h.stack;
      cache = λ e. absurd (false≢true e);
      link = h.link;
      ram = λ e. absurd (false≢true e);
    }

-- with tables and a buffer long enough it is written
pub map_written_lem : (m : State) (room : ℕ) (l : Lent) → Sound m → Long stacks_and_link m.sizes l → length (map_of m) ≤ room
    → answer m (write_map room l) ≡ map_file (map_of m)
unfolding asked accepted
map_written_lem m room l s h fits =
    ap (λ o. o.answer) (passed_step m (write_map room l) (rw (s.sizes_ok_lem, long_enough_lem stacks_and_link m.sizes l h)))
    ∙ ap (map_if (map_of m)) (le-leb _ room fits)

-- ---- both

module _ (file : List ℕ) (bytes : Each 0 (λ b. b < 256) file) (k : Memory) where
  -- a reading that is done read a map, lent tables long enough
  pub done_described : (k' : Memory) → Did (read_map file) k done k'
      → (m : State) × (described k.ram file ≡ some m) × (asked (sizes_of k.head) (read_map file (lengths k)) ≡ 0)
  done_described k' d =
      let e = accepted_asks _ _ (read_map file (lengths k)) d.asks in
      (_, described_ram [] file k.ram _ (map_described (sizes_of k.head) file (lengths k) e), e)

  pub reads : (a : Answer) (k' : Memory) → Long every_table (sizes_in (words_in file)) (lengths k) → Did (read_map file) k a k' → Reads file k a k'
  reads a k' h d =
      record {
        accepted = λ m is.
            let e = described_file k.ram file m is in
            described_begins file m k a k' e (map_passes (sizes_of k.head) file (lengths k) (described_ok k.ram file m e) h) d;
        only = λ is. let (m, e, _) = done_described k' (rw is at d) in (m, file_described k.ram file m bytes e);
        refuses = λ none.
            let bad = not_a_map none in
            let r : a ≡ refused 12 = subst (λ (i : ℕ). Exactly i (sizes_of k.head) (read_map file (lengths k)) a)
            (other_refused (sizes_of k.head) file (lengths k) bad h) d.asks in
            (r, d.stays (ap still r));
      }
    where
      not_a_map : ((m : State) → Described file k.ram m → ⊥) → file_ok file ≡ false
      not_a_map none = go (file_ok file) refl
        where
          go : (t : Bool) → file_ok file ≡ t → file_ok file ≡ false
          go false e = e
          go true e =
              let is : described k.ram file ≡ some (state_in k.ram (words_in file)) = rw e in
              absurd (none _ (file_described k.ram file _ bytes is))

  -- what was read is written again byte for byte
  pub written_again : (k' : Memory) → Did (read_map file) k done k' → (room : ℕ) (a : Answer) → length file ≤ room → Did (write_map room) k' a k'
      → a ≡ map_file file
  unfolding asked
  written_again k' d room a fits w =
      let (m, is, e) = done_described k' d in
      let H = (described_begins file m k done k' is e d).1 in
      let same = read_then_write k.ram file m bytes is in
      let (_, tables) = both (sizes_ok (sizes_in (words_in file))) _ (passed _ _ _ (around_passed (facts (read_map file (lengths k))).given _ e)).first in
      let h = subst (λ (y : Lent). Long every_table (sizes_in (words_in file)) y) (sym (lengths_stay (read_map file) k done k' d)) (long every_table _ _ tables) in
      let h' = subst (λ (z : Sizes). Long stacks_and_link z (lengths k')) (sym (described_sizes k.ram file m is)) (fewer_long _ _ h) in
      (w.honest m H).answer_is
      ∙ map_written_lem m room (lengths k') H.sound h' (rw same fits)
      ∙ ap map_file same
