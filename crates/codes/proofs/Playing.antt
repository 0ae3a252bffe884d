-- Codes played one after another: what they leave.
use mathlib.Core.Path.{◌≡◌, refl, ap, ◌∙◌}
use mathlib.Core.List.{List, [], ◌∷◌, ◌++◌}
use Prim.Native.Nat.{ℕ, zero, suc, ◌+◌, ◌-◌, ◌*◌, ◌/◌, ◌≤◌, ◌<◌}
use native.Mathlib.Nat.{zero-add, add-zero}
use native.Mathlib.Omega.{arith}
use borrow.Rule.Slice.PartMut.{same_len_mid}
use lib.ListN.{length, get_or, take, drop}
use Rattle.std.specs.Simd.{first_chunks}
use Rattle.std.proofs.lemmas.List.{get_or-take, get_or-drop, length-take}
use Rattle.memory.specs.Memory.{Memory, lengths}
use Rattle.demands.specs.History.{Event}
use Rattle.decoding.specs.declared.Code.{Code}
use Rattle.std.specs.Prelude.{Option, Some, None}
use Rattle.plays.specs.Codes.{code_at}
use Rattle.plays.specs.Plays.{Desk, part, with_reply, called, PlayedOne, Turns}
use Rattle.plays.specs.Plays.Turns.{none, skip, turn}
use Rattle.plays.proofs.Laws.{turns_append}

-- the loop's state: the first j codes are played
pub record Playing (codes : List ℕ) (n : ℕ) (k₀ : Memory) (d₀ : Desk) (k : Memory) (d : Desk) (j : ℕ) : Type 0 where
  pub within : j ≤ n
  pub events : List Event
  pub turns : Turns codes (length d₀.bytes) (length d₀.records) 0 j k₀ d₀ events k d
  pub long : lengths k ≡ lengths k₀
  pub replies_long : length d.replies ≡ length d₀.replies
  pub bytes_long : length d.bytes ≡ length d₀.bytes
  pub records_long : length d.records ≡ length d₀.records

pub playing_none : (codes : List ℕ) (n : ℕ) (k : Memory) (d : Desk) → Playing codes n k d k d 0
playing_none codes n k d = record {
  within = omega arith;
  events = [];
  turns = none;
  long = refl;
  replies_long = refl;
  bytes_long = refl;
  records_long = refl;
}

module _ (codes : List ℕ) (n : ℕ) (k₀ : Memory) (d₀ : Desk) (k : Memory) (d : Desk) (j : ℕ) (p : Playing codes n k₀ d₀ k d j) (more : j < n)
    (k' : Memory) (reply' bytes' records' : List ℕ) (same : lengths k' ≡ lengths k)
    (reply-same : length reply' ≡ length (part (3 * j) (3 * j + 3) d.replies)) (bytes_same : length bytes' ≡ length d.bytes)
    (records-same : length records' ≡ length d.records) where
  abbrev whole_bytes : ℕ
  whole_bytes = length d₀.bytes

  abbrev whole_records : ℕ
  whole_records = length d₀.records

  abbrev next_desk : Desk
  next_desk = record { replies = with_reply j d.replies reply'; bytes = bytes'; records = records' }

  record OneTurn : Type 0 where
    made : List Event
    turned : Turns codes whole_bytes whole_records j 1 k d made k' next_desk

  one_turn : (o : Option Code) → code_at codes whole_bytes whole_records j ≡ o → PlayedOne o k d.bytes d.records k' reply' bytes' records' → OneTurn
  one_turn None e s =
      record {
        made = [];
        turned = rw (s.memory_stays, s.reply_is, s.bytes_stay, s.records_stay) (skip {k = k} {d = d} e none);
      }
  one_turn (Some c) e s =
      record {
        made = record { call = called c d; lent = lengths k; answer = s.answer } ∷ [];
        turned =
            rw (s.reply_is, s.bytes_are, s.records_are)
            (turn {k = k} {k₁ = k'} {d = d} {c = c} {a = s.answer} e s.did same none);
      }

  pub playing_more : PlayedOne (code_at codes (length d.bytes) (length d.records) j) k d.bytes d.records k' reply' bytes' records'
      → Playing codes n k₀ d₀ k' next_desk (j + 1)
  playing_more one =
      let t = one_turn (code_at codes whole_bytes whole_records j) refl (rw (p.bytes_long, p.records_long) at one) in
      record {
        within = omega arith;
        events = p.events ++ t.made;
        turns = turns_append codes whole_bytes whole_records p.turns (rw zero-add t.turned);
        long = same ∙ p.long;
        replies_long = same_len_mid (3 * j) (3 * j + 3 - 3 * j) d.replies reply' reply-same ∙ p.replies_long;
        bytes_long = bytes_same ∙ p.bytes_long;
        records_long = records-same ∙ p.records_long;
      }

-- number i of chunk j
chunk_at : (xs : List ℕ) (n j i : ℕ) → j < n → i < 5 → get_or (get_or (first_chunks 5 n xs) j []) i 0 ≡ get_or xs (5 * j + i) 0
chunk_at xs zero j i h k = absurd (omega arith)
chunk_at xs (suc n) zero i h k = rw zero-add (get_or-take 5 xs i 0 k)
chunk_at xs (suc n) (suc j) i h k =
    let e : 5 + (5 * j + i) ≡ 5 * suc j + i = omega arith in
    chunk_at (drop 5 xs) n j i (omega arith) k ∙ get_or-drop 5 xs (5 * j + i) 0 ∙ ap (λ m. get_or xs m 0) e

-- a chunk of the list is a code of it
pub chunk_code : (codes : List ℕ) (chunks : List (List ℕ)) (n j bytes records : ℕ) → chunks ≡ first_chunks 5 (length codes / 5) codes
    → length chunks ≡ length codes / 5 → j < length (take n chunks)
    → code_at (get_or (take n chunks) j []) bytes records 0 ≡ code_at codes bytes records j
chunk_code codes chunks n j bytes records f l h =
    let few = length-take n chunks in
    let inside : j < length codes / 5 = omega arith in
    let below : j < n = omega arith in
    let at = λ (i : ℕ) (k : i < 5). chunk_at codes (length codes / 5) j i inside k in
    rw (get_or-take n chunks j [] below, f, at 0 (omega arith), at 1 (omega arith), at 2 (omega arith), at 3 (omega arith), at 4 (omega arith), add-zero)
