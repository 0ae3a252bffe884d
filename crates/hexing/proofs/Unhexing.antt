-- The bytes of a line's hex, written one at a time.
use Rattle.std.specs.Prelude.{◌≡◌, refl, Bool, true, false, cond, ◌&&◌, List, [], ◌∷◌, ◌++◌, ℕ, ◌+◌, ◌-◌, ◌*◌, ◌≤◌, ◌<◌, leb, length, take, drop, get_or, set}
use Rattle.std.proofs.Common.{arith, leb-true, sym, ap, ◌∙◌, append_assoc, append-nil, length-drop, length-set, take-append-drop}
use Rattle.std.proofs.lemmas.List.{take_more_set, drop-set-lt}
use lib.Seq.{drop-drop, take_all}
use Rattle.machine.proofs.Laws.Sizes.{both}
use Rattle.fields.specs.Laws.{here, over}
use Rattle.hexing.specs.Hex.{all_hex, nibble, bytes_in, hex_of, unhexed}
use Rattle.hexing.specs.Laws.{unhexed_all}

-- ---- nothing is written

module _ (line : List ℕ) (n : ℕ) (buffer : List ℕ) where
  none_where : (2 * n ≤ length line → n ≤ length buffer → all_hex (hex_of line n) ≡ true → ⊥) → buffer ≡ unhexed line n buffer
  unfolding unhexed
  none_where never = go (leb (2 * n) (length line) && leb n (length buffer) && all_hex (hex_of line n)) refl
    where
      go : (ok : Bool) → leb (2 * n) (length line) && leb n (length buffer) && all_hex (hex_of line n) ≡ ok
          → buffer ≡ cond ok (bytes_in (hex_of line n) ++ drop n buffer) buffer
      go true e =
          let p = both _ (all_hex (hex_of line n)) e in
          let q = both (leb (2 * n) (length line)) (leb n (length buffer)) p.0 in
          absurd (never (leb-true (2 * n) (length line) q.0) (leb-true n (length buffer) q.1) p.1)
      go false e = refl

  pub no_room : length buffer < n → buffer ≡ unhexed line n buffer
  no_room h = none_where (λ long room hex. omega arith)

  pub few_digits : length line < 2 * n → buffer ≡ unhexed line n buffer
  few_digits h = none_where (λ long room hex. omega arith)

  pub not_hex : all_hex (hex_of line n) ≡ false → buffer ≡ unhexed line n buffer
  not_hex h = none_where (λ long room hex. cc)

-- ---- a byte at a time

-- a line's last digits as the code slices them
abbrev pub digits_of : List ℕ → ℕ → List ℕ
digits_of line n = take (length line - (length line - 2 * n)) (hex_of line n)

pub to_end : (line : List ℕ) (n : ℕ) → digits_of line n ≡ hex_of line n
to_end line n = take_all _ _ (omega (arith, length-drop (length line - 2 * n) line))

pub digits_in : (line : List ℕ) (n : ℕ) → 2 * n ≤ length line → length (digits_of line n) ≡ 2 * n
digits_in line n h = rw (to_end line n) (omega (arith, length-drop (length line - 2 * n) line))

-- the next two digits are a byte
pair : (digits : List ℕ) (at : ℕ) → at + 1 < length digits
    → bytes_in (drop at digits) ≡ (16 * nibble (get_or digits at 0) + nibble (get_or digits (at + 1) 0)) ∷ bytes_in (drop (at + 2) digits)
unfolding bytes_in
pair digits at h =
    let two : at + 1 + 1 ≡ at + 2 = omega arith in
    rw (here digits at (omega arith), here digits (at + 1) h, two)

none : bytes_in [] ≡ []
unfolding bytes_in
none = refl

-- i bytes are written
pub record Unhexing (digits before buffer : List ℕ) (i : ℕ) : Type 0 where
  pub size : length buffer ≡ length before
  pub front : bytes_in digits ≡ take i buffer ++ bytes_in (drop (2 * i) digits)
  pub back : drop i buffer ≡ drop i before

pub none_written : (digits buffer : List ℕ) → Unhexing digits buffer buffer 0
none_written digits buffer = record { size = refl; front = refl; back = refl }

module _ {digits before buffer : List ℕ} {i : ℕ} (u : Unhexing digits before buffer i) where
  pub all_written : length digits ≤ 2 * i → buffer ≡ bytes_in digits ++ drop i before
  all_written h = rw (u.front, over digits (2 * i) h, none, append-nil, ← u.back, take-append-drop)

  pub one_written : 2 * i + 1 < length digits → i < length before → (v : ℕ) → v ≡ 16 * nibble (get_or digits (2 * i) 0) + nibble (get_or digits (2 * i + 1) 0)
      → Unhexing digits before (set buffer i v) (i + 1)
  one_written h r v e =
      let two : 2 * (i + 1) ≡ 2 * i + 2 = omega arith in
      let i-in : i < length buffer = omega (arith, u.size) in
      let rest = sym (drop-drop 1 i buffer) ∙ ap (λ (l : List ℕ). drop 1 l) u.back ∙ drop-drop 1 i before in
      record {
        size = length-set buffer i v ∙ u.size;
        front = u.front ∙ rw (pair digits (2 * i) h, ← e, two, take_more_set buffer i v i-in, append_assoc);
        back = drop-set-lt (i + 1) buffer i v (omega arith) ∙ rest;
      }

pub all_unhexed : (line : List ℕ) (n : ℕ) (before buffer : List ℕ) (i : ℕ) → Unhexing (digits_of line n) before buffer i → i ≡ n → 2 * n ≤ length line
    → n ≤ length before → all_hex (digits_of line n) ≡ true → buffer ≡ unhexed line n before
all_unhexed line n before buffer i u e long room hex =
    let all = rw e at (all_written u (omega (arith, digits_in line n long))) in
    rw (unhexed_all line n before long room (rw (to_end line n) at hex), ← to_end line n) all
