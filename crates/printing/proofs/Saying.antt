-- The text of the records in a buffer, and what is said with room and without.
use mathlib.Core.Path.{◌≡◌, sym, ap, ◌∙◌}
use mathlib.Core.Bool.{true, false, cond}
use mathlib.Core.List.{List, [], ◌++◌}
use Prim.Native.Nat.{ℕ, ◌+◌, ◌*◌, ◌≤◌, ◌<◌}
use borrow.Author.Tests.{le-leb, lt-leb}
use Rattle.std.proofs.Math.Bool.{and-false}
use lib.Dec.{leb}
use lib.ListN.{length, take, drop}
use lib.Seq.{take_at}
use Rattle.promise.specs.Filled.{records_in}
use Rattle.requests.specs.Requests.{region_numbers, replied}
use Rattle.requests.specs.Laws.{records_length, numbers_length, records_numbers}
use Rattle.requests.specs.declared.Reply.{Reply}
use Rattle.requests.specs.declared.Reply.TheVariants as reply_is
use Rattle.digits.specs.Text.{decimal, numbers_text}
use Rattle.digits.specs.declared.Text.{Text}
use Rattle.digits.specs.Writing.{Wrote, Added}
use Rattle.digits.specs.Laws.{wrote_none}
use Rattle.texts.specs.Text.{regions_word}
use Rattle.printing.specs.Text.{text}
use Rattle.printing.specs.Writing.{shown, said_text, Says}

-- ---- records

records_are : (n : ℕ) (ws : List ℕ) → 3 * n ≤ length ws → region_numbers (records_in n ws) ≡ take (3 * n) ws
records_are n ws h =
    let e = records_numbers n ws h in
    let l = numbers_length (records_in n ws) ∙ ap (λ (k : ℕ). 3 * k) (records_length n ws) in
    sym (take_at _ (drop (3 * n) ws) (3 * n) l) ∙ ap (take (3 * n)) e

pub regions_text : (n : ℕ) (bytes ws : List ℕ) → 3 * n ≤ length ws
    → text (replied (reply_is.Regions n) bytes ws) ≡ regions_word ++ (decimal n ++ numbers_text (take (3 * n) ws))
regions_text n bytes ws h = rw (records_length n ws, records_are n ws h)

-- ---- with room and without

module _ (at : ℕ) (out : List ℕ) (r : Reply) (bytes records : List ℕ) where
  -- nothing is said where one of the tests fails

  pub no_room : leb (at + 65536) (length out) ≡ false → Says at out r bytes records at out
  unfolding said_text
  no_room h = rw h (wrote_none at out)

  pub many_bytes : 32736 < length bytes → Says at out r bytes records at out
  unfolding said_text
  many_bytes h = rw (lt-leb (length bytes) 32736 h, and-false) (wrote_none at out)

  pub many_records : 3072 < length records → Says at out r bytes records at out
  unfolding said_text
  many_records h = rw (lt-leb (length records) 3072 h, and-false) (wrote_none at out)

  -- with room a reply is said, unless it shows more records than there are
  pub said_in_room : leb (at + 65536) (length out) ≡ true → length bytes ≤ 32736 → length records ≤ 3072 → {end : ℕ} {out' : List ℕ}
      → Wrote at out (cond (leb (shown r) (length records)) (text (replied r bytes records)) []) end out' → Says at out r bytes records end out'
  unfolding said_text
  said_in_room room few_bytes few_records w = rw (room, le-leb (length bytes) 32736 few_bytes, le-leb (length records) 3072 few_records) w

-- a reply q that shows no more records than there are
pub shows : {t t' : Text} {r : Reply} (bytes records : List ℕ) (q : Reply) → r ≡ q → shown q ≤ length records
    → Added t (text (replied q bytes records)) t' → Added t (cond (leb (shown r) (length records)) (text (replied r bytes records)) []) t'
shows bytes records q e shown_in a = rw (e, le-leb (shown q) (length records) shown_in) a
