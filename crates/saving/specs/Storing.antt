-- Words stored one after another into the bytes of a file: what each step leaves to be stored, and the file at the end.
use Rattle.std.specs.Prelude.{◌≡◌, refl, List, [], ◌∷◌, ◌++◌, ℕ, suc, ◌+◌, ◌*◌, ◌≤◌, length, drop}
use Rattle.std.proofs.Common.{sym, ap, ap₂, ◌∙◌, add-zero, arith, length-append}
use Rattle.std.proofs.lemmas.List.Edits.{sets, sets-eq}
use Rattle.std.proofs.Math.Seq.{length-sets}
use Rattle.words.specs.Words.{bytes_of, put_word}
use Rattle.words.specs.Laws.{length_bytes}

-- the words ws stored from word k on
abbrev pub put_words : List ℕ → ℕ → List ℕ → List ℕ
put_words bs k ws = sets bs (4 * k) (bytes_of ws)

-- they lie inside the bytes
abbrev pub Room : List ℕ → ℕ → List ℕ → Type 0
Room bs k ws = 4 * (k + length ws) ≤ length bs

pub put_first : (bs : List ℕ) (k w : ℕ) (ws : List ℕ) → put_words bs k (w ∷ ws) ≡ put_words (put_word bs k w) (k + 1) ws
unfolding bytes_of
put_first bs k w ws =
    let a : 4 * k + 1 ≡ suc (4 * k) = omega arith in
    let b : 4 * k + 2 ≡ suc (suc (4 * k)) = omega arith in
    let c : 4 * k + 3 ≡ suc (suc (suc (4 * k))) = omega arith in
    let d : 4 * (k + 1) ≡ suc (suc (suc (suc (4 * k)))) = omega arith in
    rw (a, b, c, d)

pub put_append : (bs : List ℕ) (k : ℕ) (xs ys : List ℕ) → put_words bs k (xs ++ ys) ≡ put_words (put_words bs k xs) (k + length xs) ys
unfolding bytes_of
put_append bs k [] ys = rw add-zero
put_append bs k (x ∷ xs) ys =
    let across : k + 1 + length xs ≡ k + suc (length xs) = omega arith in
    put_first bs k x (xs ++ ys)
    ∙ put_append (put_word bs k x) (k + 1) xs ys
    ∙ ap₂ (λ (cs : List ℕ) (j : ℕ). put_words cs j ys) (sym (put_first bs k x xs)) across

pub put_length : (bs : List ℕ) (k : ℕ) (ws : List ℕ) → length (put_words bs k ws) ≡ length bs
put_length bs k ws = length-sets bs (4 * k) (bytes_of ws)

one_length : (bs : List ℕ) (k w : ℕ) → length (put_word bs k w) ≡ length bs
unfolding bytes_of
one_length bs k w = ap length (sym (put_first bs k w [])) ∙ put_length bs k (w ∷ [])

-- from the file's start on
pub put_file : (bs ws : List ℕ) → 4 * length ws ≤ length bs → put_words bs 0 ws ≡ bytes_of ws ++ drop (4 * length ws) bs
put_file bs ws h =
    let long = length_bytes ws in
    let all : 4 * 0 + length (bytes_of ws) ≡ 4 * length ws = omega arith in
    sets-eq (bytes_of ws) bs (4 * 0) (omega arith) ∙ ap (λ (n : ℕ). bytes_of ws ++ drop n bs) all

-- of all words to be stored from word at₀ of file₀ on, the rest is still to be stored, from word `at` of file on
pub record Storing (file₀ : List ℕ) (at₀ : ℕ) (all file : List ℕ) (at : ℕ) (rest : List ℕ) : Type 0 where
  pub same : put_words file at rest ≡ put_words file₀ at₀ all
  pub place : at + length rest ≡ at₀ + length all
  pub size : length file ≡ length file₀

-- of some words the first ones, and the rest
pub record Splits (xs ws rest : List ℕ) : Type 0 where
  pub is : xs ≡ ws ++ rest

-- all of them are stored
pub record Stored (file₀ : List ℕ) (at₀ : ℕ) (all file : List ℕ) (at : ℕ) : Type 0 where
  pub is : file ≡ put_words file₀ at₀ all
  pub next : at ≡ at₀ + length all

pub none_stored : (file : List ℕ) (at : ℕ) (all ws : List ℕ) → all ≡ ws → Storing file at all file at ws
none_stored file at all ws e = rw e (record { same = refl; place = refl; size = refl })

module _ {file₀ : List ℕ} {at₀ : ℕ} {all file : List ℕ} {at : ℕ} where
  pub has_room : {ws : List ℕ} → Room file₀ at₀ all → Storing file₀ at₀ all file at ws → Room file at ws
  has_room room s = omega (arith, s.place, s.size)

  pub part_room : {xs ws rest : List ℕ} → Room file₀ at₀ all → Storing file₀ at₀ all file at xs → Splits xs ws rest → Room file at ws
  part_room {xs} {ws} {rest} room s p = omega (arith, s.place, s.size, ap length p.is, length-append ws rest)

  pub one_room : {w : ℕ} {ws : List ℕ} → Room file₀ at₀ all → Storing file₀ at₀ all file at (w ∷ ws) → 4 * at + 4 ≤ length file
  one_room room s = omega (arith, s.place, s.size)

  -- the same words, told otherwise
  pub still_to_store : {xs ys : List ℕ} → Storing file₀ at₀ all file at xs → xs ≡ ys → Storing file₀ at₀ all file at ys
  still_to_store s e = rw e at s

  pub one_stored : {file' : List ℕ} {w : ℕ} {ws : List ℕ} → Storing file₀ at₀ all file at (w ∷ ws) → file' ≡ put_word file at w
      → Storing file₀ at₀ all file' (at + 1) ws
  one_stored {file'} {w} {ws} s e =
      record {
        same = ap (λ (f : List ℕ). put_words f (at + 1) ws) e ∙ sym (put_first file at w ws) ∙ s.same;
        place = omega (arith, s.place);
        size = ap length e ∙ one_length file at w ∙ s.size;
      }

  pub part_stored : {file' : List ℕ} {at' : ℕ} {xs ws rest : List ℕ} → Storing file₀ at₀ all file at xs → Splits xs ws rest → Stored file at ws file' at'
      → Storing file₀ at₀ all file' at' rest
  part_stored {file'} {at'} {xs} {ws} {rest} s p d =
      record {
        same =
            ap₂ (λ (f : List ℕ) (k : ℕ). put_words f k rest) d.is d.next
            ∙ sym (ap (put_words file at) p.is ∙ put_append file at ws rest)
            ∙ s.same;
        place = omega (arith, s.place, d.next, ap length p.is, length-append ws rest);
        size = ap length d.is ∙ put_length file at ws ∙ s.size;
      }

  pub all_stored : Storing file₀ at₀ all file at [] → Stored file₀ at₀ all file at
  unfolding bytes_of
  all_stored s = record { is = s.same; next = omega (arith, s.place) }

pub stored_long : {file ws file' : List ℕ} {at next : ℕ} → Stored file at ws file' next → length file' ≡ length file
stored_long {file} {ws} {at = at} d = ap length d.is ∙ put_length file at ws

-- ---- one part after another

module _ {all xs ys : List ℕ} (p : Splits all xs ys) where
  pub then_room : {file file' : List ℕ} {at at' : ℕ} → Room file at all → Stored file at xs file' at' → Room file' at' ys
  then_room room d = omega (arith, stored_long d, d.next, ap length p.is, length-append xs ys)

  pub then_stored : {file file' file'' : List ℕ} {at at' at'' : ℕ} → Stored file at xs file' at' → Stored file' at' ys file'' at'' → Stored file at all file'' at''
  then_stored {file} {at = at} d e =
      record {
        is =
            e.is
            ∙ ap₂ (λ (f : List ℕ) (k : ℕ). put_words f k ys) d.is d.next
            ∙ sym (ap (put_words file at) p.is ∙ put_append file at xs ys);
        next = omega (arith, d.next, e.next, ap length p.is, length-append xs ys);
      }

-- ---- some words at once

pub two_stored : {file one two : List ℕ} {at a b : ℕ} → one ≡ put_word file at a → two ≡ put_word one (at + 1) b → Stored file at (a ∷ b ∷ []) two (at + 2)
two_stored {file} {one} {two} {at} {a} {b} d e =
    let on : at + 1 + 1 ≡ at + 2 = omega arith in
    rw on at (all_stored (one_stored (one_stored (none_stored file at (a ∷ b ∷ []) (a ∷ b ∷ []) refl) d) e))

pub three_stored : {file two three : List ℕ} {at a b c : ℕ} → Stored file at (a ∷ b ∷ []) two (at + 2) → three ≡ put_word two (at + 2) c
    → Stored file at (a ∷ b ∷ c ∷ []) three (at + 3)
three_stored {file} {two} {three} {at} {a} {b} {c} d e =
    let on : at + 2 + 1 ≡ at + 3 = omega arith in
    let s = none_stored file at (a ∷ b ∷ c ∷ []) (a ∷ b ∷ c ∷ []) refl in
    let p : Splits (a ∷ b ∷ c ∷ []) (a ∷ b ∷ []) (c ∷ []) = record { is = refl } in
    rw on at (all_stored (one_stored (part_stored s p d) e))

-- one word after those stored
pub then_one_stored : {file file' file'' ws : List ℕ} {at at' next : ℕ} (w : ℕ) → Stored file at ws file' at' → file'' ≡ put_word file' at' w
    → next ≡ at' + 1 → Stored file at (ws ++ (w ∷ [])) file'' next
then_one_stored {file' = file'} {at' = at'} w d e on =
    let one = all_stored (one_stored (none_stored file' at' (w ∷ []) (w ∷ []) refl) e) in
    rw on (then_stored (record { is = refl }) d one)
