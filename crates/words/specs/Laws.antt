-- Words and bytes are the same list, seen two ways.
use Rattle.std.specs.Prelude.{◌≡◌, refl, List, [], ◌∷◌, ◌++◌, ℕ, zero, suc, ◌+◌, ◌*◌, ◌/◌, ◌%◌, ◌≤◌, ◌<◌, length, get_or, set, take}
use Rattle.std.proofs.Common.{sym, ap, ◌∙◌, div-add-mod', arith, take_all}
use Rattle.std.proofs.Math.Nat.{div-div-eq-div-mul}
use Rattle.sequence.specs.Lists.{Each}
use Rattle.words.specs.Words.{byte, word_of, bytes_of, words_in, put_word}

-- ---- one word

assembled : (w q r t a b c : ℕ) → q * 256 + a ≡ w → r * 256 + b ≡ q → t * 256 + c ≡ r → word_of a b c t ≡ w
assembled w q r t a b c h k l = omega arith

word_of_bytes : (w : ℕ) → word_of (w % 256) (byte 256 w) (byte 65536 w) (w / 16777216) ≡ w
word_of_bytes w =
    let second = rw (div-div-eq-div-mul w 256 256) at (div-add-mod' (w / 256) 256) in
    let third = rw (div-div-eq-div-mul w 65536 256) at (div-add-mod' (w / 65536) 256) in
    assembled w (w / 256) (w / 65536) (w / 16777216) (w % 256) (byte 256 w) (byte 65536 w) (div-add-mod' w 256) second third

module _ (a b c d : ℕ) (ha : a < 256) (hb : b < 256) (hc : c < 256) (hd : d < 256) where
  pub word_below : word_of a b c d < 4294967296
  word_below = omega arith

  byte_0 : word_of a b c d % 256 ≡ a
  byte_0 = omega arith

  byte_1 : byte 256 (word_of a b c d) ≡ b
  byte_1 = omega arith

  byte_2 : byte 65536 (word_of a b c d) ≡ c
  byte_2 = omega arith

  byte_3 : word_of a b c d / 16777216 ≡ d
  byte_3 = omega arith

-- ---- lists

pub words_bytes : (ws : List ℕ) → words_in (bytes_of ws) ≡ ws
unfolding words_in bytes_of
words_bytes [] = refl
words_bytes (w ∷ ws) = rw (word_of_bytes w, words_bytes ws)

pub length_bytes : (ws : List ℕ) → length (bytes_of ws) ≡ 4 * length ws
unfolding bytes_of
length_bytes [] = refl
length_bytes (w ∷ ws) = omega (arith, length_bytes ws)

four : (k : ℕ) → 4 * suc k ≡ suc (suc (suc (suc (4 * k))))
four k = omega arith

four_and : (k j : ℕ) → 4 * suc k + j ≡ suc (suc (suc (suc (4 * k + j))))
four_and k j = omega arith

-- the first n words are the first 4 n bytes
pub take_words : (n : ℕ) (bs : List ℕ) → 4 * n ≤ length bs → Each 0 (λ b. b < 256) bs → bytes_of (take n (words_in bs)) ≡ take (4 * n) bs
unfolding words_in bytes_of
take_words zero bs h e = refl
take_words (suc n) [] h e = absurd (omega arith)
take_words (suc n) (a ∷ []) h e = absurd (omega arith)
take_words (suc n) (a ∷ b ∷ []) h e = absurd (omega arith)
take_words (suc n) (a ∷ b ∷ c ∷ []) h e = absurd (omega arith)
take_words (suc n) (a ∷ b ∷ c ∷ d ∷ bs) h e =
    let ha : a < 256 = e 0 (omega arith) in
    let hb : b < 256 = e 1 (omega arith) in
    let hc : c < 256 = e 2 (omega arith) in
    let hd : d < 256 = e 3 (omega arith) in
    let rest = take_words n bs (omega arith) (λ k l. e (suc (suc (suc (suc k)))) (omega arith)) in
    rw (four n, byte_0 a b c d ha hb hc hd, byte_1 a b c d ha hb hc hd, byte_2 a b c d ha hb hc hd, byte_3 a b c d ha hb hc hd, rest)

pub length_words : (n : ℕ) (bs : List ℕ) → length bs / 4 ≡ n → length (words_in bs) ≡ n
unfolding words_in
length_words n [] h = h
length_words n (a ∷ []) h = h
length_words n (a ∷ b ∷ []) h = h
length_words n (a ∷ b ∷ c ∷ []) h = h
length_words zero (a ∷ b ∷ c ∷ d ∷ bs) h = absurd (omega arith)
length_words (suc n) (a ∷ b ∷ c ∷ d ∷ bs) h = ap suc (length_words n bs (omega arith))

-- word k by its bytes
pub word_is : (k : ℕ) (bs : List ℕ) → 4 * k + 4 ≤ length bs
    → get_or (words_in bs) k 0 ≡ word_of (get_or bs (4 * k) 0) (get_or bs (4 * k + 1) 0) (get_or bs (4 * k + 2) 0) (get_or bs (4 * k + 3) 0)
unfolding words_in
word_is k [] h = absurd (omega arith)
word_is k (a ∷ []) h = absurd (omega arith)
word_is k (a ∷ b ∷ []) h = absurd (omega arith)
word_is k (a ∷ b ∷ c ∷ []) h = absurd (omega arith)
word_is zero (a ∷ b ∷ c ∷ d ∷ bs) h = refl
word_is (suc k) (a ∷ b ∷ c ∷ d ∷ bs) h = rw (four_and k 1, four_and k 2, four_and k 3, four k) (word_is k bs (omega arith))

-- words inside some bytes are the same, whatever follows these
pub words_front : (k : ℕ) (bs cs : List ℕ) → 4 * k + 4 ≤ length bs → get_or (words_in (bs ++ cs)) k 0 ≡ get_or (words_in bs) k 0
unfolding words_in
words_front k [] cs h = absurd (omega arith)
words_front k (a ∷ []) cs h = absurd (omega arith)
words_front k (a ∷ b ∷ []) cs h = absurd (omega arith)
words_front k (a ∷ b ∷ c ∷ []) cs h = absurd (omega arith)
words_front zero (a ∷ b ∷ c ∷ d ∷ bs) cs h = refl
words_front (suc k) (a ∷ b ∷ c ∷ d ∷ bs) cs h = words_front k bs cs (omega arith)

-- a word put is an entry set
pub put_word_lem : (k w : ℕ) (bs : List ℕ) → 4 * k + 4 ≤ length bs → words_in (put_word bs k w) ≡ set (words_in bs) k w
unfolding words_in
put_word_lem k w [] h = absurd (omega arith)
put_word_lem k w (a ∷ []) h = absurd (omega arith)
put_word_lem k w (a ∷ b ∷ []) h = absurd (omega arith)
put_word_lem k w (a ∷ b ∷ c ∷ []) h = absurd (omega arith)
put_word_lem zero w (a ∷ b ∷ c ∷ d ∷ bs) h = rw (word_of_bytes w)
put_word_lem (suc k) w (a ∷ b ∷ c ∷ d ∷ bs) h =
    rw (four_and k 1, four_and k 2, four_and k 3, four k) (ap (λ (ws : List ℕ). word_of a b c d ∷ ws) (put_word_lem k w bs (omega arith)))

-- words inside some bytes are there
pub words_long : (n : ℕ) (bs : List ℕ) → 4 * n ≤ length bs → n ≤ length (words_in bs)
words_long n bs h = omega (arith, length_words (length bs / 4) bs refl)

-- whole words and nothing after them
pub bytes_words : (bs : List ℕ) → length bs % 4 ≡ 0 → Each 0 (λ b. b < 256) bs → bytes_of (words_in bs) ≡ bs
bytes_words bs h e =
    let n = length bs / 4 in
    let all : 4 * n ≡ length bs = omega arith in
    let long : length (words_in bs) ≡ n = length_words n bs refl in
    sym (ap bytes_of (take_all n (words_in bs) (omega arith)))
    ∙ take_words n bs (omega arith) e
    ∙ take_all (4 * n) bs (omega arith)
