-- A body's words and its blocks: read back what was written, write again what was read whole.
use Rattle.std.specs.Prelude.{◌≡◌, refl, true, List, [], ◌∷◌, ◌++◌, ℕ, zero, suc, ◌+◌, length}
use Rattle.std.proofs.Common.{sym, ap, ap₂, ◌∙◌, length-append}
use Rattle.std.proofs.lemmas.Bool.{false≢true}
use Rattle.sequence.specs.Sums.{sum}
use Rattle.machine.specs.Map.{Entry, Block, entry_words, body_words, Rest, rest_in, blocks_in, whole_from}
use Rattle.machine.specs.MapRules.{entries_of}

-- ---- written, then read

no_entries : (ws : List ℕ) → (rest_in 0 ws).entries ≡ []
unfolding rest_in
no_entries [] = refl
no_entries (a ∷ []) = refl
no_entries (a ∷ b ∷ []) = refl
no_entries (a ∷ b ∷ c ∷ ws) = refl

-- entries, then blocks
pub entries_back : (xs : List Entry) (ws : List ℕ) → rest_in (length xs) (entry_words xs ++ ws) ≡ record { entries = xs; blocks = blocks_in ws }
unfolding rest_in entry_words
entries_back [] ws = ap (λ (xs : List Entry). record { entries = xs; blocks = blocks_in ws }) (no_entries ws)
entries_back (x ∷ xs) ws = ap (λ (r : Rest). record { entries = x ∷ r.entries; blocks = r.blocks }) (entries_back xs ws)

pub blocks_back : (bs : List Block) → blocks_in (body_words bs) ≡ bs
unfolding rest_in body_words
blocks_back [] = refl
blocks_back (b ∷ bs) =
    ap (λ (r : Rest). record { start = b.start; length = b.length; entries = r.entries } ∷ r.blocks) (entries_back b.entries (body_words bs))
    ∙ ap (λ (xs : List Block). b ∷ xs) (blocks_back bs)

pub whole_entries : (xs : List Entry) (ws : List ℕ) → whole_from (length xs) (entry_words xs ++ ws) ≡ whole_from 0 ws
unfolding whole_from entry_words
whole_entries [] ws = refl
whole_entries (x ∷ xs) ws = whole_entries xs ws

pub whole_back : (bs : List Block) → whole_from 0 (body_words bs) ≡ true
unfolding whole_from body_words
whole_back [] = refl
whole_back (b ∷ bs) = whole_entries b.entries (body_words bs) ∙ whole_back bs

-- ---- read whole, then written

whole_words : (k : ℕ) (ws : List ℕ) → whole_from k ws ≡ true
    → (length (rest_in k ws).entries ≡ k) × (entry_words (rest_in k ws).entries ++ body_words (rest_in k ws).blocks ≡ ws)
unfolding whole_from rest_in entry_words body_words
whole_words zero (a ∷ b ∷ n ∷ ws) h =
    let ih = whole_words n ws h in
    (refl, ap₂ (λ (k : ℕ) (xs : List ℕ). a ∷ b ∷ k ∷ xs) ih.0 ih.1)
whole_words zero (a ∷ b ∷ []) h = absurd (false≢true h)
whole_words zero (a ∷ []) h = absurd (false≢true h)
whole_words zero [] h = (refl, refl)
whole_words (suc k) (p ∷ f ∷ ws) h =
    let ih = whole_words k ws h in
    (ap suc ih.0, ap (λ (xs : List ℕ). p ∷ f ∷ xs) ih.1)
whole_words (suc k) (p ∷ []) h = absurd (false≢true h)
whole_words (suc k) [] h = absurd (false≢true h)

pub words_back : (ws : List ℕ) → whole_from 0 ws ≡ true → body_words (blocks_in ws) ≡ ws
unfolding entry_words
words_back ws h = ap (λ (xs : List Entry). entry_words xs ++ body_words (blocks_in ws)) (sym (no_entries ws)) ∙ (whole_words 0 ws h).1

-- ---- the entries of all blocks

pub entries_count : (bs : List Block) → length (entries_of bs) ≡ sum (λ b. length b.entries) bs
unfolding entries_of
entries_count [] = refl
entries_count (b ∷ bs) = length-append b.entries (entries_of bs) ∙ ap (λ (n : ℕ). length b.entries + n) (entries_count bs)
