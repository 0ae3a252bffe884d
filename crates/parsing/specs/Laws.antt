-- What a line's name is, and what a line that is a call says of its count and its bytes.
use Rattle.std.specs.Prelude.{◌≡◌, refl, Bool, true, cond, not, ◌&&◌, List, [], ◌∷◌, ◌++◌, map, ℕ, ◌*◌, ◌≤◌, leb, length, drop}
use Rattle.std.specs.Prelude.{Option, Some, None, option_and_then}
use Rattle.std.proofs.Common.{arith, leb-true}
use Rattle.machine.specs.declared.PageCall.{PageCall}
use Rattle.fields.specs.Fields.{begins, FieldTaken, field_at}
use Rattle.fields.specs.Laws.{begins_long, either, Ends, Left, after, field_left}
use Rattle.hexing.specs.Hex.{all_hex, hex_count, hex_of}
use Rattle.hexing.specs.Laws.{Hex, Counted, bytes_counted}
use Rattle.requests.specs.declared.Request.{Request}
use Rattle.requests.specs.declared.Request.TheVariants.{Start, Page, Free, Translate, Read, Write, List as Listing, WriteMap, ReadMap}
use Rattle.std.specs.Option.{option_or}
use Rattle.parsing.specs.Grammar.{Line, field, ended, bytes_of, start_line, pair_line, read_line, start_word, free_word, translate_word, read_word}
use Rattle.parsing.specs.Grammar.{write_word, list_word, map_word, longest_map, page_names, named, first_named, page_named, or_page, parsed}

-- ---- names

abbrev names : List (List ℕ)
names = start_word ∷ map (λ n. n.0) page_names ++ (free_word ∷ translate_word ∷ read_word ∷ write_word ∷ list_word ∷ map_word ∷ [])

-- a word and each of these, neither of which begins the other
abbrev apart_from : List ℕ → List (List ℕ) → Bool
apart_from w [] = true
apart_from w (v ∷ vs) = not (begins w v) && not (begins v w) && apart_from w vs

abbrev apart : List (List ℕ) → Bool
apart [] = true
apart (w ∷ ws) = apart_from w ws && apart ws

-- so the order of the tests doesn't matter
pub names_apart : apart names ≡ true
unfolding begins
names_apart = refl

-- a page call's name is part of the line
abbrev Inside : List ℕ → Option (PageCall × ℕ) → Type 0
Inside cs (Some (p, n)) = n ≤ length cs
Inside cs None = Unit

or_inside : (t u : Option (PageCall × ℕ)) (cs : List ℕ) → Inside cs t → Inside cs u → Inside cs (option_or t u)
or_inside (Some (p, n)) u cs h g = h
or_inside None u cs h g = g

first_inside : (ns : List (List ℕ × PageCall)) (cs : List ℕ) → Inside cs (first_named ns cs)
first_inside [] cs = tt
first_inside (n ∷ ns) cs =
    let one = either (Inside cs) (begins n.0 cs) (Some (n.1, length n.0)) None (begins_long n.0 cs) tt in
    or_inside (named cs n.0 n.1) (first_named ns cs) cs one (first_inside ns cs)

pub named_inside : (cs : List ℕ) (p : PageCall) (n : ℕ) → page_named cs ≡ Some (p, n) → n ≤ length cs
named_inside cs p n e = rw e at (first_inside page_names cs)

-- ---- a count and its bytes

module _ (line : List ℕ) where
  -- a request with so many bytes may be what a line says: those of a write are hex digits there, and no line reads a map
  abbrev pub Lined : Request → ℕ → Type 0
  Lined (Start s n f p) k = k ≡ 0
  Lined (Page p i b) k = k ≡ 0
  Lined Free k = k ≡ 0
  Lined (Translate i x) k = k ≡ 0
  Lined (Read i x) k = k ≤ 256
  Lined (Write i x) k = (k ≤ 256) × Hex line k
  Lined (Listing i) k = k ≡ 0
  Lined WriteMap k = k ≡ longest_map
  Lined ReadMap k = ⊥

  abbrev Good : Line → Type 0
  Good None = Unit
  Good (Some (q, n)) = Lined q n

  -- of what is read after a number
  abbrev Then : (ℕ → List ℕ → Line) → Type 0
  Then k = (v : ℕ) (cs : List ℕ) → Ends line cs → Good (k v cs)

  -- a number, then more
  then_good : (t : FieldTaken) (k : ℕ → List ℕ → Line) → Left line t → Then k → Good (option_and_then (λ t. k t.0 t.1) t)
  then_good None k e f = tt
  then_good (Some (v, rest)) k e f = f v rest e

  field_good : (cs : List ℕ) (k : ℕ → List ℕ → Line) → Ends line cs → Then k → Good (field cs k)
  field_good cs k e f = then_good (field_at cs) k (field_left line cs e) f

  ended_good : (cs : List ℕ) (l : Line) → Good l → Good (ended cs l)
  ended_good [] l g = g
  ended_good (c ∷ cs) l g = tt

  count_good : (i x : ℕ) (b : Option ℕ) → Counted line b → Good (option_and_then (λ n. Some (Write i x, n)) b)
  count_good i x (Some n) h = h
  count_good i x None h = tt

  bytes_good : (i x : ℕ) (cs : List ℕ) → Ends line cs → Good (bytes_of cs (λ n. Some (Write i x, n)))
  bytes_good i x cs e = count_good i x (hex_count cs) (bytes_counted line cs e)

  -- each call, after its name
  start_good : (cs : List ℕ) → Ends line cs → Good (start_line cs)
  start_good cs e =
      field_good cs _ e (λ s cs e. field_good cs _ e (λ n cs e. field_good cs _ e (λ f cs e.
      field_good cs _ e (λ p cs _. ended_good cs (Some (Start s n f p, 0)) refl))))

  read_good : (cs : List ℕ) → Ends line cs → Good (read_line cs)
  read_good cs e = field_good cs _ e (λ i cs e. field_good cs _ e (λ x cs e. field_good cs _ e (λ n cs _. few i x n cs)))
    where
      few : (i x n : ℕ) (cs : List ℕ) → Good (cond (leb n 256) (ended cs (Some (Read i x, n))) None)
      few i x n cs = either Good (leb n 256) _ _ (λ e. ended_good cs _ (leb-true n 256 e)) tt

  pair_good : (make : ℕ → ℕ → Request) → ((i b : ℕ) → Lined (make i b) 0) → (cs : List ℕ) → Ends line cs → Good (pair_line make cs)
  pair_good make f cs e = field_good cs _ e (λ i cs e. field_good cs _ e (λ b cs _. ended_good cs (Some (make i b, 0)) (f i b)))

  page_good : (t : Option (PageCall × ℕ)) (other : Line) → Good other → Good (or_page t line other)
  page_good (Some (p, n)) other g = pair_good (λ i b. Page p i b) (λ i b. refl) _ (after line n)
  page_good None other g = g

  -- a line, name by name
  good : Good (parsed line)
  unfolding parsed
  good =
      either Good (begins start_word line) _ _ (λ _. start_good _ (after line 5))
      (page_good (page_named line) _
      (either Good (begins free_word line) _ _ (λ _. ended_good (drop 4 line) (Some (Free, 0)) refl)
      (either Good (begins translate_word line) _ _ (λ _. pair_good (λ i x. Translate i x) (λ i x. refl) _ (after line 9))
      (either Good (begins read_word line) _ _ (λ _. read_good _ (after line 4))
      (either Good (begins write_word line) _ _ (λ _. field_good _ _ (after line 5) (λ i cs e. field_good cs _ e (bytes_good i)))
      (either Good (begins list_word line) _ _ (λ _. field_good _ _ (after line 4) (λ i cs _. ended_good cs (Some (Listing i, 0)) refl))
      (either Good (begins map_word line) _ _ (λ _. ended_good (drop 3 line) (Some (WriteMap, longest_map)) refl)
      tt)))))))

pub lined : (line : List ℕ) (q : Request) (n : ℕ) → parsed line ≡ Some (q, n) → Lined line q n
lined line q n e = rw e at (good line)

few : (line : List ℕ) (q : Request) (n : ℕ) → Lined line q n → n ≤ longest_map
few line (Start s p f b) n h = omega arith
few line (Page p i b) n h = omega arith
few line Free n h = omega arith
few line (Translate i x) n h = omega arith
few line (Read i x) n h = omega arith
few line (Write i x) n h = omega (arith, h.0)
few line (Listing i) n h = omega arith
few line WriteMap n h = omega arith
few line ReadMap n h = absurd h

pub few_bytes : (line : List ℕ) (q : Request) (n : ℕ) → parsed line ≡ Some (q, n) → n ≤ longest_map
few_bytes line q n e = few line q n (lined line q n e)

pub write_hex : (line : List ℕ) (i x n : ℕ) → parsed line ≡ Some (Write i x, n) → (2 * n ≤ length line) × (all_hex (hex_of line n) ≡ true)
write_hex line i x n e = (lined line (Write i x) n e).1
