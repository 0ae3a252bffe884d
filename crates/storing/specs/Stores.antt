-- A page's part of a span stored where the page table has it; on honest memory that is where the machine has it.
use Rattle.std.specs.Prelude.{◌≡◌, refl, Bool, true, false, cond, List, ℕ, ◌+◌, ◌*◌, ◌%◌, ◌≤◌, ◌<◌, ltb, length}
use Rattle.std.proofs.Common.{sym, ap, ◌∙◌, mod-lt, mul-le-mul_right, arith, lt-ltb, le-ltb, ltb-true}
use Rattle.std.proofs.Math.Option.{none, some, none-ne-some, some-injective}
use Rattle.std.proofs.lemmas.List.Edits.{sets}
use Rattle.machine.specs.Machine.{place_of, page_of_address, State, ram_at, stored_at, stored}
use Rattle.machine.proofs.Laws.Stays.{IsMapped}
use Rattle.memory.specs.Memory.{Memory, at, sizes_of, place_in, place_by}
use Rattle.memory.specs.declared.Head.{Head}
use Rattle.promise.specs.Holds.{Holds}
use Rattle.promise.specs.Did.{Words}
use Rattle.laws.specs.Parts.{same_page}
use Rattle.lookup.specs.Lookup.{table_place}
use Rattle.storing.specs.Storing.{stored_run, stored_nowhere, stored_same, stored_words}

-- the page of each of n addresses from x on is mapped
abbrev pub SpanMapped : State → ℕ → ℕ → ℕ → Type 0
SpanMapped m i x n = (j : ℕ) → j < n → IsMapped m (page_of_address m.sizes i (x + j))

module _ (h : Head) (i x : ℕ) (vs table ram : List ℕ) (fits : x % (sizes_of h).page + length vs ≤ (sizes_of h).page) where
  abbrev frame : ℕ
  frame = at table (page_of_address (sizes_of h) i x)

  -- the table's word of each address of the part
  same_word : (k : ℕ) → k < length vs
      → let f = at table (page_of_address (sizes_of h) i x) in place_by h i table (x + k) ≡ cond (ltb f h.frames) (some (place_in h f x + k)) none
  same_word k l =
      let s = same_page (sizes_of h).page x k (omega arith) in
      let one = ap (λ (c : ℕ). at table (place_of (sizes_of h) i c)) s.0 in
      ap (λ (g : ℕ). cond (ltb g h.frames) (some (place_in h g (x + k))) none) one
      ∙ ap (λ (q : ℕ). cond (ltb frame h.frames) (some q) none)
      (let there : place_in h frame (x + k) ≡ place_in h frame x + k = omega (arith, s.1) in there)

  pub none_stored : h.frames ≤ at table (page_of_address (sizes_of h) i x) → ram ≡ stored_at (place_by h i table) x vs ram
  none_stored high = sym (stored_nowhere (place_by h i table) x vs ram (λ k l. same_word k l ∙ rw (le-ltb frame h.frames high)))

  pub frame_stored : (f : ℕ) → f ≡ at table (page_of_address (sizes_of h) i x) → f < h.frames
      → sets ram (place_in h f x) vs ≡ stored_at (place_by h i table) x vs ram
  frame_stored f is below =
      let low : frame < h.frames = omega arith in
      ap (λ (g : ℕ). sets ram (place_in h g x) vs) is
      ∙ sym (stored_run (place_by h i table) x (place_in h frame x) vs ram (λ k l. same_word k l ∙ rw (lt-ltb frame h.frames low)))

-- ---- a whole span

-- each place is that of a byte of some frame
pub place_low : (h : Head) (i : ℕ) (table : List ℕ) (y p : ℕ) → 0 < (sizes_of h).page → place_by h i table y ≡ some p → p < (sizes_of h).frames * (sizes_of h).page
place_low h i table y p pos =
    go (ltb (at table (page_of_address (sizes_of h) i y)) h.frames) (ltb-true (at table (page_of_address (sizes_of h) i y)) h.frames)
  where
    go : (t : Bool) → (t ≡ true → at table (page_of_address (sizes_of h) i y) < h.frames)
        → cond t (some (place_in h (at table (page_of_address (sizes_of h) i y)) y)) none ≡ some p → p < (sizes_of h).frames * (sizes_of h).page
    go true l e =
        let is = some-injective _ p e in
        omega (arith, is, mod-lt y pos, mul-le-mul_right (sizes_of h).page (l refl))
    go false l e = absurd (none-ne-some p e)

pub span_words : (h : Head) (i x : ℕ) (vs table ram : List ℕ) → 0 < (sizes_of h).page
    → Words (length vs) ((sizes_of h).frames * (sizes_of h).page) ram (stored_at (place_by h i table) x vs ram)
span_words h i x vs table ram pos = stored_words (place_by h i table) _ x vs ram (λ k p l e. place_low h i table (x + k) p pos e)

-- where head and page table stand for a machine
pub span_stored_lem : (m : State) (k : Memory) → Holds m k → (i x : ℕ) (vs ram : List ℕ) → SpanMapped m i x (length vs)
    → stored_at (place_by k.head i k.table) x vs ram ≡ stored m i x vs ram
span_stored_lem m k H i x vs ram on =
    stored_same (place_by k.head i k.table) (ram_at m i) x vs ram
    (λ j l.
    let t = on j l in
    let w = table_place m k H i (x + j) t.start t.frame t.is in
    rw (lt-ltb _ k.head.frames w.0) (sym w.1))
