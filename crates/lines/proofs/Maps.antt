-- In a session the line `map` is never refused with 13: whatever lines came before it, the longest map has room for the state's own.
use Rattle.std.specs.Prelude.{◌≡◌, refl, Bool, true, false, not, ◌&&◌, List, ◌⊎◌, leb, length, Some, None}
use Rattle.std.proofs.Common.{sym, ap, ◌∙◌, subst, inl, inr, mul-le-mul, arith, leb-true, le-leb, pow_mono}
use Rattle.std.proofs.lemmas.Bool.{false≢true}
use Rattle.std.proofs.Math.Option.{none}
use Prim.Native.Nat.{ℕ, zero, suc, ◌*◌, ◌≤◌}
use Rattle.machine.specs.Machine.{Sizes, sizes, sizes_ok, State, unstarted, begun, Lent, lends, stacks_and_link, Call as MachineCall, start, write_map}
use Rattle.machine.specs.Machine.{facts, lent_ok, first_refusal, asked, refusal, unless, map_if, accepted, step, Answer, answer, after, map_file, refused}
use Rattle.machine.specs.Map.{map_of}
use Rattle.machine.specs.Claims.{Sound}
use Rattle.machine.proofs.Laws.Sizes.{both, Fit, fit}
use Rattle.machine.proofs.Laws.Kept.{sound_begun}
use Rattle.machine.proofs.Laws.Calls.{step_sound, sizes_kept}
use Rattle.machine.proofs.Laws.Map.Length.{map_length}
use Rattle.fields.specs.Fields.{begins}
use Rattle.requests.specs.declared.Request.{Request}
use Rattle.requests.specs.declared.Request.TheVariants.{Start, Page, Free, Translate, Read, Write, List as Listing, WriteMap, ReadMap}
use Rattle.parsing.specs.Grammar.{Line, map_word, longest_map, parsed}
use Rattle.parsing.specs.Laws.{lined}
use Rattle.printing.specs.Text.{text}
use Rattle.ahead.specs.Ahead.{beyond}
use Rattle.lines.specs.Session.{line_call, answered_call, answered_as, answered}
use Rattle.lines.specs.Maps.{Within, InSession}

pub first_in : (ram : List ℕ) → InSession (unstarted ram)
unfolding sizes_ok
first_in ram = inl refl

-- a start that isn't beyond the limits
within : (s n f p : ℕ) → beyond (Start s n f p) ≡ false → Within (sizes s n f p)
within s n f p e =
    let b = both (leb (s * n) 1024) (leb (f * p) 32768) (held (leb (s * n) 1024 && leb (f * p) 32768) e) in
    record { few_places = leb-true (s * n) 1024 b.0; few_bytes = leb-true (f * p) 32768 b.1 }
  where
    held : (t : Bool) → not t ≡ false → t ≡ true
    held true e = refl
    held false e = absurd (false≢true (sym e))

-- ---- one line after another

begun_in : (z : Sizes) (ram : List ℕ) → Within z → InSession (begun z ram)
begun_in z ram w = go (sizes_ok z) refl
  where
    go : (t : Bool) → sizes_ok z ≡ t → InSession (begun z ram)
    go true e = inr (sound_begun z ram e, w)
    go false e = inl e

module _ (m : State) (i : InSession m) where
  -- a call that begins no state
  kept_in : (c : MachineCall) → (facts c).begins ≡ none → InSession (after m c)
  kept_in c is = go i
    where
      go : InSession m → InSession (after m c)
      go (inl e) = inl (ap sizes_ok (sizes_kept m c is) ∙ e)
      go (inr x) = inr (step_sound m c x.0, subst Within (sym (sizes_kept m c is)) x.1)

  start_in_lem : (z : Sizes) (l : Lent) → Within z → InSession (after m (start z l))
  unfolding step accepted
  start_in_lem z l w = go (asked m.sizes (start z l))
    where
      go : (j : ℕ) → InSession (unless (refusal (start z l)) j m (accepted m (start z l))).after
      go zero = begun_in z m.ram w
      go (suc j) = i

  call_in : (line : List ℕ) (l : Lent) (q : Request) (n : ℕ) → parsed line ≡ Some (q, n) → beyond q ≡ false → InSession (after m (line_call q n line l))
  call_in line l (Start s p f b) n e under = start_in_lem (sizes s p f b) l (within s p f b under)
  call_in line l (Page p j b) n e under = kept_in _ refl
  call_in line l Free n e under = kept_in _ refl
  call_in line l (Translate j x) n e under = kept_in _ refl
  call_in line l (Read j x) n e under = kept_in _ refl
  call_in line l (Write j x) n e under = kept_in _ refl
  call_in line l (Listing j) n e under = kept_in _ refl
  call_in line l WriteMap n e under = kept_in _ refl
  call_in line l ReadMap n e under = absurd (lined line ReadMap n e)

  -- whatever the line
  pub line_in : (line : List ℕ) (l : Lent) → InSession (answered line l m).after
  line_in line l = go (parsed line) refl
    where
      made : (q : Request) (n : ℕ) → parsed line ≡ Some (q, n) → (t : Bool) → beyond q ≡ t → InSession (answered_call q n line l m t).after
      made q n e true over = i
      made q n e false under = call_in line l q n e under

      go : (x : Line) → parsed line ≡ x → InSession (answered_as x line l m).after
      go None e = i
      go (Some (q, n)) e = made q n e (beyond q) refl

-- ---- the map

-- a frame has at least 256 bytes, so there are at most 128
few_frames : (z : Sizes) → Fit z → Within z → z.frames ≤ 128
few_frames z f w =
    let least : 256 ≤ z.page = rw f.page_is (pow_mono {i = 8} {j = f.shift} f.least_shift) in
    omega (arith, mul-le-mul {n₁ = z.frames} {m₁ = 256} {n₂ = z.frames} {m₂ = z.page} (omega arith) least, w.few_bytes)

pub map_fits : (m : State) → Sound m → Within m.sizes → length (map_of m) ≤ longest_map
map_fits m s w =
    let f = fit m.sizes s.sizes_ok_lem in
    omega (arith, map_length m s, f.few_spaces, w.few_places, few_frames m.sizes f w)

map_answer : (m : State) (l : Lent) → InSession m
    → (answer m (write_map longest_map l) ≡ refused 1) ⊎ (answer m (write_map longest_map l) ≡ map_file (map_of m))
unfolding step asked accepted
map_answer m l i = go (lent_ok m.sizes (lends stacks_and_link l)) refl i
  where
    told : Bool → Answer
    told t = (unless (refusal (write_map longest_map l)) (first_refusal t true true) m (accepted m (write_map longest_map l))).answer

    go : (t : Bool) → lent_ok m.sizes (lends stacks_and_link l) ≡ t → InSession m → (told t ≡ refused 1) ⊎ (told t ≡ map_file (map_of m))
    go false e i = inl refl
    go true e (inl unsized) = absurd (false≢true (sym unsized ∙ (both (sizes_ok m.sizes) _ e).0))
    go true e (inr x) = inr (ap (map_if (map_of m)) (le-leb (length (map_of m)) longest_map (map_fits m x.0 x.1)))

-- so the line is answered with the map, or with 1 before a start or where the tables are too short
pub map_told : (m : State) (l : Lent) → InSession m
    → ((answered map_word l m).answer_text ≡ text (refused 1)) ⊎ ((answered map_word l m).answer_text ≡ text (map_file (map_of m)))
unfolding parsed begins
map_told m l i = go (map_answer m l i)
  where
    go : (answer m (write_map longest_map l) ≡ refused 1) ⊎ (answer m (write_map longest_map l) ≡ map_file (map_of m))
        → ((answered map_word l m).answer_text ≡ text (refused 1)) ⊎ ((answered map_word l m).answer_text ≡ text (map_file (map_of m)))
    go (inl e) = inl (ap text e)
    go (inr e) = inr (ap text e)
