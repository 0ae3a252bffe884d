-- A read that looks every page of its span up first, ascending, keeps the promise.
use Rattle.std.specs.Prelude.{Result, Ok, Err}
use Rattle.refusals.specs.Refusals.{number, refusal}
use Rattle.refusals.specs.declared.Refusal.{Refusal}
use Rattle.refusals.proofs.Laws.{not_none}
use Rattle.spans.specs.Spans.{frame_seen, absence_of}
use Rattle.machine.specs.declared.RefusedAfter.{RefusedAfter}
use Rattle.std.proofs.Math.Path.{◌≡◌, refl, ap}
use Rattle.std.proofs.Common.{sym, ap₂, ◌∙◌, subst, zero-add, add-zero, suc-add, add-suc}
use mathlib.Core.List.{List}
use Prim.Native.Nat.{ℕ, zero, suc, ◌+◌, ◌-◌, ◌/◌, ◌≤◌, ◌<◌}
use Rattle.std.proofs.Math.Nat.{sub_self}
use native.Mathlib.Omega.{arith}
use Rattle.std.specs.Prelude.{length}
use Rattle.machine.specs.declared.PageCall.TheVariants.{Look}
use Rattle.machine.specs.Machine.{Sizes, place_of, page_of_address, span_pages, State, page_of, look, read, asked, bytes, refused, tell, absence, or_else}
use Rattle.machine.specs.Machine.{first_absence, span_absence, read_if, accepted}
use Rattle.machine.proofs.Laws.Sizes.{fit, some_bytes}
use Rattle.machine.proofs.Laws.Shows.{in_pages}
use Rattle.machine.specs.Answers.{looked_says}
use Rattle.machine.specs.declared.Looked.{Looked}
use Rattle.machine.specs.declared.Looked.TheVariants.{Resident, Absent}
use Rattle.memory.specs.Memory.{Memory, sizes_of, lengths}
use Rattle.promise.specs.Holds.{Holds}
use Rattle.promise.specs.Did.{Did}
use Rattle.promise.specs.Filled.{ReadDid}
use Rattle.laws.specs.Models.{check_of}
use Rattle.laws.specs.Spans.{span_inside, read_lengths}
use Rattle.laws.specs.SpanChecks.{Reached, read_check, read_reached, span_page}
use Rattle.laws.specs.Found.{looked_later, Found, page_found, residence, RefusedAs, refused_later, refused_is}
use Rattle.laws.specs.Passing.{page_passes}
use Rattle.laws.specs.Told.{from_four, early_refused, told_did, told_refused}
use Rattle.laws.specs.Parts.{OnResident, CopiedOut}

-- ---- the first absence, page by page

or_else_later : (a b c : ℕ) → or_else a (or_else b c) ≡ or_else (or_else a b) c
or_else_later zero b c = refl
or_else_later (suc a) b c = refl

or_else_none : (a : ℕ) → or_else a 0 ≡ a
or_else_none zero = refl
or_else_none (suc a) = refl

first_absence_add : (m : State) (p a b : ℕ) → first_absence m p (a + b) ≡ or_else (first_absence m p a) (first_absence m (p + a) b)
unfolding first_absence
first_absence_add m p zero b = rw (zero-add, add-zero)
first_absence_add m p (suc a) b =
    rw (suc-add, add-suc p a, ← suc-add p a)
    (ap (or_else (absence (page_of m p))) (first_absence_add m (suc p) a b) ∙ or_else_later (absence (page_of m p)) _ _)

-- one page more, and the first that isn't resident
first_absence_next : (m : State) (p a : ℕ) → first_absence m p a ≡ 0 → first_absence m p (a + 1) ≡ absence (page_of m (p + a))
unfolding first_absence
first_absence_next m p a e = first_absence_add m p a 1 ∙ ap (λ (n : ℕ). or_else n (first_absence m (p + a) 1)) e ∙ or_else_none _

first_absence_stops : (m : State) (p a c n : ℕ) → a < c → first_absence m p (a + 1) ≡ n → 4 ≤ n → first_absence m p c ≡ n
first_absence_stops m p a c zero l e low = absurd (omega arith)
first_absence_stops m p a c (suc n) l e low =
    ap (first_absence m p) (let s : c ≡ a + 1 + (c - (a + 1)) = omega arith in s)
    ∙ first_absence_add m p (a + 1) (c - (a + 1))
    ∙ ap (λ (r : ℕ). or_else r (first_absence m (p + (a + 1)) (c - (a + 1)))) e

-- no absence among n pages is none among the first j
first_absence_front : (m : State) (p n j : ℕ) → first_absence m p n ≡ 0 → j ≤ n → first_absence m p j ≡ 0
first_absence_front m p n j e l =
    none_before (first_absence m p j) _
    (sym (first_absence_add m p j (n - j)) ∙ ap (first_absence m p) (let s : j + (n - j) ≡ n = omega arith in s) ∙ e)
  where
    none_before : (a b : ℕ) → or_else a b ≡ 0 → a ≡ 0
    none_before zero b e = refl
    none_before (suc a) b e = e

resident_at : (m : State) (p n j : ℕ) → first_absence m p n ≡ 0 → j < n → absence (page_of m (p + j)) ≡ 0
resident_at m p n j e l =
    sym (first_absence_next m p j (first_absence_front m p n j e (omega arith))) ∙ first_absence_front m p n (j + 1) e (omega arith)

-- ---- pages looked up one after another

-- on honest memory the pages of space i from page a to before page b are resident
abbrev pub ResidentTo : Memory → ℕ → ℕ → ℕ → Type 0
ResidentTo k i a b = (m : State) → Holds m k → first_absence m (place_of m.sizes i a) (b - a) ≡ 0

module _ (k : Memory) (i a : ℕ) where
  pub resident_none : ResidentTo k i a a
  unfolding first_absence
  resident_none m h = ap (first_absence m (place_of m.sizes i a)) (sub_self a)

  module _ (b : ℕ) (l : a ≤ b) (before : ResidentTo k i a b) (passes : asked (sizes_of k.head) (look i b (lengths k)) ≡ 0)
      (found : Result Looked RefusedAfter) (looked : Did (look i b) k (looked_says found) k) where
    -- the page after them, as it was found
    next_is : (m : State) → Holds m k → (n : ℕ) → absence (page_of m (place_of m.sizes i b)) ≡ n → first_absence m (place_of m.sizes i a) (b - a + 1) ≡ n
    next_is m h n e =
        first_absence_next m (place_of m.sizes i a) (b - a) (before m h)
        ∙ ap (λ (q : ℕ). absence (page_of m q)) (let c : place_of m.sizes i a + (b - a) ≡ place_of m.sizes i b = omega arith in c)
        ∙ e

    found_is : (m : State) → Holds m k → Found m (place_of m.sizes i b) found
    found_is m h = page_found m k h i b passes found looked

    pub resident_more : (f : ℕ) → found ≡ Ok (Resident f) → ResidentTo k i a (b + 1)
    resident_more f e m h =
        ap (first_absence m (place_of m.sizes i a)) (let c : b + 1 - a ≡ b - a + 1 = omega arith in c)
        ∙ next_is m h 0 (ap absence (residence m _ f (subst (Found m _) e (found_is m h))).is)

    pub stopped_at : (n c : ℕ) → RefusedAs found n → 4 ≤ n → b < a + c → (m : State) → Holds m k → first_absence m (place_of m.sizes i a) c ≡ n
    stopped_at n c e low t m h = first_absence_stops m _ (b - a) c n (omega arith) (next_is m h n (refused_is m _ found n e (found_is m h)).0) low

-- ---- what `frame_seen` makes of a look's answer

pub seen_refused : (found : Result Looked RefusedAfter) {e : Refusal} → Err e ≡ frame_seen found → RefusedAs found (absence_of found)
seen_refused (Ok (Resident f)) is = absurd (let z : ◌≡◌ {A = ℕ} 0 1 = cc in omega arith)
seen_refused (Ok (Absent w)) is = refl
seen_refused (Err x) is = refl

pub seen_frame : (found : Result Looked RefusedAfter) (f : ℕ) → Ok f ≡ frame_seen found → found ≡ Ok (Resident f)
seen_frame (Ok (Resident g)) f is = let same : f ≡ g = cc in rw same
seen_frame (Ok (Absent w)) f is = absurd (let z : ◌≡◌ {A = ℕ} 0 1 = cc in omega arith)
seen_frame (Err x) f is = absurd (let z : ◌≡◌ {A = ℕ} 0 1 = cc in omega arith)

-- ---- the promise

module _ (i x : ℕ) (k : Memory) (buffer : List ℕ) (r : ℕ) (checked : r ≡ check_of k.head (read_lengths k) i (span_inside k.head x (length buffer))) where
  pub read_early : (e : Refusal) → number e ≡ r → ReadDid i x k (Err e) buffer buffer
  read_early e is =
      record {
        did = early_refused (read i x (length buffer)) k (number e) (is ∙ checked ∙ read_check k i x (length buffer)) (not_none e);
        kept = λ _ _. refl;
      }

  module _ (passed : r ≡ 0) where
    abbrev z : Sizes
    z = sizes_of k.head

    passes : asked z (read i x (length buffer) (lengths k)) ≡ 0
    passes = sym (checked ∙ read_check k i x (length buffer)) ∙ passed

    reached : Reached z i x (length buffer) (lengths k)
    reached = read_reached z i x (lengths k) (length buffer) passes

    -- first and count are those of the span's pages
    module _ (first count : ℕ) (first_is : first ≡ x / z.page) (count_is : count ≡ span_pages z x (length buffer)) where
      absence_is : (m : State) → Holds m k → (n : ℕ) → first_absence m (place_of m.sizes i first) count ≡ n → span_absence m i x (length buffer) ≡ n
      absence_is m h n e =
          subst (λ (z : Sizes). first_absence m (place_of m.sizes i (x / z.page)) (span_pages z x (length buffer)) ≡ n) h.sizes_are
          (sym (ap₂ (λ (a c : ℕ). first_absence m (place_of m.sizes i a) c) first_is count_is) ∙ e)

      pub read_stopped : (b : ℕ) → first ≤ b → b < first + count → ResidentTo k i first b → (found : Result Looked RefusedAfter) → Did (look i b) k (looked_says found) k
          → (out : Result (Unit {0}) Refusal) → RefusedAs found (refusal out) → ReadDid i x k out buffer buffer
      unfolding accepted
      read_stopped b l t before found looked out e =
          let n = refusal out in
          let p = span_page z x (length buffer) b reached.sizes_ok_lem reached.ends (omega arith) (omega arith) in
          let look_passes = page_passes z Look i b (lengths k) reached.sizes_ok_lem reached.space p reached.lent in
          let later = looked_later i b k _ look_passes looked in
          let given = refused_later z i b (lengths k) found n e later in
          let low = from_four _ _ _ n (omega arith) (omega arith) (omega arith) given in
          record {
            did =
                rw (told_refused (λ _. bytes buffer) out (λ none. omega arith))
                (told_did (read i x (length buffer)) k (refused n) passes (given, refl) (tt, tt)
                (λ m h.
                ap (λ (c : ℕ). tell m (read_if m i x (length buffer) c))
                (absence_is m h n (stopped_at k i first b l before look_passes found looked n count e low t m h))
                ∙ ap (tell m) (read_refused m n low)));
            kept = λ _ _. refl;
          }
        where
          read_refused : (m : State) (n : ℕ) → 4 ≤ n → read_if m i x (length buffer) n ≡ refused n
          read_refused m zero l = absurd (omega arith)
          read_refused m (suc n) l = refl

      pub read_copied : (b : ℕ) → b ≡ first + count → ResidentTo k i first b → (buffer' : List ℕ) → CopiedOut k i x (length buffer) buffer'
          → ReadDid i x k (Ok tt) buffer buffer'
      unfolding accepted
      read_copied b last all buffer' copied =
          record {
            did =
                told_did (read i x (length buffer)) k (bytes buffer') passes refl (tt, tt)
                (λ m h.
                let none = absence_is m h 0
                (subst (λ (c : ℕ). first_absence m (place_of m.sizes i first) c ≡ 0) (let s : b - first ≡ count = omega arith in s) (all m h)) in
                ap (λ (c : ℕ). tell m (read_if m i x (length buffer) c)) none ∙ ap (λ (bs : List ℕ). tell m (bytes bs))
                (sym (copied m h (on_resident m h none))));
            kept = λ e is. absurd (let q : ◌≡◌ {A = ℕ} 0 1 = cc in omega arith);
          }
        where
          on_resident : (m : State) → Holds m k → span_absence m i x (length buffer) ≡ 0 → OnResident m i x (length buffer)
          on_resident m h none j l =
              let g = in_pages m.sizes i x (length buffer) (x + j) (some_bytes m.sizes (fit m.sizes h.sound.sizes_ok_lem)) (omega arith)
              (omega arith) in
              ap (λ (q : ℕ). absence (page_of m q)) (sym g.2) ∙ resident_at m (page_of_address m.sizes i x) (span_pages m.sizes x (length buffer))
              g.0 none g.1
