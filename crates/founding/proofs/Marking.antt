-- Starts put into the index, one after another.
use mathlib.Core.Path.{◌≡◌, refl, sym, ap, ◌∙◌, subst}
use mathlib.Core.Bool.{Bool, true, false, cond, ◌&&◌}
use mathlib.Core.List.{List, [], ◌∷◌, ◌++◌, map-append, append-nil, append_assoc}
use Prim.Native.Nat.{ℕ, zero, suc, ◌+◌, ◌*◌, ◌≤◌, ◌<◌}
use native.Mathlib.Omega.{arith}
use borrow.Author.Tests.{lt-ltb}
use lib.Dec.{leb, ltb}
use lib.ListN.{length, get_or, drop}
use lib.Seq.{slice}
use Rattle.sequence.specs.Lists.{each_left, each_right}
use Rattle.places.specs.Places.{put, adding, size}
use Rattle.extent.specs.Checks.{places_ok, check_size, check}
use Rattle.index.specs.Words.{IndexOf}
use Rattle.index.specs.Promise.{Put}
use Rattle.index.specs.Laws.{index_front}
use Rattle.std.specs.Prelude.{Result}
use Rattle.refusals.specs.declared.Refusal.{Refusal}
use Rattle.machine.specs.Map.{Block, blocks_in, part_in, whole_from}
use Rattle.distinct.specs.Laws.{adding_append}
use Rattle.walking.specs.Regions.{Walked, walked_none, walked_all, here, walked_more}
use Rattle.founding.specs.Founding.{starts_of, starts_in, Marked}

-- ---- the set with more places

marked_none : (t : ℕ) (ws : List ℕ) → Marked t [] ws ws
unfolding adding
marked_none t ws = record { excess = refl; size = refl; after = λ room low s i. i }

marked_more : {t : ℕ} (ps qs : List ℕ) {ws ws₁ ws₂ : List ℕ} → Marked t ps ws ws₁ → Marked t qs ws₁ ws₂ → Marked t (ps ++ qs) ws ws₂
marked_more {t} ps qs {ws} {ws₁} {ws₂} a b =
    record {
      excess = b.excess ∙ a.excess;
      size = b.size ∙ a.size;
      after = λ room low s i.
          subst (λ (u : ℕ → Bool). IndexOf t u ws₂) (sym (adding_append s ps qs))
          (b.after (ap (λ (n : ℕ). check_size n t) a.size ∙ room) (each_right 0 (λ p. p < t) ps qs low) (adding s ps)
          (a.after room (each_left 0 (λ p. p < t) ps qs low) s i));
    }

check_is : (len t p : ℕ) → check_size len t ≡ 0 → p < t → check len t p ≡ 0
unfolding check check_size
check_is len t p h l = go (places_ok t && leb (size t) len) h
  where
    go : (b : Bool) → ◌≡◌ {A = ℕ} (cond b 0 1) 0 → ◌≡◌ {A = ℕ} (cond b (cond (ltb p t) 0 3) 1) 0
    go true h = rw (lt-ltb p t l) refl
    go false h = absurd (omega arith)

marked_one : {t p : ℕ} {ws ws' : List ℕ} {a : Result (Unit {0}) Refusal} → Put true t p ws a ws' → Marked t (p ∷ []) ws ws'
unfolding adding
marked_one {t} {p} {ws} {ws'} x =
    record {
      excess = x.excess;
      size = x.few.size;
      after = λ room low s i.
          index_front t (put s p true) ws' (drop (size t) ws) (x.changed s i (check_is (length ws) t p room (low 0 (omega arith))));
    }

-- ---- a space more

module _ (pages : ℕ) (ws : List ℕ) where
  starts_last : (j n : ℕ) → starts_in pages ws j (suc n) ≡ starts_in pages ws j n ++ starts_of ((j + n) * pages) (blocks_in (part_in ws (j + n)))
  unfolding starts_in
  starts_last j zero =
      let same : j ≡ j + 0 = omega arith in
      append-nil (starts_of (j * pages) (blocks_in (part_in ws j))) ∙ ap (λ (i : ℕ). starts_of (i * pages) (blocks_in (part_in ws i))) same
  starts_last j (suc n) =
      let same : suc j + n ≡ j + suc n = omega arith in
      ap (λ (xs : List ℕ). starts_of (j * pages) (blocks_in (part_in ws j)) ++ xs)
      (starts_last (suc j) n ∙ ap (λ (i : ℕ). starts_in pages ws (suc j) n ++ starts_of (i * pages) (blocks_in (part_in ws i))) same)
      ∙ sym (append_assoc (starts_of (j * pages) (blocks_in (part_in ws j))) (starts_in pages ws (suc j) n)
      (starts_of ((j + suc n) * pages) (blocks_in (part_in ws (j + suc n)))))

  starts_next : (i : ℕ) → starts_in pages ws 0 (i + 1) ≡ starts_in pages ws 0 i ++ starts_of (i * pages) (blocks_in (part_in ws i))
  starts_next i =
      let one : i + 1 ≡ suc i = omega arith in
      let same : 0 + i ≡ i = omega arith in
      ap (starts_in pages ws 0) one ∙ starts_last 0 i ∙ ap (λ (j : ℕ). starts_in pages ws 0 i ++ starts_of (j * pages) (blocks_in (part_in ws j))) same

  -- no space yet, and a space more
  pub no_space_marked : (t : ℕ) (index : List ℕ) → Marked t (starts_in pages ws 0 0) index index
  unfolding starts_in
  no_space_marked t index = marked_none t index

  pub space_marked : {t : ℕ} {index index₁ index₂ : List ℕ} (i : ℕ) → Marked t (starts_in pages ws 0 i) index index₁
      → Marked t (starts_of (i * pages) (blocks_in (part_in ws i))) index₁ index₂ → Marked t (starts_in pages ws 0 (i + 1)) index index₂
  space_marked {t} {index} {index₁} {index₂} i a b =
      subst (λ (ps : List ℕ). Marked t ps index index₂) (sym (starts_next i))
      (marked_more (starts_in pages ws 0 i) (starts_of (i * pages) (blocks_in (part_in ws i))) a b)

-- ---- the loop over a body's regions

pub record Marking (t lo : ℕ) (ws : List ℕ) (first to : ℕ) (index₀ : List ℕ) (at : ℕ) (index : List ℕ) : Type 0 where
  pub walked : Walked ws first to at
  pub marked : Marked t (starts_of lo walked.done) index₀ index

pub begin_marking : (t lo : ℕ) (ws : List ℕ) (first to : ℕ) (index : List ℕ) → first ≤ to → whole_from 0 (slice first to ws) ≡ true
    → Marking t lo ws first to index first index
begin_marking t lo ws first to index l w = record { walked = walked_none ws first to l w; marked = marked_none t index }

module _ {t lo : ℕ} {ws : List ℕ} {first to : ℕ} {index₀ : List ℕ} {at : ℕ} {index : List ℕ} (x : Marking t lo ws first to index₀ at index) where
  pub body_marked : to ≤ at → Marked t (starts_of lo (blocks_in (slice first to ws))) index₀ index
  body_marked h = subst (λ (bs : List Block). Marked t (starts_of lo bs) index₀ index) (sym (walked_all x.walked h)) x.marked

  pub region_marked : (long : to ≤ length ws) (some : at < to) (s n : ℕ) → s ≡ get_or ws at 0 → n ≡ get_or ws (at + 2) 0
      → {a : Result (Unit {0}) Refusal} {index' : List ℕ} → Put true t (lo + s) index a index' → Marking t lo ws first to index₀ (at + (3 + 2 * n)) index'
  region_marked long some s n s-is n_is {a} {index'} p =
      let b = here ws x.walked long some in
      let start : lo + s ≡ lo + b.start = ap (λ (i : ℕ). lo + i) s-is in
      record {
        walked = walked_more ws x.walked long some n n_is;
        marked =
            subst (λ (ps : List ℕ). Marked t ps index₀ index') (sym (map-append (λ (c : Block). lo + c.start) x.walked.done (b ∷ [])))
            (marked_more (starts_of lo x.walked.done) ((lo + b.start) ∷ []) x.marked
            (subst (λ (q : ℕ). Marked t (q ∷ []) index index') start (marked_one p)));
      }
