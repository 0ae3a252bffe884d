-- How many pages are absent, one page more at each turn of the loop.
use mathlib.Core.Path.{◌≡◌, refl, sym, ap, subst}
use mathlib.Core.Bool.{false, cond}
use mathlib.Core.List.{List}
use Prim.Native.Nat.{ℕ, zero, suc, ◌+◌, ◌-◌, ◌≤◌, ◌<◌}
use native.Mathlib.Nat.{add-zero}
use native.Mathlib.Omega.{arith}
use Rattle.machine.specs.Machine.{Sizes, places, place_of, State, Page, outside, unmapped, mapped, page_of, is_outside, any_outside, is_unmapped, count_absent}
use Rattle.machine.proofs.Laws.Lookup.{Mapped, is_mapped}
use Rattle.machine.proofs.Laws.Stays.{or_false}
use Rattle.memory.specs.Memory.{Memory, memory, at}
use Rattle.memory.specs.declared.Head.{Head}
use Rattle.promise.specs.Holds.{Holds}
use Rattle.promise.specs.Shown.{resident_ok, frame_of, Shown}
use Rattle.lookup.specs.Lookup.{mapped_resident, table_frame}
use Rattle.lookup.proofs.Sights.{shown_mapped}
use Rattle.surveying.specs.Surveys.{Counted}

-- ---- the last of a span's pages

module _ (m : State) where
  outside_last : (p k : ℕ) → any_outside m p (suc k) ≡ false → (any_outside m p k ≡ false) × (is_outside (page_of m (p + k)) ≡ false)
  unfolding any_outside
  outside_last p zero e = (refl, rw add-zero (or_false _ _ e).0)
  outside_last p (suc k) e =
      let (here, rest) = or_false (is_outside (page_of m p)) _ e in
      let (before, last) = outside_last (suc p) k rest in
      let same : p + suc k ≡ suc p + k = omega arith in
      (rw here before, rw same last)

  absent_last : (p k : ℕ) → count_absent m p (suc k) ≡ count_absent m p k + is_unmapped (page_of m (p + k))
  unfolding count_absent
  absent_last p zero = omega (arith, ap (λ (q : ℕ). is_unmapped (page_of m q)) (add-zero p))
  absent_last p (suc k) =
      let same : p + suc k ≡ suc p + k = omega arith in
      omega (arith, absent_last (suc p) k, ap (λ (q : ℕ). is_unmapped (page_of m q)) same)

-- ---- one page, on honest memory

module _ (m : State) (k : Memory) (H : Holds m k) (i b : ℕ) where
  shown_there : i < m.sizes.spaces → b < m.sizes.pages → Shown k i b → is_unmapped (page_of m (place_of m.sizes i b)) ≡ 0
  shown_there s l shown = rw (shown_mapped m k H i b s l shown).1

  mapped_shown : (a f : ℕ) → Mapped m (place_of m.sizes i b) a f → Shown k i b
  mapped_shown a f is =
      let p = place_of m.sizes i b in
      let (word, below) = table_frame m k H p a f is in
      subst
      (λ (z : Sizes).
      cond (resident_ok k.count k.helper k.stack k.cache (places z) (place_of z i b)) (at k.table (place_of z i b)) z.frames < z.frames)
      (sym H.sizes_are) (rw (mapped_resident m k H p a f is) (omega arith))

  not_shown : (Shown k i b → ⊥) → is_outside (page_of m (place_of m.sizes i b)) ≡ false → is_unmapped (page_of m (place_of m.sizes i b)) ≡ 1
  not_shown hidden inside = go (page_of m (place_of m.sizes i b)) refl inside
    where
      go : (g : Page) → page_of m (place_of m.sizes i b) ≡ g → is_outside g ≡ false → is_unmapped g ≡ 1
      go outside e o = absurd (let z : ◌≡◌ {A = ℕ} 0 1 = cc in omega arith)
      go (unmapped a) e o = refl
      go (mapped a f) e o = absurd (hidden (mapped_shown a f (is_mapped m (place_of m.sizes i b) a f e)))

-- ---- the pages so far

module _ (h : Head) (i first : ℕ) (count table helper stack cache : List ℕ) where
  pub counted_none : Counted h i first first count table helper stack cache 0
  unfolding count_absent
  counted_none index link ram m H e = let none : first - first ≡ 0 = omega arith in sym (ap (count_absent m _) none)

  module _ {page absent : ℕ} (so_far : Counted h i first page count table helper stack cache absent) (low : first ≤ page) where
    -- n more are absent
    counted_next : (n : ℕ)
        → ((index link ram : List ℕ) (m : State) → Holds m (memory h index count table helper stack cache link ram)
        → is_outside (page_of m (place_of m.sizes i page)) ≡ false → is_unmapped (page_of m (place_of m.sizes i page)) ≡ n)
        → Counted h i first (page + 1) count table helper stack cache (absent + n)
    counted_next n is index link ram m H e =
        let p = place_of m.sizes i first in
        let k = page - first in
        let more : page + 1 - first ≡ suc k = omega arith in
        let here : p + k ≡ place_of m.sizes i page = omega arith in
        let (before, last) = outside_last m p k (rw more at e) in
        omega (
          arith,
          so_far index link ram m H before,
          is index link ram m H (rw here at last),
          absent_last m p k,
          ap (count_absent m p) more,
          ap (λ (q : ℕ). is_unmapped (page_of m q)) here,
        )

    module _ {f : ℕ} (is : f ≡ frame_of h i page count table helper stack cache) where
      pub counted_resident : i < h.spaces → page < h.pages → f < h.frames → Counted h i first (page + 1) count table helper stack cache absent
      counted_resident space inside below =
          let shown : frame_of h i page count table helper stack cache < h.frames = omega (arith, is) in
          let same : absent + 0 ≡ absent = omega arith in
          rw same at
          (counted_next 0
          (λ index link ram m H _.
          shown_there m (memory h index count table helper stack cache link ram) H i page
          (subst (λ (z : Sizes). i < z.spaces) H.sizes_are space)
          (subst (λ (z : Sizes). page < z.pages) H.sizes_are inside)
          shown))

      pub counted_absent : h.frames ≤ f → Counted h i first (page + 1) count table helper stack cache (absent + 1)
      counted_absent above =
          counted_next 1
          (λ index link ram m H. not_shown m (memory h index count table helper stack cache link ram) H i page (λ shown. omega (arith, is)))
