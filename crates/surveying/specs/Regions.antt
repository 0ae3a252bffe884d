-- Pages without a region lie below all starts of their space: the first page of a span tells for all.
use Rattle.std.specs.Prelude.{◌≡◌, refl, Bool, true, ◌||◌, List, get_or}
use Rattle.std.proofs.Common.{sym, ap, ◌∙◌}
use Rattle.std.proofs.Math.Bool.{false}
use Rattle.std.proofs.Math.Option.{Option, none, some}
use Prim.Native.Nat.{ℕ, zero, suc, ◌+◌, ◌*◌, ◌/◌, ◌≤◌, ◌<◌}
use Rattle.std.proofs.Math.Arith.{digits_div}
use Rattle.std.proofs.Math.Decide.{ℕ_discrete}
use native.Mathlib.Omega.{arith}
use Rattle.machine.specs.Machine.{place_of, State, start_in, start_of, page_at, page_of, is_outside, any_outside}
use Rattle.machine.proofs.Laws.Regions.{owner_of, is_owner, own_start}
use Rattle.machine.proofs.Laws.Stays.{no_start, outside_by_start}

-- the page after one with a region has one, if it lies in the same space: the same, or its own
next_region : (n : ℕ) (starts : List Bool) (p a : ℕ) → suc p / n ≡ p / n → start_in n starts p ≡ some a → (c : ℕ) × (start_in n starts (suc p) ≡ some c)
next_region n starts p a same e = go (get_or starts (suc p) false) refl
  where
    go : (t : Bool) → get_or starts (suc p) false ≡ t → (c : ℕ) × (start_in n starts (suc p) ≡ some c)
    go true s = (suc p, own_start n starts (suc p) s)
    go false s =
        let o = owner_of n starts p a e in (
          a,
          is_owner n starts (suc p) a
              (record {
                in_space = rw same o.in_space;
                at_most = omega (arith, o.at_most);
                start = o.start;
                clear = λ k g h. elim (ℕ_discrete k (suc p)) [
                  | yes is ↦ rw is s
                  | no other ↦ o.clear k g (omega arith)
                ];
              }),
        )

first_tells : (x y : Bool) → (x ≡ false → y ≡ false) → x || y ≡ x
first_tells true y f = refl
first_tells false y f = f refl

module _ (m : State) where
  has_region : (p : ℕ) → is_outside (page_of m p) ≡ false → (a : ℕ) × (start_of m p ≡ some a)
  has_region p e = go (start_of m p) refl e
    where
      go : (o : Option ℕ) → start_of m p ≡ o → is_outside (page_at m.held p o) ≡ false → (a : ℕ) × (start_of m p ≡ some a)
      go none s e = absurd (let z : ◌≡◌ {A = ℕ} 0 1 = cc in omega arith)
      go (some a) s e = (a, s)

  in_region : (p a : ℕ) → start_of m p ≡ some a → is_outside (page_of m p) ≡ false
  in_region p a s = outside_by_start m.held p (start_of m p) ∙ ap no_start s

  next_inside : (i b : ℕ) → suc b < m.sizes.pages → is_outside (page_of m (place_of m.sizes i b)) ≡ false
      → is_outside (page_of m (suc (place_of m.sizes i b))) ≡ false
  next_inside i b l e =
      let n = m.sizes.pages in
      let p = place_of m.sizes i b in
      let here : p / n ≡ i = digits_div i {m = n} (omega arith) in
      let next : suc p ≡ i * n + suc b = omega arith in
      let there : suc p / n ≡ i = ap (λ (q : ℕ). q / n) next ∙ digits_div i {m = n} l in
      let (a, s) = has_region p e in
      let (c, t) = next_region n m.starts p a (there ∙ sym here) s in
      in_region (suc p) c t

  -- one page after another of the same space
  pub outside_first : (i b n : ℕ) → 0 < n → b + n ≤ m.sizes.pages
      → any_outside m (place_of m.sizes i b) n ≡ is_outside (page_of m (place_of m.sizes i b))
  unfolding any_outside
  outside_first i b zero pos l = absurd (omega arith)
  outside_first i b (suc zero) pos l = first_tells _ false (λ _. refl)
  outside_first i b (suc (suc n)) pos l =
      let p = place_of m.sizes i b in
      let next : suc p ≡ place_of m.sizes i (suc b) = omega arith in
      let rest : any_outside m (suc p) (suc n) ≡ is_outside (page_of m (suc p)) = rw next (outside_first i (suc b) (suc n) (omega arith) (omega arith)) in
      first_tells (is_outside (page_of m p)) _ (λ e. rest ∙ next_inside i b (omega arith) e)
