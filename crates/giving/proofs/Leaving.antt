-- The steps of a page that leaves, by what was read before them.
use mathlib.Core.Path.{◌≡◌, refl, sym, ◌∙◌, subst}
use mathlib.Core.Bool.{Bool, true, false}
use mathlib.Core.List.{List}
use Prim.Native.Nat.{ℕ, ◌-◌, ◌<◌}
use native.Mathlib.Omega.{arith}
use Rattle.std.specs.Prelude.{Result, Ok}
use Rattle.refusals.specs.declared.Refusal.TheVariants.{Damaged}
use Rattle.memory.specs.Memory.{at}
use Rattle.memory.specs.declared.Head.{Head}
use Rattle.memory.specs.declared.Out.{Out}
use Rattle.refusals.specs.declared.Refusal.{Refusal}
use Rattle.giving.specs.Models.{leave_ok_at, leave_ok, refused_out}
use Rattle.giving.specs.Fits.{Seated, Leavable, Leaves, HandedIf, Handed}
use Rattle.giving.proofs.Giving.{leave_says}

-- ---- the page at place p, of the region at a, found resident

module _ (h : Head) (t p : ℕ) (count table helper stack cache link : List ℕ) (s : Seated h t p count table helper stack cache link) (a : ℕ)
    (ea : a ≡ at cache p) where
  abbrev i : ℕ
  i = at helper p

  abbrev n : ℕ
  n = at count a - 1

  -- it stands below the region's count
  below : at helper p < at count a
  below = rw ea s.agrees.below_count

  -- what the test says, of the positions as the code has them
  module _ (x : Bool) (i' n' : ℕ) (ei : i' ≡ at helper p) (en : n' ≡ at count a - 1) (tested : x ≡ leave_ok_at h table stack t a i' n') where
    test_is : leave_ok h count table helper stack cache t p ≡ x
    test_is = rw (← ea, ← ei, ← en) (sym tested)

    pub can_leave : x ≡ true → Leavable h count table helper stack link a (at helper p) (at count a - 1) p
    can_leave e =
        let f = leave_says h table stack t a i n (rw (← ei, ← en) (sym tested ∙ e)) in
        let k = s.tabled in
        let l = s.link_long in
        record {
          in_table = omega (arith, k.inside, s.table_long);
          start = omega (arith, f.top, k.count_long);
          position = omega (arith, below);
          top = omega (arith, f.top, k.stack_long);
          newest = omega (arith, f.newest.place, s.table_long);
          newest_helper = omega (arith, f.newest.place, k.helper_long);
          mends =
              record {
                frame = omega (arith, s.frame, l);
                newest = omega (arith, f.newest.frame, l);
                small = omega (arith, f.top, k.few);
                on_stack = λ q. omega (arith, f.top, k.stack_long);
                neighbour = λ q. omega (arith, (f.neighbour q).place, s.table_long);
                next = λ q. omega (arith, (f.neighbour q).frame, l);
              };
          room = omega (arith, f.room, s.few);
        }

    pub handed_no : x ≡ false → (r : Out (Result (Unit {0}) Refusal)) → r ≡ refused_out h Damaged → Handed h count table helper stack cache link t p r count helper stack link
    handed_no e r is =
        subst (λ (b : Bool). HandedIf b h count table helper stack cache link p r count helper stack link) (sym (test_is ∙ e))
        (record { out_is = is; count_is = refl; helper_is = refl; stack_is = refl; link_is = refl })

    pub handed_yes : x ≡ true → (r : Head) (count' helper' stack' link' : List ℕ)
        → Leaves h count table helper stack link a (at helper p) (at count a - 1) p r count' helper' stack' link'
        → Handed h count table helper stack cache link t p (record { head = r; answer = Ok tt }) count' helper' stack' link'
    handed_yes e r count' helper' stack' link' left =
        subst (λ (b : Bool). HandedIf b h count table helper stack cache link p (record { head = r; answer = Ok tt }) count' helper' stack' link')
        (sym (test_is ∙ e)) (refl, rw ea at left)
