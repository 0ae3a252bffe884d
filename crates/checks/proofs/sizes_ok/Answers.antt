-- Each test is one part of `sizes_ok`; that of the places is two, with the pages'.
use mathlib.Core.Path.{◌≡◌, sym, ◌∙◌, ap}
use mathlib.Core.Bool.{Bool, true, false, ◌&&◌}
use Prim.Native.Nat.{◌*◌}
use lib.Dec.{leb}
use Rattle.sequence.specs.Tests.{failed, held}
use Rattle.machine.specs.Machine.{sizes_ok, between}
use Rattle.checks.specs.Shifts.{page_shift, pages_by_places}
use Rattle.checks.proofs.sizes_ok.Goals as goal
use Rattle.checks.proofs.sizes_ok.Goals.{After-within-2, Else-not-within-2, Then-not-within-2}

-- ---- what the tests have shown
some_spaces : (c : After-within-2) → between 1 64 c.args.h.spaces ≡ true
some_spaces c = sym (ap (between 1 64) c.wide.ensures) ∙ held c.within.ensures c.if-not-within.false-raw

-- ---- what the tests have shown
some_spaces_later_2 : (c : Then-not-within-2) → between 1 64 c.args.h.spaces ≡ true
some_spaces_later_2 c = sym (ap (between 1 64) c.wide.ensures) ∙ held c.within.ensures c.if-not-within.false-raw

-- ---- what the tests have shown
some_spaces_later : (c : Else-not-within-2) → between 1 64 c.args.h.spaces ≡ true
some_spaces_later c = sym (ap (between 1 64) c.wide.ensures) ∙ held c.within.ensures c.if-not-within.false-raw

-- the test of the places, as it was taken or left
few_places : (c : Else-not-within-2) {b : Bool} → let h = c.args.h in between 1 262144 (h.spaces * h.pages) ≡ b
    → (between 1 262144 h.pages && leb (h.spaces * h.pages) 262144) ≡ b
few_places c e =
    let h = c.args.h in
    sym (pages_by_places h.spaces h.pages (some_spaces_later c)) ∙ e

-- the test of the places, as it was taken or left
few_places_later : (c : Then-not-within-2) {b : Bool} → let h = c.args.h in between 1 262144 (h.spaces * h.pages) ≡ b
    → (between 1 262144 h.pages && leb (h.spaces * h.pages) 262144) ≡ b
few_places_later c e =
    let h = c.args.h in
    sym (pages_by_places h.spaces h.pages (some_spaces_later_2 c)) ∙ e

places_fail : (c : Then-not-within-2) → let h = c.args.h in
    (between 1 262144 h.pages && leb (h.spaces * h.pages) 262144) ≡ false
places_fail c = few_places_later c (failed (c.within-2.ensures ∙ ap (between 1 262144) c.all_places.ensures) c.if-not-within-2.true-raw)

places_pass : (c : Else-not-within-2) → let h = c.args.h in
    (between 1 262144 h.pages && leb (h.spaces * h.pages) 262144) ≡ true
places_pass c = few_places c (held (c.within-2.ensures ∙ ap (between 1 262144) c.all_places.ensures) c.if-not-within-2.false-raw)

-- ---- the tests
pub returns-then-not-within : goal.returns-then-not-within
unfolding sizes_ok
returns-then-not-within c = rw (← c.wide.ensures, failed c.within.ensures c.if-not-within.true-raw)

pub returns-then-not-within-2 : goal.returns-then-not-within-2
unfolding sizes_ok
returns-then-not-within-2 c = rw (some_spaces (goal.at.returns-then-not-within-2 c).After-within-2, places_fail (goal.at.returns-then-not-within-2 c).Then-not-within-2)

pub returns-then-not-within-3 : goal.returns-then-not-within-3
unfolding sizes_ok
returns-then-not-within-3 c =
    rw (
      some_spaces (goal.at.returns-then-not-within-3 c).After-within-2,
      places_pass (goal.at.returns-then-not-within-3 c).Else-not-within-2,
      ← c.wide-2.ensures,
      failed c.within-3.ensures c.if-not-within-3.true-raw,
    )

pub returns : goal.returns
unfolding sizes_ok
returns c =
    rw (
      some_spaces (goal.at.returns c).After-within-2,
      places_pass (goal.at.returns c).Else-not-within-2,
      ← c.wide-2.ensures,
      held c.within-3.ensures c.if-not-within-3.false-raw,
    )
    (c.within-4.ensures ∙ ap (between 8 16) c.wide-3.ensures ∙ page_shift _)
