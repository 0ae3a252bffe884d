-- What is shown after a call, from what was shown before, whatever the RAM.
use Rattle.std.specs.Prelude.{◌≡◌, cond, List, ℕ, ◌-◌, eqb, length, get_or}
use Rattle.std.proofs.Common.{ap}
use Rattle.std.proofs.Math.Option.{Option, none, some}
use Rattle.machine.specs.Machine.{place_of, page_of_address, span_pages, State, start_of}
use Rattle.machine.specs.Machine.{Effect, unchanged, prepared, refilled, start_put, page_mapped}
use Rattle.machine.specs.Machine.{region_emptied, page_given_back, span_stored, with_ram}
use Rattle.machine.specs.Claims.{is_start_at, shows, or_zero, in_run, in_span, shows_by}

pub shown_same : (m : State) (r : List ℕ) (i x : ℕ) → shows (with_ram m r) i x ≡ shows m i x → (e : Effect) → shows_by (with_ram m r) i x e ≡ shows_by m i x e
shown_same m r i x h unchanged = h
shown_same m r i x h (prepared z) = h
shown_same m r i x h (refilled z) = h
shown_same m r i x h (start_put j b) = h
shown_same m r i x h (page_mapped j b) = ap (or_zero (eqb (page_of_address m.sizes i x) (place_of m.sizes j b))) h
shown_same m r i x h (region_emptied j b) = ap (cond (is_start_at (start_of m (page_of_address m.sizes i x)) (place_of m.sizes j b)) none) h
shown_same m r i x h (page_given_back j b) = ap (cond (eqb (page_of_address m.sizes i x) (place_of m.sizes j b)) none) h
shown_same m r i x h (span_stored j y vs) =
    let page = in_run (page_of_address m.sizes j y) (span_pages m.sizes y (length vs)) (page_of_address m.sizes i x) in
    ap (λ (o : Option ℕ). cond (in_span i x j y (length vs)) (some (get_or vs (x - y) 0)) (or_zero page o)) h
