-- An effect that spares a byte leaves it.
use Rattle.std.specs.Prelude.{◌≡◌, Bool, true, false, ℕ, eqb}
use Rattle.std.proofs.Math.Option.{Option, some}
use Rattle.std.proofs.Math.ListN.{length}
use Rattle.machine.specs.Machine.{place_of, span_pages, page_of_address, State}
use Rattle.machine.specs.Machine.{Effect, unchanged, prepared, refilled, start_put, page_mapped}
use Rattle.machine.specs.Machine.{region_emptied, page_given_back, span_stored}
use Rattle.machine.specs.Claims.{shows, or_zero, in_run, aims_at, shows_by}

zero_not : (t : Bool) (o : Option ℕ) (v : ℕ) → o ≡ some v → or_zero t o ≡ some v
zero_not false o v h = h
zero_not true o v h = rw h

-- an effect that spares a byte leaves it
pub spared_shows : (m : State) (i x v : ℕ) (e : Effect) → aims_at m i x e ≡ false → shows m i x ≡ some v → shows_by m i x e ≡ some v
spared_shows m i x v unchanged a h = h
spared_shows m i x v (prepared z) a h = h
spared_shows m i x v (refilled z) a h = h
spared_shows m i x v (start_put j b) a h = h
spared_shows m i x v (page_mapped j b) a h = zero_not (eqb (page_of_address m.sizes i x) (place_of m.sizes j b)) (shows m i x) v h
spared_shows m i x v (region_emptied j b) a h = rw a h
spared_shows m i x v (page_given_back j b) a h = rw a h
spared_shows m i x v (span_stored j y vs) a h =
    let page = in_run (page_of_address m.sizes j y) (span_pages m.sizes y (length vs)) (page_of_address m.sizes i x) in
    rw a (zero_not page (shows m i x) v h)
