-- The states of a session, whose sizes are limited.
use Rattle.std.specs.Prelude.{◌≡◌, false, ◌⊎◌}
use Prim.Native.Nat.{◌*◌, ◌≤◌}
use Rattle.machine.specs.Machine.{Sizes, places, sizes_ok, State}
use Rattle.machine.specs.Claims.{Sound}

-- ---- the states of a session

-- "Its sizes are further limited to T at most 1,024 and F x P at most 32,768"
pub record Within (z : Sizes) : Type 0 where
  pub few_places : places z ≤ 1024
  pub few_bytes : z.frames * z.page ≤ 32768

-- no start made, or a sound state within the limits
abbrev pub InSession : State → Type 0
InSession m = (sizes_ok m.sizes ≡ false) ⊎ (Sound m × Within m.sizes)
