-- What the steps of a plan may take for granted, and what the plan of a touch is.
use Rattle.std.specs.Prelude.{◌≡◌, List, ℕ, ◌≤◌, ◌<◌, length, Result}
use Rattle.machine.specs.Machine.{places}
use Rattle.memory.specs.Memory.{sizes_of}
use Rattle.memory.specs.declared.Head.{Head}
use Rattle.lookup.specs.declared.Sight.{Sight}
use Rattle.lookup.specs.declared.Sight.TheVariants as sight_is
use Rattle.machine.specs.declared.RefusedAfter.{RefusedAfter}
use Rattle.planning.specs.declared.Plan.{Plan}
use Rattle.planning.specs.Models.{plan_for}
use Rattle.lookup.specs.Ready.{SeenOf}

-- a region that is seen starts below t, in tables that have t entries
abbrev pub InReach : Sight → ℕ → List ℕ → List ℕ → Type 0
InReach (sight_is.Mapped f) t count stack = Unit {0}
InReach (sight_is.Unmapped a c) t count stack = (a < t) × (t ≤ 262144) × (t ≤ length count) × (t ≤ length stack)
InReach (sight_is.Outside c) t count stack = Unit {0}
InReach sight_is.Broken t count stack = Unit {0}

-- the plan of a touch: what is to be done about what is seen
pub record Planned (h : Head) (i b : ℕ) (index count table helper stack cache : List ℕ) (r : Result Plan RefusedAfter) : Type 0 where
  pub sight : Sight
  pub seen : SeenOf h i b index count table helper stack cache sight
  pub is : r ≡ plan_for h count stack (places (sizes_of h)) sight
