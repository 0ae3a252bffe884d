-- What the steps of a touch may take for granted.
use Rattle.std.specs.Prelude.{List, ℕ, ◌*◌, ◌≤◌, length}
use Rattle.memory.specs.Memory.{sizes_of}
use Rattle.memory.specs.declared.Head.{Head}
use Rattle.lookup.specs.declared.Sight.{Sight}
use Rattle.lookup.specs.Ready.{Ready, SeenOf}

-- what a touch may take for granted once the checks for refusals 1 to 3 have passed
pub record Touchable (h : Head) (i b : ℕ) (index count table helper stack cache link : List ℕ) : Type 0 where
  pub ready : Ready h i b index count table helper stack cache
  pub link_long : h.frames ≤ length link

-- W-201: a touch is lent the RAM too
abbrev pub RamLong : Head → List ℕ → Type 0
RamLong h ram = (sizes_of h).frames * (sizes_of h).page ≤ length ram

-- a touch whose page was looked up
pub record Due (h : Head) (i b : ℕ) (index count table helper stack cache link : List ℕ) (s : Sight) : Type 0 where
  pub can : Touchable h i b index count table helper stack cache link
  pub seen : SeenOf h i b index count table helper stack cache s
