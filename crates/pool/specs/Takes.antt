-- What taking a frame and reading a region's newest page may take for granted.
use Rattle.std.specs.Prelude.{List, ℕ, zero, suc, ◌+◌, ◌<◌, length}
use Rattle.memory.specs.Memory.{at}
use Rattle.memory.specs.declared.Head.{Head}

-- the next frame can be taken
abbrev pub TakeableFrom : Head → List ℕ → ℕ → Type 0
TakeableFrom h link zero = h.fresh < 65536
TakeableFrom h link (suc n) = h.first < length link

abbrev pub Takeable : Head → List ℕ → Type 0
Takeable h link = TakeableFrom h link h.many

-- the newest of n pages, if there is one, can be read
abbrev pub Top : List ℕ → List ℕ → ℕ → ℕ → Type 0
Top table stack a zero = Unit {0}
Top table stack a (suc n) = (a + n < length stack) × (a + n < 262144) × (at stack (a + n) < length table)
