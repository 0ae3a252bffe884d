-- How many pages of a span are absent, and the number that settles a write before its first touch.
use Rattle.std.specs.Prelude.{◌≡◌, Bool, true, false, List, [], ◌∷◌, ℕ, ◌+◌, ◌-◌, ◌≤◌, ◌<◌, ltb, length}
use Rattle.machine.specs.Machine.{State, place_of, any_outside, count_absent}
use Rattle.memory.specs.Memory.{memory}
use Rattle.memory.specs.declared.Head.{Head}
use Rattle.promise.specs.Holds.{Holds}
use Rattle.promise.specs.Did.{Among}
use Rattle.promise.specs.Shown.{frame_of}

-- every page of space i from `first` to before `end` is resident
abbrev pub AllResident : Head → ℕ → ℕ → ℕ → List ℕ → List ℕ → List ℕ → List ℕ → List ℕ → Type 0
AllResident h i first end count table helper stack cache = (b : ℕ) → first ≤ b → b < end → frame_of h i b count table helper stack cache < h.frames

-- r says whether P
pub record Whether (P : Type 0) (r : Bool) : Type 0 where
  pub yes : r ≡ true → P
  pub no : r ≡ false → P → ⊥

-- so many pages of space i from `first` to before `end` are absent, as the machine has it, if all have a region
abbrev pub Counted : Head → ℕ → ℕ → ℕ → List ℕ → List ℕ → List ℕ → List ℕ → List ℕ → ℕ → Type 0
Counted h i first end count table helper stack cache r =
    (index link ram : List ℕ) (m : State) → Holds m (memory h index count table helper stack cache link ram)
    → any_outside m (place_of m.sizes i first) (end - first) ≡ false → r ≡ count_absent m (place_of m.sizes i first) (end - first)

-- 4, then 8; 0 for none
abbrev pub write_refusal : Bool → Bool → ℕ
write_refusal true short = 4
write_refusal false true = 8
write_refusal false false = 0

-- the number that settles a write to space i from page `first` on
pub record Settled (h : Head) (i first absent : ℕ) (index count table helper stack cache : List ℕ) (r : ℕ) : Type 0 where
  -- on any memory
  pub late : (r ≡ 0 → ⊥) → Among (4 ∷ 8 ∷ 9 ∷ []) r
  -- of n pages, of which so many are absent if all have a region
  pub honest : (link ram : List ℕ) (m : State) → Holds m (memory h index count table helper stack cache link ram) → (n : ℕ) → 0 < n
      → first + n ≤ m.sizes.pages
      → (any_outside m (place_of m.sizes i first) n ≡ false → absent ≡ count_absent m (place_of m.sizes i first) n)
      → r ≡ write_refusal (any_outside m (place_of m.sizes i first) n) (ltb (length m.pool) (count_absent m (place_of m.sizes i first) n))
