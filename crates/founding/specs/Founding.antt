-- What stands before the first pair: the starts of a file in the index, and its frames linked in the order of the file.
use Rattle.std.specs.Prelude.{◌≡◌, Option, Some, None, IfSome, Bool, List, [], ◌∷◌, ◌++◌, map, ℕ, zero, suc, ◌+◌, ◌*◌, ◌<◌, length, drop}
use Rattle.sequence.specs.Lists.{Each}
use Rattle.places.specs.Places.{adding, size}
use Rattle.extent.specs.Checks.{check_size}
use Rattle.index.specs.Words.{IndexOf}
use Rattle.machine.specs.Map.{Block, blocks_in, part_in}
use Rattle.machine.specs.MapRules.{entry_frames, entries_of}
use Rattle.founding.specs.Chain.{laid, last_of}
use Rattle.founding.specs.declared.Laid.{Laid}

-- ---- the starts

-- of some regions of the space from place lo on
abbrev pub starts_of : ℕ → List Block → List ℕ
starts_of lo bs = map (λ b. lo + b.start) bs

-- of n spaces of so many pages each, from space i on
unfoldable pub starts_in : ℕ → List ℕ → ℕ → ℕ → List ℕ
starts_in pages ws i zero = []
starts_in pages ws i (suc n) = starts_of (i * pages) (blocks_in (part_in ws i)) ++ starts_in pages ws (suc i) n

-- the places ps, all below t, are put into the set that ws holds
pub record Marked (t : ℕ) (ps ws ws' : List ℕ) : Type 0 where
  pub excess : drop (size t) ws' ≡ drop (size t) ws
  pub size : length ws' ≡ length ws
  pub after : check_size (length ws) t ≡ 0 → Each 0 (λ p. p < t) ps → (s : ℕ → Bool) → IndexOf t s ws → IndexOf t (adding s ps) ws'

-- ---- the frames

-- the frames xs are linked in order, from the links link₀ on
abbrev pub LaidIs : List ℕ → List ℕ → Option Laid → List ℕ → Type 0
LaidIs link₀ [] r link = (r ≡ None) × (link ≡ link₀)
LaidIs link₀ (x ∷ xs) r link = (r ≡ Some (record { first = x; last = last_of x xs })) × (link ≡ laid link₀ x xs)

-- the last frame linked, where one is, is below n
abbrev pub LastWithin : Option Laid → ℕ → Type 0
LastWithin r n = IfSome r (λ l. l.last < n)

-- the frames xs are linked behind those before them
pub record Lays (r : Option Laid) (link xs : List ℕ) (r' : Option Laid) (link' : List ℕ) : Type 0 where
  pub size : length link' ≡ length link
  pub low : LastWithin r' (length link')
  pub is : (link₀ ys : List ℕ) → LaidIs link₀ ys r link → LaidIs link₀ (ys ++ xs) r' link'

-- every frame of the bodies, and of the pool, is below n
pub record LowFrames (n : ℕ) (ws : List ℕ) (spaces : ℕ) : Type 0 where
  pub held : (i : ℕ) → i < spaces → Each 0 (λ f. f < n) (entry_frames (entries_of (blocks_in (part_in ws i))))
  pub pool : Each 0 (λ f. f < n) (part_in ws spaces)
