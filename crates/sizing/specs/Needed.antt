-- How much memory sizes ask for: words of the index, entries of each table with one a place, of the frame link, bytes of RAM, of a map file.
use Rattle.std.specs.Prelude.{◌≡◌, Bool, ℕ, ◌+◌, ◌*◌, ◌≤◌, length}
use Rattle.std.proofs.Math.Path.{ap}
use Rattle.std.proofs.Math.Bool.{true, false, cond}
use mathlib.Core.List.{List, [], ◌∷◌}
use Rattle.std.proofs.Common.{arith}
use Rattle.std.proofs.Math.ListN.{get_or}
use Rattle.places.specs.Places.{size}
use Rattle.machine.specs.Machine.{Sizes, places, State, sizes_ok}
use Rattle.machine.specs.Map.{first_body, map_of}
use Rattle.machine.specs.Claims.{Sound}
use Rattle.machine.proofs.Laws.Map.Length.{map_length}
use Rattle.memory.specs.Memory.{Memory}
use Rattle.promise.specs.Holds.{Roomy}
use Rattle.sizing.specs.declared.Needs.{Needs}

abbrev pub numbers_of : Needs → List ℕ
numbers_of n = n.refusal ∷ n.index ∷ n.places ∷ n.link ∷ n.ram ∷ n.map ∷ []

-- the bytes of a map: its contents, three words for each region, two for each frame that a page holds
abbrev pub map_room : Sizes → ℕ
map_room z = 4 * (first_body z.spaces + 3 * places z + 2 * z.frames)

abbrev pub all_needed : Sizes → List ℕ
all_needed z = 0 ∷ size (places z) ∷ places z ∷ z.frames ∷ z.frames * z.page ∷ map_room z ∷ []

-- no refusal and what is needed; or refusal 1, for sizes outside their limits
unfoldable pub needed_for : Sizes → List ℕ
needed_for z = cond (sizes_ok z) (all_needed z) (1 ∷ 0 ∷ 0 ∷ 0 ∷ 0 ∷ 0 ∷ [])

module _ (z : Sizes) (n : Needs) (e : numbers_of n ≡ needed_for z) (accepted : n.refusal ≡ 0) where
  nth : (j : ℕ) → get_or (numbers_of n) j 0 ≡ get_or (all_needed z) j 0
  unfolding needed_for
  nth j = go (sizes_ok z) e
    where
      go : (b : Bool) → numbers_of n ≡ cond b (all_needed z) (1 ∷ 0 ∷ 0 ∷ 0 ∷ 0 ∷ 0 ∷ []) → get_or (numbers_of n) j 0 ≡ get_or (all_needed z) j 0
      go true q = ap (λ (ws : List ℕ). get_or ws j 0) q
      go false q = absurd (let one : n.refusal ≡ 1 = ap (λ (ws : List ℕ). get_or ws 0 0) q in omega arith)

  -- buffers so long have room for every call after such a start
  pub needed_is_roomy : (k : Memory) → n.index ≤ length k.index → n.places ≤ length k.count → n.places ≤ length k.table
      → n.places ≤ length k.helper → n.places ≤ length k.stack → n.places ≤ length k.cache → n.link ≤ length k.link
      → n.ram ≤ length k.ram → Roomy z k
  needed_is_roomy k i c t h s a l r =
      record {
        index = omega (arith, nth 1);
        count = omega (arith, nth 2);
        table = omega (arith, nth 2);
        helper = omega (arith, nth 2);
        stack = omega (arith, nth 2);
        cache = omega (arith, nth 2);
        link = omega (arith, nth 3);
        ram = rw (← nth 4) r;
      }

  -- and a file so long has room for the map of any state of these sizes
  pub needed_for_map : (m : State) → Sound m → m.sizes ≡ z → length (map_of m) ≤ n.map
  needed_for_map m s same = rw (nth 5, ← same) (map_length m s)
