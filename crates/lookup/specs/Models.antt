-- What is seen of the page at a place, and what look makes of it, on lists.
use Rattle.std.specs.Prelude.{◌≡◌, Bool, true, false, List, ℕ, leb, ltb, Option, Some, None, Ok}
use Rattle.layer.specs.declared.Greatest.{Greatest}
use Rattle.index.specs.Promise.{Sought}
use Rattle.machine.specs.Machine.{places, place_of, Answer, resident, absent, refused_after, looked, refusal_of}
use Rattle.memory.specs.Memory.{Memory, at, sizes_of}
use Rattle.promise.specs.Shown.{resident_ok}
use Rattle.lookup.specs.declared.Sight as sight
use Rattle.lookup.specs.declared.Sight.TheVariants as sight_is
use Rattle.laws.specs.Models.{check_of, Checked, page_inside, look_lengths}

-- ---- the page at a place

abbrev pub sight_mapped : ℕ → Bool → sight.Sight
sight_mapped f true = sight_is.Mapped f
sight_mapped f false = sight_is.Broken

abbrev pub sight_in : Bool → ℕ → ℕ → sight.Sight
sight_in true a c = sight_is.Unmapped a c
sight_in false a c = sight_is.Outside c

-- from what the find at p answers; lo is the first place of p's space
abbrev pub sight_by : ℕ → Option ℕ → ℕ → sight.Sight
sight_by lo (Some a) c = sight_in (leb lo a) a c
sight_by lo None c = sight_is.Outside c

abbrev pub sight_found : ℕ → Greatest → sight.Sight
sight_found lo g = sight_by lo g.place g.words

-- a find's answer, and what is seen by it
pub record Searched (t lo p : ℕ) (ws : List ℕ) (r : sight.Sight) : Type 0 where
  pub found : Greatest
  pub sought : Sought t p ws (Ok found)
  pub seen : r ≡ sight_found lo found

abbrev pub SeenIf : Bool → ℕ → ℕ → ℕ → ℕ → List ℕ → List ℕ → sight.Sight → Type 0
SeenIf true f t lo p ws table r = r ≡ sight_mapped (at table p) (ltb (at table p) f)
SeenIf false f t lo p ws table r = Searched t lo p ws r

-- what is seen at place p of a space from lo on; f frames, t places
unfoldable pub Seen : ℕ → ℕ → ℕ → ℕ → List ℕ → List ℕ → List ℕ → List ℕ → List ℕ → List ℕ → sight.Sight → Type 0
Seen f t lo p index count table helper stack cache r = SeenIf (resident_ok count helper stack cache t p) f t lo p index table r

-- the same at page b of space i of a memory
abbrev pub SeenAt : Memory → ℕ → ℕ → sight.Sight → Type 0
SeenAt k i b r =
    let z = sizes_of k.head in
    Seen z.frames (places z) (place_of z i 0) (place_of z i b) k.index k.count k.table k.helper k.stack k.cache r

-- ---- look

abbrev pub look_says : sight.Sight → Answer
look_says (sight_is.Mapped f) = resident f
look_says (sight_is.Unmapped a c) = absent c
look_says (sight_is.Outside c) = refused_after 4 c
look_says sight_is.Broken = refused_after 9 0

pub record Looks (k : Memory) (i b : ℕ) (a : Answer) (k' : Memory) : Type 0 where
  pub sight : sight.Sight
  pub seen : SeenAt k i b sight
  pub answer_is : a ≡ look_says sight
  pub same : k' ≡ k

abbrev pub LookDone : ℕ → ℕ → Memory → Answer → Memory → Type 0
LookDone i b k a k' = Checked (refusal_of looked) (check_of k.head (look_lengths k) i (page_inside k b)) (λ a k'. Looks k i b a k') k a k'
