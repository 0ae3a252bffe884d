-- What the tables show of a page, on any memory. Nobody clears them: a page is resident where cached start, helper and stack agree on it.
use Rattle.std.specs.Prelude.{Bool, cond, ◌&&◌, List, ℕ, ◌+◌, ◌<◌, eqb, leb, ltb}
use Rattle.machine.specs.Machine.{places, place_of}
use Rattle.memory.specs.Memory.{Memory, at, sizes_of}
use Rattle.memory.specs.declared.Head.{Head}

-- cached start, helper and stack say that the page at place p is resident, below its region's count
unfoldable pub resident_ok : List ℕ → List ℕ → List ℕ → List ℕ → ℕ → ℕ → Bool
resident_ok count helper stack cache t p =
    let a = at cache p in
    let j = at helper p in
    leb a p && ltb j (at count a) && ltb (a + j) t && eqb (at stack (a + j)) p

-- the frame of page b of space i if it is resident, else F
abbrev pub frame_of : Head → ℕ → ℕ → List ℕ → List ℕ → List ℕ → List ℕ → List ℕ → ℕ
frame_of h i b count table helper stack cache =
    let z = sizes_of h in
    let p = place_of z i b in
    cond (resident_ok count helper stack cache (places z) p) (at table p) z.frames

-- page b of space i is shown with a frame that there is
abbrev pub Shown : Memory → ℕ → ℕ → Type 0
Shown k i b = frame_of k.head i b k.count k.table k.helper k.stack k.cache < k.head.frames

-- n pages from page b on
abbrev pub AllShown : Memory → ℕ → ℕ → ℕ → Type 0
AllShown k i b n = (j : ℕ) → j < n → Shown k i (b + j)
