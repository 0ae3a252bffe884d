-- What the functions that copy a span's bytes may take for granted once the checks for refusals 1 to 3 have passed.
use Rattle.std.specs.Prelude.{◌≡◌, true, List, ℕ, ◌+◌, ◌*◌, ◌%◌, ◌≤◌, ◌<◌, length}
use Rattle.machine.specs.Machine.{sizes_ok, space_bytes}
use Rattle.memory.specs.Memory.{sizes_of, place_in}
use Rattle.memory.specs.declared.Head.{Head}

-- n bytes from address x of space i on, and RAM that is long enough
pub record Span (h : Head) (i x n : ℕ) (ram : List ℕ) : Type 0 where
  pub sizes_ok_lem : sizes_ok (sizes_of h) ≡ true
  pub space : i < h.spaces
  pub ends : x + n ≤ space_bytes (sizes_of h)
  pub ram_long : (sizes_of h).frames * (sizes_of h).page ≤ length ram

-- some bytes, all of one page
pub record Part (h : Head) (i x n : ℕ) (ram : List ℕ) : Type 0 where
  pub span : Span h i x n ram
  pub some_bytes : 0 < n
  pub fits : x % (sizes_of h).page + n ≤ (sizes_of h).page

-- a frame that there is, in a RAM that has it
pub record Frame (h : Head) (f : ℕ) (ram : List ℕ) : Type 0 where
  pub sizes_ok_lem : sizes_ok (sizes_of h) ≡ true
  pub below : f < h.frames
  pub ram_long : (sizes_of h).frames * (sizes_of h).page ≤ length ram

-- place q of the RAM is that of address x in one of the frames
pub record RamPlace (h : Head) (x q : ℕ) : Type 0 where
  pub frame : ℕ
  pub below : frame < h.frames
  pub is : q ≡ place_in h frame x
