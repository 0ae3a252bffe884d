-- What the functions that read the index and store the file may take for granted, and what a tally tells.
use Rattle.std.specs.Prelude.{◌≡◌, true, List, ℕ, ◌+◌, ◌-◌, ◌*◌, ◌≤◌, ◌<◌, length}
use Rattle.places.specs.Places.{words_for}
use Rattle.machine.specs.Machine.{places, sizes_ok}
use Rattle.machine.specs.Map.{first_body}
use Rattle.memory.specs.Memory.{Memory, sizes_of}
use Rattle.memory.specs.declared.Head.{Head}
use Rattle.promise.specs.Did.{frames_left}
use Rattle.saving.specs.Saved.{starts_in, counts_in, saved_words}
use Rattle.saving.specs.Sizes.{space_words}
use Rattle.saving.specs.declared.Tally.{Tally}

-- the places from lo to before `end` have their bits in the index and their resident counts
pub record Walkable (index count : List ℕ) (lo end : ℕ) : Type 0 where
  pub low : lo ≤ end
  pub few : end ≤ 262144
  pub index_long : words_for end ≤ length index
  pub count_long : end ≤ length count

-- the regions from lo to before `end`, and their resident pages
pub record Tallied (index count : List ℕ) (lo end : ℕ) (r : Tally) : Type 0 where
  pub regions_are : r.regions ≡ starts_in index lo (end - lo)
  pub pairs_are : r.pairs ≡ counts_in index count lo (end - lo)
  pub few_regions : r.regions ≤ 262144
  pub few_pairs : r.pairs ≤ 1125899906842624

-- the contents can be stored: their numbers fit a word
pub record Listable (h : Head) (index count : List ℕ) : Type 0 where
  pub sizes_ok_lem : sizes_ok (sizes_of h) ≡ true
  pub walkable : Walkable index count 0 (places (sizes_of h))
  pub fresh_fits : h.fresh ≤ h.frames
  pub few_free : frames_left h ≤ 65536
  pub few_words : first_body h.spaces + space_words h index count < 4294967296

-- the file can be stored
pub record Storable (k : Memory) (file : List ℕ) : Type 0 where
  pub listable : Listable k.head k.index k.count
  pub fits : 4 * length (saved_words k) ≤ length file
