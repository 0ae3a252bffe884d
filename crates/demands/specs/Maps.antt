-- W-202 of the pager's own calls: which files are read, a written map read back, and a map that was read written again; W-203: what a written map tells.
use Rattle.std.specs.Prelude.{◌≡◌, List, ℕ, ◌*◌, ◌≤◌, ◌<◌, length, take, Result, Ok, Err}
use Rattle.sequence.specs.Lists.{Each}
use Rattle.words.specs.Words.{words_in}
use Rattle.machine.specs.Machine.{State, with_ram, every_table, read_map, Answer, done, pages, map_file, refused}
use Rattle.machine.specs.Answers.{map_written_says}
use Rattle.machine.specs.Claims.{resident_in, Described}
use Rattle.machine.specs.Map.{first_body, sizes_in}
use Rattle.machine.specs.Fullness.{fullness_of}
use Rattle.refusals.specs.declared.Refusal.{Refusal}
use Rattle.memory.specs.Memory.{Memory, lengths}
use Rattle.promise.specs.Holds.{Holds}
use Rattle.promise.specs.Did.{Did}
use Rattle.promise.specs.Filled.{bytes_filled, MapDid}
use Rattle.laws.specs.Refusals.{Long}

-- a refusal leaves the file's buffer too
abbrev pub Demand1Map : Type 0
Demand1Map = (k : Memory) (r : Result ℕ Refusal) (buffer buffer' : List ℕ) → MapDid k r buffer buffer' → (e : Refusal) → r ≡ Err e → buffer' ≡ buffer

-- "Reading accepts exactly the files that describe a state", on any memory with tables long enough for the file's sizes: then the memory stands for that
-- state with the RAM as it lies; any other file is refused with 12 and changes nothing
pub record Reads (file : List ℕ) (k : Memory) (a : Answer) (k' : Memory) : Type 0 where
  pub accepted : (m : State) → Described file k.ram m → (a ≡ done) × Holds m k'
  pub only : a ≡ done → (m : State) × Described file k.ram m
  pub refuses : ((m : State) → Described file k.ram m → ⊥) → (a ≡ refused 12) × (k' ≡ k)

abbrev pub ReadsExactly : Type 0
ReadsExactly =
    (file : List ℕ) → Each 0 (λ b. b < 256) file → (k : Memory) (a : Answer) (k' : Memory) → Long every_table (sizes_in (words_in file)) (lengths k)
    → Did (read_map file) k a k' → Reads file k a k'

-- "Write then read gives the same state": read into any memory with tables long enough
abbrev pub WriteThenRead : Type 0
WriteThenRead =
    (m : State) (k : Memory) → Holds m k → (n : ℕ) (buffer buffer' : List ℕ) → MapDid k (Ok n) buffer buffer'
    → (l : Memory) (a : Answer) (l' : Memory) → Long every_table m.sizes (lengths l) → Did (read_map (take n buffer')) l a l'
    → (a ≡ done) × Holds (with_ram m l.ram) l'

-- "read then write the same bytes"
abbrev pub ReadThenWrite : Type 0
ReadThenWrite =
    (file : List ℕ) → Each 0 (λ b. b < 256) file → (k k' : Memory) → Did (read_map file) k done k'
    → (r : Result ℕ Refusal) (buffer buffer' : List ℕ) → length file ≤ length buffer → MapDid k' r buffer buffer'
    → map_written_says r (take (bytes_filled r) buffer') ≡ map_file file

-- W-203: whoever has the contents of a written map, and whatever else of it, is told each space's resident pages
abbrev pub WrittenFullness : Type 0
WrittenFullness =
    (m : State) (k : Memory) → Holds m k → (n : ℕ) (buffer buffer' : List ℕ) → MapDid k (Ok n) buffer buffer'
    → (got : ℕ) → 4 * first_body m.sizes.spaces ≤ got → (i : ℕ) → i < m.sizes.spaces → fullness_of (take got (take n buffer')) i ≡ pages (resident_in m i)
