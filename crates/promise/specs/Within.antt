-- What lies past the entries that the sizes ask for stays, whatever is filled in before it.
use Rattle.std.specs.Prelude.{◌≡◌, drop as dropped}
use Rattle.places.specs.Places.{size}
use Rattle.machine.specs.Machine.{Sizes, places}
use Rattle.memory.specs.Memory.{Memory, lengths}

-- only the index's words, T entries of five tables and F of the frame link changed; the RAM isn't spoken of
pub record Within (z : Sizes) (k k' : Memory) : Type 0 where
  pub long : lengths k' ≡ lengths k
  pub index : dropped (size (places z)) k'.index ≡ dropped (size (places z)) k.index
  pub count : dropped (places z) k'.count ≡ dropped (places z) k.count
  pub table : dropped (places z) k'.table ≡ dropped (places z) k.table
  pub helper : dropped (places z) k'.helper ≡ dropped (places z) k.helper
  pub stack : dropped (places z) k'.stack ≡ dropped (places z) k.stack
  pub cache : dropped (places z) k'.cache ≡ dropped (places z) k.cache
  pub link : dropped z.frames k'.link ≡ dropped z.frames k.link
