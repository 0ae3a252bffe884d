-- Bytes stored in the RAM, and nothing else changed, keep the memory honest.
use Rattle.std.specs.Prelude.{refl, List, ℕ}
use Rattle.machine.specs.Machine.{State, with_ram}
use Rattle.machine.proofs.Laws.Kept.{sound_stored}
use Rattle.memory.specs.Memory.{Memory, with_bytes}
use Rattle.promise.specs.Holds.{Holds}

pub bytes_hold : (m : State) (k : Memory) (ram : List ℕ) → Holds m k → Holds (with_ram m ram) (with_bytes k ram)
bytes_hold m k ram h =
    record {
      sound = sound_stored m h.sound ram;
      sizes_are = h.sizes_are;
      index_long = h.index_long;
      count_long = h.count_long;
      index_is = h.index_is;
      counts = h.counts;
      entries = λ a j l. let p = h.entries a j l in record
          { stack_is = p.stack_is; helper_is = p.helper_is; cache_is = p.cache_is; table_is = p.table_is; room = p.room };
      links = h.links;
      pooled = h.pooled;
      ram_is = refl;
    }
