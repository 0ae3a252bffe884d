-- What mapping a page does, on lists.
use Rattle.std.specs.Prelude.{ℕ, ◌+◌, set}
use Rattle.machine.specs.Machine.{zeroed}
use Rattle.memory.specs.Memory.{Memory, with_bytes, at, sizes_of}
use Rattle.pool.specs.Models.{newest_of, taken}

-- head and tables after page p of the region at a is mapped: the RAM as it stands
abbrev pub map_entry : Memory → ℕ → ℕ → Memory
map_entry k a p =
    let n = at k.count a in
    let f = (taken k.link k.head).frame in
    record {
      head = (taken k.link k.head).head;
      index = k.index;
      count = set k.count a (n + 1);
      table = set k.table p f;
      helper = set k.helper p n;
      stack = set k.stack (a + n) p;
      cache = set k.cache p a;
      link = set k.link f (newest_of k.table k.stack a n);
      ram = k.ram;
    }

-- and with the frame cleared
abbrev pub map_page : Memory → ℕ → ℕ → Memory
map_page k a p = with_bytes (map_entry k a p) (zeroed (sizes_of k.head) (taken k.link k.head).frame k.ram)
