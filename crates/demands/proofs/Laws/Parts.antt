-- The part that is lent: its lengths, and that the memory put together again is the memory.
use Rattle.std.specs.Prelude.{◌≡◌, Bool, true, false, ℕ, ◌≤◌}
use Rattle.std.proofs.Common.{arith, take-append-drop, length-take-le}
use Rattle.machine.specs.Machine.{Lent, Uses}
use Rattle.memory.specs.Memory.{Memory, memory, lengths}
use Rattle.demands.specs.History.{front, rejoined, Lends, Parts}

pub lends_at_most : (u : Bool) (part whole : ℕ) → Lends u part whole → part ≤ whole
lends_at_most true part whole h = h
lends_at_most false part whole h = omega arith

-- what is lent is long enough by the check, what isn't because it is whole
pub lends_enough : (u : Bool) (part whole need : ℕ) → Lends u part whole → (u ≡ true → need ≤ part) → need ≤ whole → need ≤ part
lends_enough true part whole need h long enough = long (λ _. true)
lends_enough false part whole need h long enough = omega arith

module _ (u : Uses) (n : Lent) (k : Memory) (p : Parts u n (lengths k)) where
  pub lengths_front : lengths (front n k) ≡ n
  lengths_front = λ j.
      record {
        index = length-take-le n.index k.index (lends_at_most u.index _ _ p.index) j;
        count = length-take-le n.count k.count (lends_at_most u.count _ _ p.count) j;
        table = length-take-le n.table k.table (lends_at_most u.table _ _ p.table) j;
        helper = length-take-le n.helper k.helper (lends_at_most u.helper _ _ p.helper) j;
        stack = length-take-le n.stack k.stack (lends_at_most u.stack _ _ p.stack) j;
        cache = length-take-le n.cache k.cache (lends_at_most u.cache _ _ p.cache) j;
        link = length-take-le n.link k.link (lends_at_most u.link _ _ p.link) j;
        ram = length-take-le n.ram k.ram (lends_at_most u.ram _ _ p.ram) j;
      }

pub rejoined_front : (n : Lent) (k : Memory) → rejoined n (front n k) k ≡ k
rejoined_front n k = λ j.
    memory k.head (take-append-drop n.index k.index j) (take-append-drop n.count k.count j) (take-append-drop n.table k.table j)
    (take-append-drop n.helper k.helper j) (take-append-drop n.stack k.stack j) (take-append-drop n.cache k.cache j)
    (take-append-drop n.link k.link j) (take-append-drop n.ram k.ram j)
