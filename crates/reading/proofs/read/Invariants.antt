-- The pages before `page` are all resident, whatever the link.
use mathlib.Core.List.{List}
use Prim.Native.Nat.{ℕ}
use Rattle.memory.specs.Memory.{memory}
use Rattle.reading.proofs.Reading.{ResidentTo}
use Rattle.reading.proofs.read.Given as goal

abbrev pub invariant-loop-page : goal.invariant-loop-page
invariant-loop-page l =
    (link : List ℕ) → ResidentTo (memory l.head l.index l.count l.table l.helper l.stack l.cache link l.ram) l.space l.first l.page
