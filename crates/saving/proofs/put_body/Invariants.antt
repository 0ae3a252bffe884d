use Prim.Native.Nat.{◌-◌}
use Rattle.saving.proofs.Regions.{StoringRegions}
use Rattle.saving.proofs.put_body.Given as goal

abbrev pub invariant-loop-a : goal.invariant-loop-a
invariant-loop-a l = StoringRegions l.index l.count l.table l.stack l.lo l.end l.initial.file l.word l.file l.a l.to

abbrev pub decreases-loop-a : goal.decreases-loop-a
decreases-loop-a l = l.end - l.a
