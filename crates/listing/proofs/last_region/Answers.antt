-- The greatest start below the end begins the last region.
use Rattle.listing.proofs.Telling.{start_told, nothing_told}
use Rattle.listing.proofs.last_region.Goals as goal

pub returns-in-Some : goal.returns-in-Some
returns-in-Some c =
    let asked = c.requires in
    rw c.region_at.ensures (start_told asked.0 asked.1 c.start_below.ensures c.in-Some.is)

pub returns-in-None : goal.returns-in-None
returns-in-None c =
    let asked = c.requires in
    nothing_told asked.0 asked.1 c.start_below.ensures c.in-None.is _
