-- The find's answer decides.
use Rattle.std.specs.Prelude.{refl}
use Rattle.listing.proofs.Searching.{found_inside, found_lower, found_none}
use Rattle.listing.proofs.start_below.Goals as goal

pub returns-in_err-a : goal.returns-in_err-a
returns-in_err-a c =
    rw c.from_residual-in_err-a.ensures
    (found_none _ _ _ _ c.requires c.if-end-lo.false c.find_checked.ensures refl c.in_err-a.was)

pub returns-then-a-lo : goal.returns-then-a-lo
returns-then-a-lo c =
    found_lower _ _ _ _ c.requires c.if-end-lo.false c.find_checked.ensures refl c.in_ok-a.was c.if-a-lo.true

pub returns : goal.returns
returns c =
    found_inside _ _ _ _ c.requires c.if-end-lo.false c.find_checked.ensures refl c.in_ok-a.was c.if-a-lo.false
