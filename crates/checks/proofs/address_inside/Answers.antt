-- Both tests are those of `address_inside`.
use mathlib.Core.Path.{ap}
use lib.Dec.{ltb}
use Rattle.sequence.specs.Tests.{failed, held}
use Rattle.laws.specs.Spans.{address_inside}
use Rattle.checks.proofs.address_inside.Goals as goal

pub returns-then-not-sizes_ok : goal.returns-then-not-sizes_ok
unfolding address_inside
returns-then-not-sizes_ok c = rw (failed c.sizes_ok.ensures c.if-not-sizes_ok.true-raw)

pub space_bytes-requires : goal.space_bytes-requires
space_bytes-requires c = held c.sizes_ok.ensures c.if-not-sizes_ok.false-raw

pub returns : goal.returns
unfolding address_inside
returns c =
    rw (held c.sizes_ok.ensures c.if-not-sizes_ok.false-raw)
    (ap (ltb c.args.address) c.space_bytes.ensures)
