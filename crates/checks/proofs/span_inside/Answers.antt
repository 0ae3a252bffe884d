-- The tests add up to that of `span_inside`.
use Rattle.sequence.specs.Tests.{failed, held}
use Rattle.laws.specs.Spans.{span_inside}
use Rattle.checks.specs.Shifts.{span_long, span_fits}
use Rattle.checks.proofs.span_inside.Goals as goal

pub returns-then-not-sizes_ok : goal.returns-then-not-sizes_ok
unfolding span_inside
returns-then-not-sizes_ok c = rw (failed c.sizes_ok.ensures c.if-not-sizes_ok.true-raw)

pub space_bytes-all-requires : goal.space_bytes-all-requires
space_bytes-all-requires c = held c.sizes_ok.ensures c.if-not-sizes_ok.false-raw

pub returns-then-all-n : goal.returns-then-all-n
unfolding span_inside
returns-then-all-n c =
    rw (held c.sizes_ok.ensures c.if-not-sizes_ok.false-raw)
    (span_long _ _ _ _ c.space_bytes-all.ensures c.if-all-n.true)

pub returns : goal.returns
unfolding span_inside
returns c =
    rw (held c.sizes_ok.ensures c.if-not-sizes_ok.false-raw)
    (span_fits _ _ _ _ c.space_bytes-all.ensures c.if-all-n.false)
