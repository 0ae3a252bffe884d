-- The page size, the test on the sizes, then what they ask for.
use mathlib.Core.Path.{◌∙◌}
use Rattle.sequence.specs.Tests.{failed, held}
use Rattle.sizing.proofs.Needing.{no_page_size, too_large, within_limits, countable}
use Rattle.sizing.proofs.needed.Goals as goal

pub returns-in_default : goal.returns-in_default
returns-in_default c = c.no_sizes.ensures ∙ no_page_size _ _ _ _ _ c.of.ensures _ c.in_default.is

pub returns-then-not-sizes_ok : goal.returns-then-not-sizes_ok
returns-then-not-sizes_ok c = c.no_sizes-then-not-sizes_ok.ensures ∙ too_large _ _ _ _ _ c.of.ensures _
    c.in-Ok.is (failed c.sizes_ok.ensures c.if-not-sizes_ok.true-raw)

pub index_words-requires : goal.index_words-requires
index_words-requires c = rw c.all_places-places.ensures (countable _ (held c.sizes_ok.ensures c.if-not-sizes_ok.false-raw))

pub ram_bytes-requires : goal.ram_bytes-requires
ram_bytes-requires c = held c.sizes_ok.ensures c.if-not-sizes_ok.false-raw

pub map_bytes-requires : goal.map_bytes-requires
map_bytes-requires c = held c.sizes_ok.ensures c.if-not-sizes_ok.false-raw

pub returns : goal.returns
returns c =
    let ok = held c.sizes_ok.ensures c.if-not-sizes_ok.false-raw in
    rw (
      c.map_bytes.ensures,
      c.ram_bytes.ensures,
      c.wide.ensures,
      c.index_words.ensures,
      c.all_places-places.ensures,
    )
    (within_limits _ _ _ _ _ c.of.ensures _
    c.in-Ok.is ok)
