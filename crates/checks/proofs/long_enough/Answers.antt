-- Each test is one part of the test on lengths.
use mathlib.Core.Path.{ap, ◌∙◌}
use Prim.Native.Nat.{ℕ}
use native.Mathlib.Omega.{arith}
use lib.Dec.{leb}
use Rattle.sequence.specs.Tests.{failed, held}
use Rattle.places.specs.Places.{size}
use Rattle.machine.proofs.Laws.Sizes.{fit, some_places}
use Rattle.laws.specs.Models.{lent_of}
use Rattle.memory.specs.Memory.{sizes_of}
use Rattle.checks.specs.Lengths.{tables_long}
use Rattle.checks.proofs.Long.{index_short, tables_short, link_short, ram_test}
use Rattle.checks.proofs.long_enough.Goals as goal

pub index_words-requires : goal.index_words-requires
index_words-requires c = (
  omega (arith, c.all_places-t.ensures, some_places _ (fit _ c.requires)),
  omega
      (arith, c.all_places-t.ensures, (fit _ c.requires).few_places),
)

pub returns-then-l-index_words : goal.returns-then-l-index_words
returns-then-l-index_words c =
    index_short (sizes_of c.args.h) (lent_of c.args.l)
    (omega (arith, (c.index_words.ensures ∙ ap size c.all_places-t.ensures)))

pub returns-then-not-tables_long : goal.returns-then-not-tables_long
returns-then-not-tables_long c =
    tables_short (sizes_of c.args.h) (lent_of c.args.l)
    (omega (arith, (c.index_words.ensures ∙ ap size c.all_places-t.ensures)))
    (failed (c.tables_long.ensures ∙ ap (λ (t : ℕ). tables_long t (lent_of c.args.l))
    c.all_places-t.ensures) c.if-not-tables_long.true-raw)

pub returns-then-l-wide : goal.returns-then-l-wide
returns-then-l-wide c =
    link_short (sizes_of c.args.h) (lent_of c.args.l)
    (omega (arith, (c.index_words.ensures ∙ ap size c.all_places-t.ensures)))
    (held (c.tables_long.ensures ∙ ap (λ (t : ℕ). tables_long t (lent_of c.args.l))
    c.all_places-t.ensures) c.if-not-tables_long.false-raw) (omega (arith, c.wide.ensures))

pub returns : goal.returns
returns c =
    ap (λ (n : ℕ). leb n c.args.l.ram) c.ram_bytes.ensures ∙ ram_test (sizes_of c.args.h)
    (lent_of c.args.l) (omega (arith, (c.index_words.ensures ∙ ap size c.all_places-t.ensures)))
    (held (c.tables_long.ensures ∙ ap (λ (t : ℕ). tables_long t (lent_of c.args.l))
    c.all_places-t.ensures) c.if-not-tables_long.false-raw) (omega (arith, c.wide.ensures))
