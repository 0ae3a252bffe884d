-- `index::insert` meets its contract: asked and put at once.
use Rattle.std.specs.Prelude.{true, false}
use Rattle.std.proofs.Common.{refl, sym, ◌∙◌}
use Rattle.extent.specs.Passing.{passed, word_lent}
use Rattle.index.proofs.Promised.{asked_bit}
use Rattle.index.proofs.insert.Goals as goal

pub bit_at-requires : goal.bit_at-requires
bit_at-requires c = word_lent (passed _ _ _ (sym c.in_ok-check.ensures))

pub returns-then-bit_at : goal.returns-then-bit_at
returns-then-bit_at c = (asked_bit _ _ _ c.in_ok-check.ensures true (sym c.if-bit_at.true ∙ c.bit_at.ensures), refl)

pub returns : goal.returns
returns c = (asked_bit _ _ _ c.in_ok-check.ensures false (sym c.if-bit_at.false ∙ c.bit_at.ensures), c.put_checked.ensures)
