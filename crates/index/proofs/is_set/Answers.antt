-- `index::is_set` meets its contract: the bit of the place, where the check passes.
use Rattle.std.proofs.Common.{sym}
use Rattle.extent.specs.Passing.{passed, word_lent}
use Rattle.index.proofs.Promised.{asked_bit}
use Rattle.index.proofs.is_set.Goals as goal

pub bit_at-requires : goal.bit_at-requires
bit_at-requires c = word_lent (passed _ _ _ (sym c.in_ok-check.ensures))

pub returns : goal.returns
returns c = asked_bit _ _ _ c.in_ok-check.ensures _ c.bit_at.ensures
