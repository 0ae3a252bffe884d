-- `index::put` meets its contract: nothing where the bit is so already, else the put of what isn't so yet.
use Rattle.std.proofs.Common.{◌≡◌, sym, arith}
use Rattle.std.proofs.lemmas.Grind.{common_steps}
use Rattle.extent.specs.Passing.{passed, word_lent}
use Rattle.index.proofs.Promised.{put_same}
use Rattle.index.proofs.put.Goals as goal

pub bit_at-requires : goal.bit_at-requires
bit_at-requires c = word_lent (passed _ _ _ (sym c.in_ok-check.ensures))

pub returns-else-bit_at-v : goal.returns-else-bit_at-v
returns-else-bit_at-v c =
    let same : c.bit_at.result ≡ c.args.v = grind (arith, common_steps) in
    put_same _ _ _ _ c.in_ok-check.ensures _ c.bit_at.ensures same
