-- By the first word, if there is one.
use mathlib.Core.Path.{sym}
use Rattle.contents.proofs.Telling.{without_word, by_length}
use Rattle.contents.proofs.is_whole.Goals as goal

pub returns-then-bytes-lt4 : goal.returns-then-bytes-lt4
returns-then-bytes-lt4 c = sym (without_word c.args.bytes.now c.if-bytes-lt4.true)

pub returns : goal.returns
returns c = by_length c.args.bytes.now c.index_at-spaces.result c.index_at-spaces.ensures.0
