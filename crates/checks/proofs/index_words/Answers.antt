-- T is within its limits, so the index gives its size.
use Rattle.checks.proofs.Needed.{needed_is}
use Rattle.checks.proofs.index_words.Goals as goal

pub returns : goal.returns
returns c = rw (needed_is _ _ c.requires.0 c.requires.1 c.words_needed.ensures) at c.unwrap_or.ensures
