-- The word, then the number.
use Rattle.digits.specs.Laws.{added_more}
use Rattle.digits.proofs.Text.put_pair.Goals as goal

pub returns-clause-added : goal.returns-clause-added
returns-clause-added c = added_more c.put.ensures c.put_number.ensures.added
