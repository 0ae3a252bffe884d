-- The word, then as many bytes as there are, up to n.
use Rattle.std.proofs.lemmas.List.{take_min}
use Rattle.digits.specs.Laws.{added_more}
use Rattle.texts.proofs.put_map.Goals as goal

pub returns : goal.returns
returns c = rw (c.min-n.ensures, take_min) at (added_more c.put.ensures c.put_hex.ensures)
