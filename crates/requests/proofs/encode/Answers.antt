-- The records of a list are as many as it tells of.
use Rattle.requests.specs.Laws.{records_length}
use Rattle.requests.proofs.encode.Goals as goal

pub returns-in-Regions : goal.returns-in-Regions
returns-in-Regions c = λ buffer records e. rw (c.in-Regions.is, records_length, ← c.from-in-Regions.ensures) c.numbers-in-Regions.ensures
