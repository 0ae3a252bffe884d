-- The page looked up, then touched.
use Rattle.paging.proofs.touch_checked.Goals as goal

pub returns-clause-by_index : goal.returns-clause-by_index
returns-clause-by_index c = λ ram long. c.touch_seen.ensures.by_index _ ram (record { can = c.requires; seen = c.see-seen.ensures }) long
