-- The checks leave the page's place inside the tables.
use Rattle.lookup.proofs.Sights.{tabled}
use Rattle.lookup.proofs.frame_of.Goals as goal

pub resident-requires : goal.resident-requires
resident-requires c = tabled c.args.head _ _ _ _ _ _ _ _ c.requires.1 _ _ c.all_places-t.ensures c.place-p.ensures
