-- The checks leave the page's place inside the tables and the index.
use Rattle.lookup.proofs.Sights.{tabled, index_ready}
use Rattle.lookup.proofs.see.Goals as goal

pub resident-requires : goal.resident-requires
resident-requires c = tabled _ _ _ _ _ _ _ _ _ c.requires _ _ c.all_places-t.ensures c.place-p.ensures

pub search-requires : goal.search-requires
search-requires c = index_ready _ _ _ _ _ _ _ _ _ c.requires _ _ c.all_places-t.ensures c.place-p.ensures
