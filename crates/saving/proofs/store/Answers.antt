-- Contents, bodies, pool.
use mathlib.Core.Path.{refl}
use Rattle.saving.proofs.Whole.{contents_ask, bodies_ask, pool_ask, file_stored}
use Rattle.saving.proofs.store.Goals as goal

pub put_contents-requires : goal.put_contents-requires
put_contents-requires c =
    contents_ask _ _ c.wide-spaces.ensures refl c.requires

pub put_bodies-last-requires : goal.put_bodies-last-requires
put_bodies-last-requires c =
    bodies_ask _ _ c.wide-spaces.ensures c.wide.ensures c.requires c.put_contents.ensures

pub put_pool-requires : goal.put_pool-requires
put_pool-requires c =
    pool_ask _ _ c.wide-spaces.ensures c.wide.ensures c.requires c.put_contents.ensures c.put_bodies-last.ensures

pub returns : goal.returns
returns c =
    file_stored _ _ c.wide-spaces.ensures c.wide.ensures c.requires c.put_contents.ensures c.put_bodies-last.ensures
    c.put_pool.ensures
