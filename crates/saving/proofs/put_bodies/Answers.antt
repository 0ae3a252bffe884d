-- The loop's invariant: the bodies from space i on are still to be stored.
use Rattle.saving.specs.Storing.{still_to_store, part_room, part_stored, all_stored}
use Rattle.saving.proofs.Spaces.{space_walkable, bodies_done, body_next}
use Rattle.saving.proofs.put_bodies.Goals as goal

pub put_body-to-requires : goal.put_body-to-requires
put_body-to-requires c =
    let a = c.args in
    let l = c.loop-i in
    (space_walkable a.pages a.spaces l.i c.requires.0 c.loop-i-test.true, part_room c.requires.1 l.invariant (body_next _ _ _ _ _ _ l.i c.loop-i-test.true))

pub loop-i-preserved : goal.loop-i-preserved
loop-i-preserved c = part_stored c.loop-i.invariant (body_next _ _ _ _ _ _ c.loop-i.i c.loop-i-test.true) c.put_body-to.ensures

pub returns : goal.returns
returns c = all_stored (still_to_store c.loop-i.invariant (bodies_done _ _ _ _ _ _ c.loop-i.i c.loop-i-test.false))
