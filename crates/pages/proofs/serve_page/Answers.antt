-- Each arm is its call's own promise, whatever the caller's buffers hold.
use Rattle.pages.specs.Serving.{done_serves, touched_serves, looked_serves, released_serves, given_serves}
use Rattle.pages.proofs.serve_page.Goals as goal

pub returns-in-Mark : goal.returns-in-Mark
returns-in-Mark c =
    λ buffer records.
    rw c.in-Mark.is
    (done_serves _ _ _ _ _ _ c.mark-a.result (c.mark-a.ensures _ _ _ _ _ _) c.of_done.ensures)

pub returns-in-Drop : goal.returns-in-Drop
returns-in-Drop c =
    λ buffer records.
    rw c.in-Drop.is
    (done_serves _ _ _ _ _ _ c.drop-a.result (c.drop-a.ensures _ _ _ _ _ _) c.of_done-in-Drop.ensures)

pub returns-in-Touch : goal.returns-in-Touch
returns-in-Touch c =
    λ buffer records.
    rw c.in-Touch.is
    (touched_serves _ _ _ _ _ _ c.touch-out.result.answer c.touch-out.ensures c.of_touched.ensures)

pub returns-in-Look : goal.returns-in-Look
returns-in-Look c =
    λ buffer records.
    rw c.in-Look.is
    (looked_serves _ _ _ _ _ _ c.look-a.result (c.look-a.ensures _ _) c.of_looked.ensures)

pub returns-in-Release : goal.returns-in-Release
returns-in-Release c =
    λ buffer records.
    rw c.in-Release.is
    (released_serves _ _ _ _ _ _ c.release-out.result.answer (c.release-out.ensures.by_index _ _ _) c.of_released.ensures)

pub returns-in-GiveBack : goal.returns-in-GiveBack
returns-in-GiveBack c =
    λ buffer records.
    rw c.in-GiveBack.is
    (given_serves _ _ _ _ _ _ c.give_back-out.result.answer (c.give_back-out.ensures.by_index _) c.of_given_back.ensures)
