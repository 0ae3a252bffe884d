-- The three words of the page's seat, the test, and the page leaves or nothing changes.
use mathlib.Core.Path.{refl}
use Rattle.sequence.specs.Tests.{failed, held}
use Rattle.giving.proofs.Leaving.{can_leave, handed_no, handed_yes}
use Rattle.giving.proofs.hand_back.Goals as goal

pub returns-then-not-leavable-clause-by_test : goal.returns-then-not-leavable-clause-by_test
returns-then-not-leavable-clause-by_test c =
    handed_no _ _ _ _ _ _ _ _ _ c.requires _ c.wide-a.ensures _ _ _ c.wide.ensures c.wide-2.ensures c.leavable.ensures
    (failed refl c.if-not-leavable.true-raw) _ c.refused.ensures

pub leave-next-requires : goal.leave-next-requires
leave-next-requires c =
    can_leave _ _ _ _ _ _ _ _ _ c.requires _ c.wide-a.ensures _ _ _ c.wide.ensures c.wide-2.ensures c.leavable.ensures
    (held refl c.if-not-leavable.false-raw)

pub returns-clause-by_test : goal.returns-clause-by_test
returns-clause-by_test c =
    handed_yes _ _ _ _ _ _ _ _ _ c.requires _ c.wide-a.ensures _ _ _ c.wide.ensures c.wide-2.ensures c.leavable.ensures
    (held refl c.if-not-leavable.false-raw) _ _ _ _ _ c.leave-next.ensures
