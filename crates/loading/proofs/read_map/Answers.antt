-- The contents, the lengths, the whole file; then its state.
use mathlib.Core.Path.{refl}
use Rattle.refusals.proofs.Laws.{not_none}
use Rattle.starting.proofs.Begins.{refused_so}
use Rattle.loading.proofs.Loaded.{bad_read, short_read, other_read, can_load, map_read}
use Rattle.memory.specs.Memory.{memory}
use Rattle.loading.proofs.read_map.Goals as goal

pub returns-in_default : goal.returns-in_default
returns-in_default c =
    bad_read _ _ _ _ _ _ _ _ _ _ c.contents_of.ensures c.in_default.is _ _ (refused_so c.not_started.ensures)

pub returns-in-Err : goal.returns-in-Err
returns-in-Err c =
    short_read _ _ _ _ _ _ _ _ _ _ c.contents_of.ensures _ c.in-Some.is _ c.in-Err.ensures (not_none _) _ _ (refused_so c.not_started-in-Err.ensures)

pub returns-then-not-inspect : goal.returns-then-not-inspect
returns-then-not-inspect c =
    other_read _ _ _ _ _ _ _ _ _ _ c.contents_of.ensures _ c.in-Some.is 0 c.in_default-check.ensures refl _
    c.inspect.ensures c.if-not-inspect.true _ _ (refused_so c.not_started-then-not-inspect.ensures)

pub load-after-requires : goal.load-after-requires
load-after-requires c =
    can_load _ c.args.head _ _ _ _ _ _ _ _ c.contents_of.ensures _ c.in-Some.is 0 c.in_default-check.ensures refl _
    c.inspect.ensures c.if-not-inspect.false

pub returns : goal.returns
returns c =
    map_read _ _ _ _ _ _ _ _ _ _ c.contents_of.ensures _ c.in-Some.is 0 c.in_default-check.ensures refl _
    c.inspect.ensures c.if-not-inspect.false (λ ram. memory _ _ _ _ _ _ _ _ ram) c.load-after.ensures
