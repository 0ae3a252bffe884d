-- The touch, and its refusal or the store.
use mathlib.Core.Path.{refl, ap, ◌∙◌, sym}
use Rattle.refusals.proofs.Laws.{not_none}
use Rattle.faulting.specs.Writing.{refused_with}
use Rattle.machine.specs.Machine.{span_pages}
use Prim.Native.Nat.{◌/◌}
use lib.ListN.{length}
use Rattle.memory.specs.Memory.{Memory, memory, sizes_of}
use Rattle.faulting.specs.Written.{Spanned}
use Rattle.faulting.proofs.Written.{span_there, span_touchable}
use Rattle.faulting.proofs.WrittenOver.{next_span, next_table, one_refused, one_done}
use Rattle.faulting.proofs.write_one.Goals as goal
use Rattle.faulting.proofs.write_one.Goals.{Start}

-- the memory lent
abbrev lent : Start → Memory
lent s =
    let a = s.args in
    memory a.head a.index.now a.count.now a.table.now a.helper.now a.stack.now a.cache.now a.link.now a.ram.now

span : (s : Start)
    → let z = sizes_of s.args.head in
    Spanned (lent s) s.args.space s.args.address s.args.bytes.now (s.args.address / z.page)
    (span_pages z s.args.address (length s.args.bytes.now))
span s = record { passes = s.requires.0; first_is = refl; pages_is = refl }

-- the touch, from where its number is known
pub touch_one-touched-requires : goal.touch_one-touched-requires
touch_one-touched-requires c =
    (span_there (span (goal.at.touch_one-touched-requires c).Start), span_touchable (span (goal.at.touch_one-touched-requires c).Start), c.requires.1)

pub returns-in-Err : goal.returns-in-Err
returns-in-Err c =
    let fails = ap refused_with c.in-Err.is in
    rw fails at (one_refused (span (goal.at.returns-in-Err c).Start) c.requires.1 c.touch_one-touched.ensures (λ e. not_none _ (sym fails ∙ e)))

pub store-requires : goal.store-requires
store-requires c =
    let s = span (goal.at.store-requires c).Start in
    (next_span s c.touch_one-touched.ensures.span, next_table s c.touch_one-touched.ensures.span)

pub returns : goal.returns
returns c =
    one_done (span (goal.at.returns c).Start) c.requires.1 c.touch_one-touched.ensures (ap refused_with c.in_default.is) c.store.ensures
