-- The store alone where every page is resident; else the absent pages counted, what settles the write, the touches, the stores.
use mathlib.Core.Path.{refl, sym, ap, ◌∙◌}
use Rattle.refusals.specs.Refusals.{refusal}
use Rattle.refusals.proofs.Laws.{not_none}
use Prim.Native.Nat.{◌+◌}
use native.Mathlib.Omega.{arith}
use Rattle.memory.specs.Memory.{Memory, memory}
use Rattle.surveying.specs.Surveys.{AllResident}
use Rattle.faulting.proofs.Written.{Decided, end_inside, end_small, span_lookable, span_touchable, first_inside, decided, refused_short, resident_decided}
use Rattle.faulting.proofs.Written.{resident_stay, span_there, table_there, written}
use Rattle.faulting.proofs.WrittenOver.{next_span, next_table, written_over}
use Rattle.spanning.proofs.write_span.Goals as goal
use Rattle.spanning.proofs.write_span.Goals.{After-settle-short, Else-all_resident}

-- the memory lent
abbrev lent : After-settle-short → Memory
lent s =
    let a = s.args in
    memory a.head a.index.now a.count.now a.table.now a.helper.now a.stack.now a.cache.now a.link.now a.ram.now

-- some page isn't resident
some_absent : (c : Else-all_resident)
    → let a = c.args in
    AllResident a.head a.space a.first (a.first + a.pages) a.count.now a.table.now a.helper.now a.stack.now a.cache.now → ⊥
some_absent c = c.all_resident.ensures.no c.if-all_resident.false

decision : (c : After-settle-short)
    → Decided (lent c) c.args.space c.args.address c.args.bytes.now (refusal c.settle-short.result)
decision c = decided c.requires (c.all_resident.ensures.no c.if-all_resident.false) c.count_absent-absent.ensures c.settle-short.ensures

pub overflow_add-end : goal.overflow_add-end
overflow_add-end c = omega (arith, end_small c.requires)

pub all_resident-requires : goal.all_resident-requires
all_resident-requires c =
    let s = c.requires in
    (_, omega arith, end_inside s, span_lookable s)

pub store-requires : goal.store-requires
store-requires c = let s = c.requires in (span_there s, table_there s)

pub returns-then-all_resident : goal.returns-then-all_resident
returns-then-all_resident c =
    let s = c.requires in
    let all = c.all_resident.ensures.yes c.if-all_resident.true in
    written s (resident_decided s all) refl (resident_stay s all) c.store.ensures

pub count_absent-absent-requires : goal.count_absent-absent-requires
count_absent-absent-requires c = let s = c.requires in (_, omega arith, end_inside s, span_lookable s)

pub settle-short-requires : goal.settle-short-requires
settle-short-requires c =
    let s = c.requires in
    (first_inside s (some_absent (goal.at.settle-short-requires c).Else-all_resident), span_lookable s)

pub returns-in-Err : goal.returns-in-Err
returns-in-Err c =
    let told = ap refusal c.in-Err.is in
    rw told at (refused_short c.requires (decision (goal.at.returns-in-Err c).After-settle-short) (λ e. not_none _ (sym told ∙ e)))

pub touch_all-next-requires : goal.touch_all-next-requires
touch_all-next-requires c = let s = c.requires in (span_there s, span_touchable s)

pub store-requires-2 : goal.store-requires-2
store-requires-2 c =
    let s = c.requires in
    (next_span s c.touch_all-next.ensures, next_table s c.touch_all-next.ensures)

pub returns : goal.returns
returns c =
    written_over c.requires c.touch_all-next.ensures (decision (goal.at.returns c).After-settle-short) (ap refusal c.in_default.is) c.store-2.ensures
