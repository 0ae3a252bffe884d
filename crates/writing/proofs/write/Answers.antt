-- The check; the store alone where the one page of the span is resident; else one page or several.
use mathlib.Core.Path.{◌≡◌, refl, sym, ◌∙◌}
use Prim.Native.Nat.{ℕ, ◌/◌}
use native.Mathlib.Omega.{arith}
use lib.ListN.{length}
use Rattle.machine.specs.Machine.{write, asked, span_pages}
use Rattle.memory.specs.Memory.{Memory, memory, sizes_of, lengths}
use Rattle.refusals.proofs.Laws.{not_none}
use Rattle.laws.specs.Told.{early_refused}
use Rattle.faulting.proofs.Writing.{write_admitted}
use Rattle.faulting.specs.Written.{Spanned}
use Rattle.faulting.proofs.Written.{number_is, end_inside, end_small, span_lookable, one_part, one_resident, one_stored, resident_decided}
use Rattle.faulting.proofs.Written.{resident_stay, written}
use Rattle.writing.proofs.write.Goals as goal
use Rattle.writing.proofs.write.Goals.{In_default}

-- the memory lent
abbrev lent : In_default → Memory
lent s =
    let a = s.args in
    memory a.head a.index.now a.count.now a.table.now a.helper.now a.stack.now a.cache.now a.link.now a.ram.now

passes : (c : In_default)
    → asked (sizes_of c.args.head) (write c.args.space c.args.address c.args.bytes.now (lengths (lent c))) ≡ 0
passes c = sym (number_is (lent c) c.args.space c.args.address c.args.bytes.now c.in_default.ensures c.span_inside.ensures)

span : (c : In_default) {first pages : ℕ} → first ≡ c.args.address / (sizes_of c.args.head).page
    → pages ≡ span_pages (sizes_of c.args.head) c.args.address (length c.args.bytes.now)
    → Spanned (lent c) c.args.space c.args.address c.args.bytes.now first pages
span c f p = record { passes = passes c; first_is = f; pages_is = p }

pub returns-in-Err : goal.returns-in-Err
returns-in-Err c = early_refused (write _ _ _) _ _ (number_is _ _ _ _ c.in-Err.ensures c.span_inside.ensures) (not_none _)

pub page_of-first-requires : goal.page_of-first-requires
page_of-first-requires c = (write_admitted _ _ _ _ _ (passes (goal.at.page_of-first-requires c).In_default)).sizes_ok_lem

pub pages-pages-requires : goal.pages-pages-requires
pages-pages-requires c = let a = write_admitted _ _ _ _ _ (passes (goal.at.pages-pages-requires c).In_default) in (a.sizes_ok_lem, a.fits)

-- ---- a span of one page
pub overflow_cast-first : goal.overflow_cast-first
overflow_cast-first c = omega (arith, end_small (span (goal.at.overflow_cast-first c).In_default c.page_of-first.ensures c.pages-pages.ensures))

pub frame_of-frame-requires : goal.frame_of-frame-requires
frame_of-frame-requires c =
    let s = span (goal.at.frame_of-frame-requires c).In_default c.page_of-first.ensures c.pages-pages.ensures in
    (_, span_lookable s c.page_of-first.result (omega (arith, end_inside s, c.if-pages-eq1.true)))

pub store_frame-requires : goal.store_frame-requires
store_frame-requires c =
    let s = span (goal.at.store_frame-requires c).In_default c.page_of-first.ensures c.pages-pages.ensures in
    ((_, one_part s c.if-pages-eq1.true), c.if-frame-head.true)

pub returns-then-frame-head : goal.returns-then-frame-head
returns-then-frame-head c =
    let s = span (goal.at.returns-then-frame-head c).In_default c.page_of-first.ensures c.pages-pages.ensures in
    let below = c.if-frame-head.true in
    let all = one_resident s c.if-pages-eq1.true _ c.frame_of-frame.ensures below in
    written s (resident_decided s all) refl (resident_stay s all)
    (one_stored s c.if-pages-eq1.true _ c.frame_of-frame.ensures below c.store_frame.ensures)

pub write_one-requires : goal.write_one-requires
write_one-requires c =
    let s = span (goal.at.write_one-requires c).In_default c.page_of-first.ensures c.pages-pages.ensures in
    (s.passes, sym s.pages_is ∙ c.if-pages-eq1.true)

-- ---- any other span
pub write_span-requires : goal.write_span-requires
write_span-requires c = span (goal.at.write_span-requires c).In_default c.page_of-first.ensures c.pages-pages.ensures
