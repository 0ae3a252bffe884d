-- Every page of the span is looked up before the first byte is copied: one, or in a loop.
use mathlib.Core.Path.{◌≡◌, refl, sym, ap, ◌∙◌}
use mathlib.Core.List.{List, []}
use Prim.Native.Nat.{ℕ, ◌<◌}
use native.Mathlib.Omega.{arith}
use lib.ListN.{length}
use Rattle.machine.specs.Machine.{look, asked}
use Rattle.memory.specs.Memory.{Memory, memory, sizes_of, lengths}
use Rattle.laws.specs.Models.{check_of}
use Rattle.laws.specs.Spans.{span_inside, read_lengths}
use Rattle.reading.proofs.Reading.{resident_none, resident_more, seen_refused, seen_frame, read_early, read_stopped, read_copied}
use Rattle.lookup.specs.Ready.{Lookable}
use Rattle.spans.specs.Parts.{Span, Part}
use Rattle.spans.specs.PartLaws.{one_page}
use Rattle.reading.specs.Copies.{looked_low, looked_copied}
use Rattle.lookup.proofs.Sights.{lookable, look_asked}
use Rattle.std.proofs.lemmas.Result.{err_from_is_err_and}
use Rattle.reading.proofs.Checked.{page_fits, span_ready, span_is, pages_low, next_page}
use Rattle.reading.proofs.read.Goals as goal
use Rattle.reading.proofs.read.Goals.{After-span_inside, In_ok-check, In-loop-page, Then-pages-eq1}

-- the memory lent, with any link
abbrev lent : After-span_inside → List ℕ → Memory
lent s link =
    let a = s.args in
    memory a.head a.index.now a.count.now a.table.now a.helper.now a.stack.now a.cache.now link a.ram.now

-- the checks passed
checked : (c : In_ok-check) (link : List ℕ)
    → let a = c.args in
    0 ≡ check_of a.head (read_lengths (memory a.head a.index.now a.count.now a.table.now a.helper.now a.stack.now a.cache.now link a.ram.now)) a.space
    (span_inside a.head a.address (length a.buffer.now))
checked c link = c.in_ok-check.ensures ∙ ap (check_of _ _ _) c.span_inside.ensures

span : (c : In_ok-check) → let a = c.args in Span a.head a.space a.address (length a.buffer.now) a.ram.now
span c = span_is _ _ _ _ _ _ (checked c []) refl _ refl

pages : (c : In_ok-check)
    → let a = c.args in
    Lookable a.head a.space a.index.now a.count.now a.table.now a.helper.now a.stack.now a.cache.now
pages c =
    let y = span_ready _ _ _ _ _ _ (checked c []) refl in
    lookable _ _ _ _ _ _ _ _ _ _ y.sizes_ok_lem y.space y.lent

-- a span of one page
module _ (c : Then-pages-eq1) (g : Span c.args.head c.args.space c.args.address (length c.args.buffer.now) c.args.ram.now) where
  part : Part c.args.head c.args.space c.args.address (length c.args.buffer.now) c.args.ram.now
  part = one_page _ _ _ _ _ g (sym c.pages-pages.ensures ∙ c.if-pages-eq1.true)

  -- the look passes
  asks : Lookable c.args.head c.args.space c.args.index.now c.args.count.now c.args.table.now c.args.helper.now c.args.stack.now c.args.cache.now
      → (link : List ℕ)
      → let a = c.args in
      asked (sizes_of a.head) (look a.space c.page_of-first.result
      (lengths (memory a.head a.index.now a.count.now a.table.now a.helper.now a.stack.now a.cache.now link a.ram.now))) ≡ 0
  asks looks link =
      look_asked _ _ _ _ _ _ _ _ _
      (looks _
      (next_page c.args.head _ _ _ _ _ g.sizes_ok_lem g.ends c.page_of-first.ensures c.pages-pages.ensures (omega arith) (omega (arith, c.if-pages-eq1.true))))
      link c.args.ram.now

-- the page looked up next
module _ (c : In-loop-page) (g : Span c.args.head c.args.space c.args.address (length c.args.buffer.now) c.args.ram.now) where
  looked_inside : c.loop-page.page < c.args.head.pages
  looked_inside =
      next_page c.args.head _ _ _ _ _ g.sizes_ok_lem g.ends c.page_of-first.ensures c.pages-pages.ensures c.loop-page.auto.page
      (omega (arith, c.loop-page-test.true))

  looked_small : c.loop-page.page < 262144
  looked_small = page_fits c.args.head _ g.sizes_ok_lem looked_inside

pub returns-in_err-check : goal.returns-in_err-check
returns-in_err-check c =
    let p = err_from_is_err_and c.from_residual.result c.from_residual.ensures.1 in
    λ link.
    rw (p.1, p.2)
    (read_early _ _ (lent (goal.at.returns-in_err-check c).After-span_inside link) _ _ refl _
    (c.in_err-check.ensures ∙ ap (check_of _ _ _) c.span_inside.ensures))

pub page_of-first-requires : goal.page_of-first-requires
page_of-first-requires c = (span (goal.at.page_of-first-requires c).In_ok-check).sizes_ok_lem

pub pages-pages-requires : goal.pages-pages-requires
pages-pages-requires c = let g = span (goal.at.pages-pages-requires c).In_ok-check in (g.sizes_ok_lem, g.ends)

-- ---- a span of one page
pub overflow_cast-first : goal.overflow_cast-first
overflow_cast-first c =
    let g = span (goal.at.overflow_cast-first c).In_ok-check in
    omega (
      arith,
      page_fits c.args.head c.page_of-first.result g.sizes_ok_lem
          (next_page c.args.head _ _ _ _ _ g.sizes_ok_lem g.ends c.page_of-first.ensures c.pages-pages.ensures (omega arith) (omega (arith, c.if-pages-eq1.true))),
    )

pub look_checked-seen-requires : goal.look_checked-seen-requires
look_checked-seen-requires c =
    let g = span (goal.at.look_checked-seen-requires c).In_ok-check in
    pages (goal.at.look_checked-seen-requires c).In_ok-check _
    (next_page c.args.head _ _ _ _ _ g.sizes_ok_lem g.ends c.page_of-first.ensures c.pages-pages.ensures (omega arith) (omega (arith, c.if-pages-eq1.true)))

pub returns-in_default : goal.returns-in_default
returns-in_default c = λ link.
    read_stopped _ _ (lent (goal.at.returns-in_default c).After-span_inside link) _ _ (checked (goal.at.returns-in_default c).In_ok-check link) refl
    _ _ c.page_of-first.ensures c.pages-pages.ensures _ (omega arith) (omega (arith, c.if-pages-eq1.true)) (resident_none _ _ _)
    c.look_checked-seen.result (c.look_checked-seen.ensures link _) _ (rw c.reason.ensures (seen_refused _ c.in_default.ensures))

pub copy_frame-requires : goal.copy_frame-requires
copy_frame-requires c = (
  (_, part (goal.at.copy_frame-requires c).Then-pages-eq1 (span (goal.at.copy_frame-requires c).In_ok-check)),
  looked_low (lent (goal.at.copy_frame-requires c).After-span_inside []) _ _ _ (part (goal.at.copy_frame-requires c).Then-pages-eq1 (span (goal.at.copy_frame-requires c).In_ok-check)) _ _ c.page_of-first.ensures
      c.look_checked-seen.result (seen_frame _ _ c.in-Ok.ensures) (asks (goal.at.copy_frame-requires c).Then-pages-eq1 (span (goal.at.copy_frame-requires c).In_ok-check) (pages (goal.at.copy_frame-requires c).In_ok-check) []) (c.look_checked-seen.ensures [] _),
)

pub returns-then-pages-eq1 : goal.returns-then-pages-eq1
returns-then-pages-eq1 c = λ link.
    let k = lent (goal.at.returns-then-pages-eq1 c).After-span_inside link in
    read_copied _ _ k _ _ (checked (goal.at.returns-then-pages-eq1 c).In_ok-check link) refl _ _ c.page_of-first.ensures c.pages-pages.ensures
    _ (omega (arith, c.if-pages-eq1.true))
    (resident_more k _ _ _ (omega arith) (resident_none _ _ _) (asks (goal.at.returns-then-pages-eq1 c).Then-pages-eq1 (span (goal.at.returns-then-pages-eq1 c).In_ok-check) (pages (goal.at.returns-then-pages-eq1 c).In_ok-check) link) c.look_checked-seen.result (c.look_checked-seen.ensures link _) _
    (seen_frame _ _ c.in-Ok.ensures)) _
    (looked_copied k _ _ _ (part (goal.at.returns-then-pages-eq1 c).Then-pages-eq1 (span (goal.at.returns-then-pages-eq1 c).In_ok-check)) _ _ c.page_of-first.ensures c.look_checked-seen.result (seen_frame _ _ c.in-Ok.ensures) (asks (goal.at.returns-then-pages-eq1 c).Then-pages-eq1 (span (goal.at.returns-then-pages-eq1 c).In_ok-check) (pages (goal.at.returns-then-pages-eq1 c).In_ok-check) link)
    (c.look_checked-seen.ensures link _) _ c.copy_frame.ensures)

-- ---- any other span
pub overflow_add-page-end : goal.overflow_add-page-end
overflow_add-page-end c =
    let g = span (goal.at.overflow_add-page-end c).In_ok-check in
    omega (arith, c.page_of-first.ensures, c.pages-pages.ensures, pages_low c.args.head _ _ g.sizes_ok_lem g.ends)

pub loop-page-init : goal.loop-page-init
loop-page-init c = λ link. resident_none _ _ _

pub overflow_cast-page : goal.overflow_cast-page
overflow_cast-page c = omega (arith, looked_small (goal.at.overflow_cast-page c).In-loop-page (span (goal.at.overflow_cast-page c).In_ok-check))

pub look_checked-found-requires : goal.look_checked-found-requires
look_checked-found-requires c = pages (goal.at.look_checked-found-requires c).In_ok-check _ (looked_inside (goal.at.look_checked-found-requires c).In-loop-page (span (goal.at.look_checked-found-requires c).In_ok-check))

pub returns-in_default-frame_seen : goal.returns-in_default-frame_seen
returns-in_default-frame_seen c = λ link.
    read_stopped _ _ (lent (goal.at.returns-in_default-frame_seen c).After-span_inside link) _ _ (checked (goal.at.returns-in_default-frame_seen c).In_ok-check link) refl
    _ _ c.page_of-first.ensures c.pages-pages.ensures _ c.loop-page.auto.page (omega (arith, c.loop-page-test.true)) (c.loop-page.invariant link)
    c.look_checked-found.result (c.look_checked-found.ensures link _) _ (rw c.reason-in_default-frame_seen.ensures (seen_refused _ c.in_default-frame_seen.ensures))

pub loop-page-preserved : goal.loop-page-preserved
loop-page-preserved c =
    λ link.
    resident_more (lent (goal.at.loop-page-preserved c).After-span_inside link) _ _ _ c.loop-page.auto.page (c.loop-page.invariant link)
    (look_asked _ _ _ _ _ _ _ _ _ (pages (goal.at.loop-page-preserved c).In_ok-check _ (looked_inside (goal.at.loop-page-preserved c).In-loop-page (span (goal.at.loop-page-preserved c).In_ok-check))) link c.args.ram.now)
    c.look_checked-found.result (c.look_checked-found.ensures link _) _ (seen_frame _ _ c.in-Ok-frame_seen.ensures)

pub copy_out-requires : goal.copy_out-requires
copy_out-requires c =
    let y = span_ready _ _ _ _ _ _ (checked (goal.at.copy_out-requires c).In_ok-check []) refl in
    (span (goal.at.copy_out-requires c).In_ok-check, y.lent.table refl)

pub returns : goal.returns
returns c = λ link.
    read_copied _ _ (lent (goal.at.returns c).After-span_inside link) _ _ (checked (goal.at.returns c).In_ok-check link) refl _ _ c.page_of-first.ensures c.pages-pages.ensures
    _ (omega arith) (c.loop-page.invariant link) _
    (c.copy_out.ensures _ _ _ _ _ link)
