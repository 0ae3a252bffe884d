-- The check, then the page's look, and what it found.
use Rattle.std.specs.Prelude.{◌≡◌, refl, List, [], ℕ, ◌/◌, ◌<◌}
use Rattle.std.proofs.Common.{arith, ap, ◌∙◌}
use Rattle.std.proofs.lemmas.Result.{err_from_is_err_and}
use Rattle.refusals.proofs.Laws.{not_none}
use Rattle.machine.proofs.Laws.Sizes.{fit}
use Rattle.memory.specs.Memory.{Memory, memory, sizes_of}
use Rattle.laws.specs.Models.{check_of}
use Rattle.translating.specs.Ready.{Translatable}
use Rattle.translating.specs.Translating.{seen_refused, seen_frame, translate_early, check_passed, page_inside_lem, translate_refused, translate_at}
use Rattle.translating.proofs.translate.Goals as goal
use Rattle.translating.proofs.translate.Goals.{After-address_inside, In_ok-check}

-- the memory lent, with any link and RAM
abbrev lent : After-address_inside → List ℕ → List ℕ → Memory
lent c link ram =
    let a = c.args in
    memory a.head a.index.now a.count.now a.table.now a.helper.now a.stack.now a.cache.now link ram

-- what the check has shown
module _ (c : In_ok-check) where
  abbrev passed : Memory
  passed =
      let a = c.args in
      memory a.head a.index.now a.count.now a.table.now a.helper.now a.stack.now a.cache.now [] []

  ready : let a = c.args in
      Translatable a.head a.space a.address a.index.now a.count.now a.table.now a.helper.now a.stack.now a.cache.now
  ready = check_passed _ _ passed 0 (c.in_ok-check.ensures ∙ ap (check_of _ _ _) c.address_inside.ensures) refl

  inside : (page : ℕ) → page ≡ c.args.address / (sizes_of c.args.head).page → page < c.args.head.pages
  inside page is = omega (arith, page_inside_lem _ _ passed ready)

pub returns-in_err-check : goal.returns-in_err-check
returns-in_err-check c =
    let p = err_from_is_err_and c.from_residual.result c.from_residual.ensures.1 in
    λ link ram.
    rw (p.1, p.2)
    (translate_early _ _ (lent (goal.at.returns-in_err-check c).After-address_inside link ram) _
    (c.in_err-check.ensures ∙ ap (check_of _ _ _) c.address_inside.ensures) (not_none _))

pub page_of-page-requires : goal.page_of-page-requires
page_of-page-requires c = (ready c).sizes_ok_lem

pub overflow_cast-page : goal.overflow_cast-page
overflow_cast-page c =
    let s = (goal.at.overflow_cast-page c).In_ok-check in
    omega (arith, inside s _ c.page_of-page.ensures, (fit _ (ready s).sizes_ok_lem).few_pages)

pub look_checked-found-requires : goal.look_checked-found-requires
look_checked-found-requires c =
    let s = (goal.at.look_checked-found-requires c).In_ok-check in
    (ready s).pages _ (inside s _ c.page_of-page.ensures)

pub returns-in_err-frame : goal.returns-in_err-frame
returns-in_err-frame c =
    let s = (goal.at.returns-in_err-frame c).In_ok-check in
    let p = err_from_is_err_and c.from_residual-in_err-frame.result c.from_residual-in_err-frame.ensures.1 in
    λ link ram.
    rw (p.1, p.2)
    (translate_refused _ _ (lent (goal.at.returns-in_err-frame c).After-address_inside link ram) (ready s) _ c.page_of-page.ensures
    c.look_checked-found.result (c.look_checked-found.ensures link ram) _ (seen_refused _ _ c.in_err-frame.ensures))

pub ram_place-requires : goal.ram_place-requires
ram_place-requires c = (ready (goal.at.ram_place-requires c).In_ok-check).sizes_ok_lem

pub returns : goal.returns
returns c =
    let s = (goal.at.returns c).In_ok-check in
    λ link ram.
    translate_at _ _ (lent (goal.at.returns c).After-address_inside link ram) (ready s) _ c.page_of-page.ensures c.look_checked-found.result
    (c.look_checked-found.ensures link ram) _ _ (seen_frame _ _ c.in_ok-frame.ensures) c.ram_place.ensures
