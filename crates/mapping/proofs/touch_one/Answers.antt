-- The page by touch's own promise, and its frame cleared around the bytes if it is new.
use Prim.Native.Nat.{◌<◌}
use native.Mathlib.Omega.{arith}
use Rattle.spans.specs.Parts.{Part}
use Rattle.spans.specs.PartLaws.{one_page}
use Rattle.paging.proofs.Touches.{new_below}
use Rattle.mapping.proofs.Touching.{in_span, one_span}
use Rattle.mapping.proofs.touch_one.Goals as goal
use Rattle.mapping.proofs.touch_one.Goals.{After-page_of-page}

all_of_one : (s : After-page_of-page) → Part s.args.head s.args.space s.args.address s.args.n s.args.ram.now
all_of_one s = one_page _ _ _ _ _ s.requires.0 s.requires.2

-- the page lies in the space
page_low : (c : After-page_of-page) → c.page_of-page.result < c.args.head.pages
page_low c = in_span c.requires.0 c.args.address _ (omega (arith, (all_of_one c).some_bytes)) c.page_of-page.ensures

pub touch_checked-touched-requires : goal.touch_checked-touched-requires
touch_checked-touched-requires c = c.requires.1 _ (page_low (goal.at.touch_checked-touched-requires c).After-page_of-page)

pub clear_new-requires : goal.clear_new-requires
clear_new-requires c =
    let g = c.requires.0 in
    let did = c.touch_checked-touched.ensures.by_index c.args.ram.now g.ram_long in (
      λ f w is. record { sizes_ok_lem = g.sizes_ok_lem; below = new_below _ _ _ _ _ did f w is; ram_long = g.ram_long },
      (all_of_one (goal.at.clear_new-requires c).After-page_of-page).fits,
    )

pub returns : goal.returns
returns c =
    let s = (goal.at.returns c).After-page_of-page in
    let did = c.touch_checked-touched.ensures.by_index c.args.ram.now c.requires.0.ram_long in
    one_span _ _ _ _ (all_of_one s) _ c.page_of-page.ensures c.touch_checked-touched.result.answer _ did c.touch_checked-touched.ensures.table_after
    c.clear_new.ensures
    (c.requires.1 _ (page_low s)).ready.table_long
