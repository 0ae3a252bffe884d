-- The words of the page are the model's.
use Rattle.filling.proofs.Pages.{page_filled}
use Rattle.filling.proofs.fill_page.Goals as goal

pub returns : goal.returns
returns c =
    page_filled _ _ _ _ _ _ _ _ _ _ _ _ _ _ _ _
    c.map_page-new.ensures
