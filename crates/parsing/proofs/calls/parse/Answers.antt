-- A page call's name is part of the line.
use mathlib.Core.Path.{sym, ◌∙◌}
use Rattle.parsing.specs.Laws.{named_inside}
use Rattle.parsing.proofs.calls.parse.Goals as goal

pub page_line-requires : goal.page_line-requires
page_line-requires c = named_inside _ _ _ (sym c.page_named.ensures ∙ c.in-Some.is)
