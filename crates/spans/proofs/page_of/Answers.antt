-- The page is the quotient by the page's bytes.
use mathlib.Core.Path.{ap, ◌∙◌}
use Prim.Native.Nat.{ℕ, ◌/◌}
use Rattle.spans.specs.Shifted.{size_exact}
use Rattle.spans.proofs.page_of.Goals as goal

pub returns : goal.returns
returns c = c.page.ensures ∙ ap (λ (p : ℕ). c.args.x / p) (size_exact c.args.h c.requires)
