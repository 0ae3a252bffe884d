-- The reply's numbers are the answer's.
use mathlib.Core.Path.{refl, ap, ◌∙◌}
use mathlib.Core.List.{[]}
use Rattle.requests.specs.Codes.{encoded}
use Rattle.requests.specs.Laws.{listed_numbers}
use Rattle.requests.proofs.encode_listed.Goals as goal

pub returns : goal.returns
returns o c =
    λ records e. (c.encode.ensures [] [] refl) ∙ ap encoded (c.of_listed.ensures [] []) ∙ listed_numbers _ c.args.a records e
