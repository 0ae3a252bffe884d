-- The reply's numbers are the answer's.
use mathlib.Core.Path.{refl, ap, ◌∙◌}
use mathlib.Core.List.{[]}
use Rattle.requests.specs.Codes.{encoded}
use Rattle.requests.proofs.encode_free.Goals as goal

pub returns : goal.returns
returns o c = (c.encode.ensures [] [] refl) ∙ ap encoded (c.of_free.ensures [] [])
