-- The reply's numbers are the answer's.
use mathlib.Core.Path.{ap, ◌∙◌}
use mathlib.Core.List.{[]}
use Rattle.requests.specs.Codes.{encoded}
use Rattle.requests.proofs.encode_copied.Goals as goal

pub returns : goal.returns
returns o c = λ buffer e. (c.encode.ensures buffer [] e) ∙ ap encoded (c.of_copied.ensures buffer [])
