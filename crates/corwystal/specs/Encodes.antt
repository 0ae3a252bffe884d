-- What an exported call answers: the numbers of an answer that keeps the call's promise.
use Rattle.std.specs.Prelude.{◌≡◌}
use Rattle.machine.specs.Machine.{Answer}
use Rattle.requests.specs.Codes.{encoded, numbers_of}
use Rattle.requests.specs.declared.Answer as coded

pub record Encodes (A : Type 0) (says : A → Answer) (promise : A → Type 0) (r : coded.Answer) : Type 0 where
  pub answer : A
  pub numbers_are : numbers_of r ≡ encoded (says answer)
  pub promised : promise answer
