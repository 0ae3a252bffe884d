-- A refusal changes nothing, so the head that stays is the answer's.
use Rattle.std.proofs.Common.{refl, ap}
use Rattle.std.proofs.lemmas.Result.{err_from_is_err_and}
use Rattle.memory.specs.Memory.{Memory}
use Rattle.board.proofs.read_map.Goals as goal

pub returns-in_err-loaded : goal.returns-in_err-loaded
returns-in_err-loaded c =
    λ ram.
    let p = err_from_is_err_and c.from_residual.result c.from_residual.ensures.1 in
    let did = rw c.in_err-loaded.was at c.read_map-loaded.ensures ram in
    rw (p.1, p.2) (rw (ap (λ (k : Memory). k.head) (did.stays refl)) at did)

pub returns : goal.returns
returns c = λ ram. rw c.in_ok-loaded.was at c.read_map-loaded.ensures ram
