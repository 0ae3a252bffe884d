-- What free did.
use Rattle.std.proofs.Common.{sym, ap, ◌∙◌}
use Rattle.machine.specs.Machine.{free, asked, Answer, accepted}
use Rattle.memory.specs.Memory.{Memory}
use Rattle.promise.specs.Did.{Did}
use Rattle.pool.specs.Models.{count_says, FreeDone}
use Rattle.laws.specs.Refusals.{kept_did, checked_did, passed_step}
use Rattle.laws.specs.Checks.{free_check}
use Rattle.pool.proofs.Freeing.{free_later, free_honest}

pub free_did : (k : Memory) (a : Answer) (k' : Memory) → FreeDone k a k' → Did (λ _. free) k a k'
unfolding accepted
free_did k a k' d =
    checked_did (λ _. free) k _ (free_check k) _ a k' d
    (λ e r.
    rw (r.0, r.1)
    (kept_did (λ _. free) k (count_says k.head) e (free_later k.head) (tt, tt)
    (λ m H.
    let o = passed_step m free (ap (λ z. asked z free) (sym H.sizes_are) ∙ e) in
    (free_honest m k H ∙ sym (ap (λ r. r.answer) o), ap (λ r. r.after) o))))
