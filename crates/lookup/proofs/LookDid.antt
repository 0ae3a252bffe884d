-- What a look did.
use Rattle.std.specs.Prelude.{◌≡◌, refl, ℕ}
use Rattle.std.proofs.Common.{sym, ◌∙◌}
use Rattle.std.proofs.Math.Path.{ap}
use Rattle.machine.specs.declared.PageCall.TheVariants.{Look}
use Rattle.machine.specs.Machine.{State, look, asked, Answer, accepted, answer, after}
use Rattle.memory.specs.Memory.{Memory, sizes_of, lengths}
use Rattle.lookup.specs.declared.Sight.{Sight}
use Rattle.promise.specs.Holds.{Holds}
use Rattle.promise.specs.Did.{Did}
use Rattle.lookup.specs.Models.{SeenAt, look_says, Looks, LookDone}
use Rattle.laws.specs.Models.{look_lengths}
use Rattle.laws.specs.Refusals.{passed_step, kept_did, checked_did, admitted}
use Rattle.laws.specs.Checks.{page_check}
use Rattle.lookup.specs.Lookup.{seen_honest}
use Rattle.lookup.proofs.Looking.{look_later, look_says_lem}

module _ (i b : ℕ) (k : Memory) (passes : asked (sizes_of k.head) (look i b (lengths k)) ≡ 0) (s : Sight) (seen : SeenAt k i b s) where
  look_honest : (m : State) → Holds m k → (look_says s ≡ answer m (look i b (lengths k))) × (after m (look i b (lengths k)) ≡ m)
  unfolding accepted
  look_honest m h =
      let c = look i b (lengths k) in
      let e : asked m.sizes c ≡ 0 = ap (λ z. asked z c) (sym h.sizes_are) ∙ passes in
      let g = admitted m.sizes Look i b (lengths k) e in
      let o = passed_step m c e in
      (look_says_lem m _ s (seen_honest m k h i b g.space g.page s seen) ∙ ap (λ x. x.answer) (sym o), ap (λ x. x.after) o)

pub look_did : (i b : ℕ) (k : Memory) (a : Answer) (k' : Memory) → LookDone i b k a k' → Did (look i b) k a k'
look_did i b k a k' d =
    checked_did (look i b) k _ (page_check k i b Look (look_lengths k) refl) (Looks k i b) a k' d
    (λ e r.
    rw (r.answer_is, r.same)
    (kept_did (look i b) k (look_says r.sight) e (look_later k i b (lengths k) r.sight r.seen) (tt, tt) (look_honest i b k e r.sight r.seen)))
