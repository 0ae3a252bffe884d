-- A call that passed the checks was lent enough of what it uses.
use Rattle.std.specs.Prelude.{◌≡◌, refl, true}
use Rattle.std.proofs.Common.{subst}
use Rattle.machine.specs.Machine.{Sizes, sizes_ok, Lent, Lending, lends_none, lends, uses_of, no_buffers, uses, enough, lent_ok, sizes_for, sizes_after, facts, Call}
use Rattle.machine.specs.Machine.{asked}
use Rattle.machine.proofs.Laws.Sizes.{both, passed, around_passed}
use Rattle.machine.proofs.Laws.Calls.{sizes_named_lem}
use Rattle.laws.specs.Refusals.{Long, long}
use Rattle.demands.specs.History.{CarriesBy, Carries}

lent_long : (z : Sizes) (d : Lending) (n : Lent) → CarriesBy d n → lent_ok z d ≡ true → Long (uses_of d) z n
unfolding enough
lent_long z lends_none n e p = long no_buffers z n refl
lent_long z (lends u l) n e p = subst (λ (x : Lent). Long u z x) e (long u z l (both (sizes_ok z) _ p).1)

pub asked_long : (z : Sizes) (c : Call) (n : Lent) → Carries c n → asked z c ≡ 0 → Long (uses c) (sizes_after z c) n
unfolding asked
asked_long z c n e p =
    subst (λ (y : Sizes). Long (uses c) y n) (sizes_named_lem z c p)
    (lent_long (sizes_for z c) (facts c).lending n e (passed _ _ _ (around_passed (facts c).given _ p)).first)
