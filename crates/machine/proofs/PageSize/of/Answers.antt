-- The loop tries the nine sizes, from the least to the greatest.
use Rattle.std.specs.Prelude.{◌≡◌, refl, ◌≤◌}
use Rattle.std.proofs.Common.{arith}
use lib.Count.{count_trailing_zeros}
use Rattle.machine.proofs.Laws.PageSizes.{one_more, size_made, none_made, shifted_in}
use Rattle.machine.proofs.PageSize.of.Goals as goal

least : count_trailing_zeros 32 256 ≡ 8
unfolding count_trailing_zeros
least = refl

greatest : count_trailing_zeros 32 65536 ≡ 16
unfolding count_trailing_zeros
greatest = refl

pub loop-shift-init : goal.loop-shift-init
loop-shift-init c k l h = absurd (omega (arith, least))

pub returns-then-bytes-shift : goal.returns-then-bytes-shift
returns-then-bytes-shift c =
    let low : 8 ≤ c.loop-shift.shift = omega (arith, least) in
    let high : c.loop-shift.shift ≤ 16 = omega (arith, greatest) in
    size_made _ _ low high (rw (shifted_in _ high) at c.if-bytes-shift.true)

pub loop-shift-preserved : goal.loop-shift-preserved
loop-shift-preserved c =
    let high : c.loop-shift.shift ≤ 16 = omega (arith, greatest) in
    one_more _ _ c.loop-shift.invariant (rw (shifted_in _ high) at c.if-bytes-shift.false)

pub returns : goal.returns
returns c = none_made _ (λ k l h. c.loop-shift.invariant k l (omega (arith, greatest)))

pub returns-else-bytes-shift : goal.returns-else-bytes-shift
returns-else-bytes-shift c =
    let high : c.loop-shift.shift ≤ 16 = omega (arith, greatest) in
    none_made _ (λ k l h. one_more _ _ c.loop-shift.invariant (rw (shifted_in _ high) at c.if-bytes-shift.false) k l (omega (arith, greatest)))
