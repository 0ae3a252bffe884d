-- The page size is the power of two that its shift says.
use Rattle.std.specs.Prelude.{◌≡◌, ◌*◌, ◌%◌, ◌^◌}
use Rattle.std.proofs.Common.{arith, one-mul, ◌∙◌, shl_exact}
use Rattle.checks.specs.Shifts.{shift_fits}
use Rattle.saving.proofs.put_sizes.Goals as goal

pub overflow_shl-page : goal.overflow_shl-page
overflow_shl-page c = omega (arith, shift_fits c.args.head c.requires.0)

pub returns : goal.returns
returns c =
    let k = c.args.head.page.shift in
    let few = shift_fits c.args.head c.requires.0 in
    let page : 1 * 2 ^ k % 2 ^ 32 ≡ 2 ^ k = shl_exact 1 k 32 (omega arith) (omega arith) ∙ one-mul (2 ^ k) in
    rw (← page) c.put_words.ensures
