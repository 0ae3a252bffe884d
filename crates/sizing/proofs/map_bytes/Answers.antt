-- Sizes within their limits leave every product and every sum small.
use native.Mathlib.Omega.{arith}
use Rattle.machine.proofs.Laws.Sizes.{fit}
use Rattle.sizing.proofs.map_bytes.Goals as goal

pub overflow_mul-contents : goal.overflow_mul-contents
overflow_mul-contents c = omega (arith, c.wide.ensures, (fit _ c.requires).few_spaces)

pub overflow_add-contents : goal.overflow_add-contents
overflow_add-contents c = omega (arith, c.wide.ensures, (fit _ c.requires).few_spaces)

pub overflow_mul-result : goal.overflow_mul-result
overflow_mul-result c = omega (arith, c.all_places.ensures, (fit _ c.requires).few_places)

pub overflow_add-result : goal.overflow_add-result
overflow_add-result c =
    let f = fit _ c.requires in omega (arith, c.all_places.ensures, c.wide.ensures, f.few_spaces, f.few_places)

pub overflow_mul-result-2 : goal.overflow_mul-result-2
overflow_mul-result-2 c = omega (arith, c.wide-2.ensures, (fit _ c.requires).few_frames)

pub overflow_add-result-2 : goal.overflow_add-result-2
overflow_add-result-2 c =
    let f = fit _ c.requires in
    omega (
      arith,
      c.wide-2.ensures,
      c.all_places.ensures,
      c.wide.ensures,
      f.few_spaces,
      f.few_places,
      f.few_frames,
    )

pub overflow_mul-result-3 : goal.overflow_mul-result-3
overflow_mul-result-3 c =
    let f = fit _ c.requires in
    omega (
      arith,
      c.wide-2.ensures,
      c.all_places.ensures,
      c.wide.ensures,
      f.few_spaces,
      f.few_places,
      f.few_frames,
    )

pub returns : goal.returns
returns c = omega (arith, c.wide-2.ensures, c.all_places.ensures, c.wide.ensures)
