-- Frame times page size, and the offset.
use native.Mathlib.Omega.{arith}
use mathlib.Core.Path.{ap₂}
use Prim.Native.Nat.{◌+◌}
use Rattle.checks.specs.Shifts.{shift_fits}
use Rattle.spans.specs.Shifted.{frame_shifted, frame_small, offset_low, offset_exact, page_small}
use Rattle.spans.proofs.ram_place.Goals as goal

pub overflow_shl-result : goal.overflow_shl-result
overflow_shl-result c = omega (arith, shift_fits c.args.h c.requires)

pub overflow_add-result : goal.overflow_add-result
overflow_add-result c =
    omega (
      arith,
      frame_shifted c.args.h c.requires c.args.frame _
          c.ranges.frame.fits c.wide.ensures,
      frame_small c.args.h c.requires
          c.args.frame c.ranges.frame.fits,
      offset_low c.args.h
          c.requires _ _ c.offset.ensures,
      page_small c.args.h c.requires,
    )

pub returns : goal.returns
returns c =
    ap₂ ◌+◌ (frame_shifted c.args.h c.requires c.args.frame _
    c.ranges.frame.fits c.wide.ensures)
    (offset_exact c.args.h c.requires _ _ c.offset.ensures)
