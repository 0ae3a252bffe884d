-- The part lies in the frame, and all of dst is filled.
use mathlib.Core.Path.{◌≡◌, ap, ap₂, ◌∙◌}
use mathlib.Core.List.{List, [], ◌++◌, append-nil}
use Prim.Native.Nat.{ℕ, ◌+◌, ◌-◌}
use native.Mathlib.Nat.{add-sub_cancel_left}
use native.Mathlib.Omega.{arith}
use lib.ListN.{length, take, drop, drop_of_length-le}
use Rattle.spans.specs.Parts.{RamPlace}
use Rattle.spans.specs.PartLaws.{part_small, part_long}
use Rattle.reading.proofs.copy_frame.Goals as goal
use Rattle.reading.proofs.copy_frame.Goals.{After-ram_place-from}

in_frame : (c : After-ram_place-from) → RamPlace c.args.head c.args.x c.ram_place-from.result
in_frame c = record { frame = _; below = c.requires.1; is = c.ram_place-from.ensures }

filled : (from q n : ℕ) (ram dst dst' : List ℕ)
    → let src = take (from + n - from) (drop from ram) in
    from ≡ q → length src ≡ n → length dst ≡ n → dst' ≡ src ++ drop (length src) dst → dst' ≡ take n (drop q ram)
filled from q n ram dst dst' is long same e =
    let src = take (from + n - from) (drop from ram) in
    let rest : drop (length src) dst ≡ [] = drop_of_length-le dst {i = length src} (omega arith) in
    e
    ∙ ap (λ (l : List ℕ). src ++ l) rest
    ∙ append-nil src
    ∙ ap₂ (λ (c p : ℕ). take c (drop p ram)) (add-sub_cancel_left from n) is

pub copy-requires : goal.copy-requires
copy-requires c =
    let pre = c.requires.0.1 in
    let long = part_long _ _ _ _ _ pre _ (in_frame (goal.at.copy-requires c).After-ram_place-from) in
    (omega (arith, long, part_small _ _ _ _ _ pre), omega (arith, long))
