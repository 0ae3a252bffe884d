-- The part lies in the frame, and what comes back of it is what was stored.
use mathlib.Core.Path.{◌≡◌, refl, ap, ap₂, ◌∙◌}
use mathlib.Core.List.{List, ◌++◌, append-nil}
use Prim.Native.Nat.{ℕ, ◌+◌, ◌-◌, ◌≤◌}
use native.Mathlib.Nat.{add-sub_cancel_left}
use native.Mathlib.Omega.{arith}
use borrow.Rule.Slice.PartMut.{put_mid}
use lib.ListN.{length, take, drop, drop_of_length-le}
use lib.Seq.{sets}
use Rattle.spans.specs.Parts.{RamPlace}
use Rattle.spans.specs.PartLaws.{put_sets, part_small, part_ends, part_long}
use Rattle.storing.proofs.store_frame.Goals as goal
use Rattle.storing.proofs.store_frame.Goals.{After-ram_place-from}

in_frame : (c : After-ram_place-from) → RamPlace c.args.head c.args.x c.ram_place-from.result
in_frame c = record { frame = _; below = c.requires.1; is = c.ram_place-from.ensures }

-- what comes back of the part that was lent to a copy of vs
part_back : (from q : ℕ) (vs ram last : List ℕ) → from ≡ q → from + length vs ≤ length ram → length (take (from + length vs - from) (drop from ram)) ≡ length vs
    → last ≡ vs ++ drop (length vs) (take (from + length vs - from) (drop from ram)) → put_mid from (from + length vs - from) ram last ≡ sets ram q vs
part_back from q vs ram last is l long e =
    let n = length vs in
    let rest = drop_of_length-le (take (from + n - from) (drop from ram)) {i = n} (omega arith) in
    ap₂ (λ (k : ℕ) (ws : List ℕ). put_mid from k ram ws) (add-sub_cancel_left from n) (e ∙ ap (λ (ws : List ℕ). vs ++ ws) rest ∙ append-nil vs)
    ∙ put_sets from n ram vs refl l
    ∙ ap (λ (p : ℕ). sets ram p vs) is

pub copy-requires : goal.copy-requires
copy-requires c =
    let pre = c.requires.0.1 in
    (omega (arith, part_small _ _ _ _ _ pre), omega (arith, part_long _ _ _ _ _ pre _ (in_frame (goal.at.copy-requires c).After-ram_place-from)))

pub returns : goal.returns
returns c =
    let a = c.args in
    let pre = c.requires.0.1 in
    part_back _ _ a.src.now a.ram.now _ c.ram_place-from.ensures (part_ends _ _ _ _ _ pre _ (in_frame (goal.at.returns c).After-ram_place-from)) (part_long _ _ _ _ _ pre _ (in_frame (goal.at.returns c).After-ram_place-from))
    c.copy.ensures
