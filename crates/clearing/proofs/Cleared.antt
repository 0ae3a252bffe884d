-- What comes back of the part that was lent on to be cleared, and a frame by such parts.
use mathlib.Core.Path.{◌≡◌, ap, ap₂, ◌∙◌}
use mathlib.Core.List.{List}
use Prim.Native.Nat.{ℕ, ◌+◌, ◌-◌, ◌*◌, ◌%◌, ◌≤◌}
use native.Mathlib.Nat.{zero-mod, add-sub_cancel_left}
use native.Mathlib.Omega.{arith}
use borrow.Rule.Slice.PartMut.{put_mid}
use lib.ListN.{length, take, drop, replicate, length-replicate}
use lib.Seq.{sets}
use Rattle.machine.specs.Machine.{zeroed}
use Rattle.memory.specs.Memory.{sizes_of, place_in}
use Rattle.memory.specs.declared.Head.{Head}
use Rattle.clearing.specs.Clears.{zeroed_around}
use Rattle.spans.specs.Parts.{Frame}
use Rattle.spans.specs.PartLaws.{next_long, put_sets}

pub part_cleared : (from to : ℕ) (ram last : List ℕ) → from ≤ to → to ≤ length ram → last ≡ replicate (length (take (to - from) (drop from ram))) 0
    → put_mid from (to - from) ram last ≡ sets ram from (replicate (to - from) 0)
part_cleared from to ram last low l e =
    ap (put_mid from (to - from) ram) (e ∙ ap (λ (k : ℕ). replicate k 0) (next_long ram from to l))
    ∙ put_sets from (to - from) ram (replicate (to - from) 0) (length-replicate (to - from) 0) (omega arith)

-- ---- a frame

module _ {h : Head} {f : ℕ} {ram : List ℕ} (r : Frame h f ram) where
  abbrev page : ℕ
  page = (sizes_of h).page

  pub frame_start : (from : ℕ) → from ≡ place_in h f 0 → from ≡ f * (sizes_of h).page
  frame_start from e = omega (arith, e, zero-mod page)

  pub frame_cleared : (from n : ℕ) → from ≡ place_in h f 0 → n ≡ (sizes_of h).page → sets ram from (replicate (from + n - from) 0) ≡ zeroed (sizes_of h) f ram
  unfolding zeroed
  frame_cleared from n e k =
      ap₂ (λ (a b : ℕ). sets ram a (replicate b 0)) (frame_start from e) (add-sub_cancel_left from n ∙ k)

  pub around_cleared : (x n from first end : ℕ) → from ≡ place_in h f 0 → first ≡ place_in h f x → end ≡ from + (sizes_of h).page
      → sets (sets ram from (replicate (first - from) 0)) (first + n) (replicate (end - (first + n)) 0) ≡ zeroed_around (sizes_of h) f x n ram
  around_cleared x n from first end a b c =
      let start = frame_start from a in
      let head : first - from ≡ x % page = omega arith in
      let tail : end - (first + n) ≡ page - (x % page + n) = omega arith in
      ap₂ (λ (q o : ℕ). sets (sets ram q (replicate o 0)) (first + n) (replicate (end - (first + n)) 0)) start head
      ∙ ap₂ (λ (q o : ℕ). sets (sets ram (f * page) (replicate (x % page) 0)) (q + n) (replicate o 0)) b tail
