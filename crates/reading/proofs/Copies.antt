-- Parts copied one after another.
use mathlib.Core.Path.{◌≡◌, sym, ap, ◌∙◌, subst}
use mathlib.Core.List.{List, ◌++◌, append_assoc}
use Prim.Native.Nat.{ℕ, ◌+◌, ◌-◌, ◌≤◌}
use native.Mathlib.Nat.{add-sub_cancel_left}
use native.Mathlib.Omega.{arith}
use borrow.Rule.Slice.PartMut.{put_mid, same_len_mid}
use lib.ListN.{length, take, drop, length-append}
use lib.Seq.{length-take-le, take_at}
use Rattle.memory.specs.Memory.{memory}
use Rattle.memory.specs.declared.Head.{Head}
use Rattle.laws.specs.Parts.{CopiedOut, FrontCopied, front_none, front_more, front_all}
use Rattle.spans.specs.PartLaws.{next_long}
use Rattle.reading.specs.Copies.{CopiedBy}

-- the loop's state: the first `done` bytes are copied, whatever index and the other tables are
pub record Copying (h : Head) (table ram : List ℕ) (i x n : ℕ) (buffer : List ℕ) (done : ℕ) : Type 0 where
  pub within : done ≤ n
  pub long : length buffer ≡ n
  pub front : (index count helper stack cache link : List ℕ) → FrontCopied (memory h index count table helper stack cache link ram) i x n done buffer

module _ (h : Head) (table ram : List ℕ) (i x n : ℕ) where
  pub copying_none : (buffer : List ℕ) → length buffer ≡ n → Copying h table ram i x n buffer 0
  copying_none buffer l = record { within = omega arith; long = l; front = λ index count helper stack cache link. front_none _ i x n buffer }

  pub copying_more : (buffer : List ℕ) (done s : ℕ) (part : List ℕ) → Copying h table ram i x n buffer done → done + s ≤ n
      → let lent = take (done + s - done) (drop done buffer) in
      length part ≡ length lent → CopiedBy h table ram i (x + done) (length lent) part
      → Copying h table ram i x n (put_mid done (done + s - done) buffer part) (done + s)
  copying_more buffer done s part c fits same copied =
      record {
        within = fits;
        long = same_len_mid done (done + s - done) buffer part same ∙ c.long;
        front = λ index count helper stack cache link.
            let k = memory h index count table helper stack cache link ram in
            front_more k i x n done s buffer _ part fits (c.front index count helper stack cache link)
            (subst (λ (l : ℕ). CopiedOut k i (x + done) l part) (sym same ∙ part_is) (copied index count helper stack cache link)) front;
      }
    where
      part_is : length part ≡ s
      part_is = same ∙ next_long buffer done (done + s) (omega (arith, c.long)) ∙ add-sub_cancel_left done s

      front : take (done + s) (put_mid done (done + s - done) buffer part) ≡ take done buffer ++ part
      front =
          ap (take (done + s)) (sym (append_assoc (take done buffer) part _))
          ∙ take_at (take done buffer ++ part) _ (done + s) (rw (length-append, length-take-le done buffer (omega (arith, c.long)), part_is))

  pub copying_all : (buffer : List ℕ) (done : ℕ) → Copying h table ram i x n buffer done → n ≤ done → CopiedBy h table ram i x n buffer
  copying_all buffer done c l index count helper stack cache link =
      front_all _ i x n done buffer (omega (arith, c.within)) c.long (c.front index count helper stack cache link)
