-- The head that a call was lent, with those numbers of the pool stored that the call may change, is the head of the answer: the other fields are the same
-- then, since a call that begins nothing leaves the sizes.
use mathlib.Core.Path.{◌≡◌, refl, sym}
use mathlib.Core.Bool.{true}
use mathlib.Core.Option.{none}
use Prim.Native.Nat.{ℕ}
use Rattle.machine.specs.Machine.{Lent, Call, facts, Answer}
use Rattle.memory.specs.Memory.{Memory, lengths}
use Rattle.memory.specs.declared.Head.{Head}
use Rattle.promise.specs.Did.{still, Did}
use Rattle.laws.specs.Lengths.{sizes_stay}
use Rattle.checks.specs.Shifts.{pow_injective}

abbrev pub with_pool : Head → ℕ → ℕ → ℕ → Head
with_pool h n m f = record { spaces = h.spaces; pages = h.pages; frames = h.frames; page = h.page; first = n; many = m; fresh = f }

module _ {c : Lent → Call} {k : Memory} {a : Answer} {k' : Memory} (begins_none : (facts (c (lengths k))).begins ≡ none) (did : Did c k a k') where
  sizes_same : (f : ℕ) → f ≡ k'.head.fresh → with_pool k.head k'.head.first k'.head.many f ≡ k'.head
  sizes_same f e =
      let s = sym (sizes_stay c k a k' begins_none did) in
      let shift = pow_injective k.head.page.shift k'.head.page.shift (λ j. (s j).page) in
      λ j.
      record {
        spaces = (s j).spaces;
        pages = (s j).pages;
        frames = (s j).frames;
        page = record { shift = shift j };
        first = k'.head.first;
        many = k'.head.many;
        fresh = e j;
      }

  -- a touch or a write: all three numbers
  pub pool_changes : with_pool k.head k'.head.first k'.head.many k'.head.fresh ≡ k'.head
  pool_changes = sizes_same k'.head.fresh refl

  -- a release or a hand-back: no frame given back is one that was never used
  pub chain_changes : k'.head.fresh ≡ k.head.fresh → with_pool k.head k'.head.first k'.head.many k.head.fresh ≡ k'.head
  chain_changes e = sizes_same k.head.fresh (sym e)

-- an answer that is to change nothing: the head that was lent is the answer's
pub head_stays : {c : Lent → Call} {k : Memory} {a : Answer} {k' : Memory} → Did c k a k' → still a ≡ true
    → Did c k a (record k' { head = k.head })
head_stays did e = rw (did.stays e) (rw (did.stays e) at did)
