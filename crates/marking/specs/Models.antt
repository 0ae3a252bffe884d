-- What mark and drop do, on lists.
use Rattle.std.specs.Prelude.{◌≡◌, Bool, true, false, List, ℕ, zero, suc, leb, Option, Some, None, Ok}
use Rattle.layer.specs.Words.{bit_at}
use Rattle.layer.specs.declared.Greatest.{Greatest}
use Rattle.index.specs.Promise.{Put, Sought}
use Rattle.machine.specs.Machine.{places, place_of, Answer, done, refused}
use Rattle.memory.specs.Memory.{Memory, memory, at, sizes_of}
use Rattle.laws.specs.Models.{check_of, Refuses, Checked, page_inside, mark_lengths}

-- how many resident pages the region has that a mark at a place of the space from lo on would cut
abbrev pub count_in : Bool → List ℕ → ℕ → ℕ
count_in true count a = at count a
count_in false count a = 0

abbrev pub count_at : ℕ → List ℕ → Option ℕ → ℕ
count_at lo count (Some a) = count_in (leb lo a) count a
count_at lo count None = 0

abbrev pub cut_count : ℕ → List ℕ → Greatest → ℕ
cut_count lo count g = count_at lo count g.place

abbrev pub with_index : Memory → List ℕ → Memory
with_index k ws = memory k.head ws k.count k.table k.helper k.stack k.cache k.link k.ram

-- the start put or taken away
pub record Puts (v : Bool) (p : ℕ) (k : Memory) (a : Answer) (k' : Memory) : Type 0 where
  pub words : List ℕ
  pub put : Put v (places (sizes_of k.head)) p k.index (Ok tt) words
  pub answer_is : a ≡ done
  pub after_is : k' ≡ with_index k words

-- unless a region of n resident pages is in the way
abbrev pub PutsUnless : ℕ → Bool → ℕ → Memory → Answer → Memory → Type 0
PutsUnless zero v p k a k' = Puts v p k a k'
PutsUnless (suc n) v p k a k' = Refuses (refused 7) k a k'

pub record Cuts (p lo : ℕ) (k : Memory) (a : Answer) (k' : Memory) : Type 0 where
  pub found : Greatest
  pub sought : Sought (places (sizes_of k.head)) p k.index (Ok found)
  pub done_then : PutsUnless (cut_count lo k.count found) true p k a k'

-- by whether the place's bit is set
abbrev pub MarkIf : Bool → ℕ → ℕ → Memory → Answer → Memory → Type 0
MarkIf true p lo k a k' = Refuses (refused 6) k a k'
MarkIf false p lo k a k' = Cuts p lo k a k'

abbrev pub DropIf : Bool → ℕ → Memory → Answer → Memory → Type 0
DropIf true p k a k' = PutsUnless (at k.count p) false p k a k'
DropIf false p k a k' = Refuses (refused 5) k a k'

abbrev pub MarkDone : ℕ → ℕ → Memory → Answer → Memory → Type 0
MarkDone i b k a k' =
    let z = sizes_of k.head in
    Checked refused (check_of k.head (mark_lengths k) i (page_inside k b))
    (λ a k'. MarkIf (bit_at k.index (place_of z i b)) (place_of z i b) (place_of z i 0) k a k') k a k'

abbrev pub DropDone : ℕ → ℕ → Memory → Answer → Memory → Type 0
DropDone i b k a k' =
    let z = sizes_of k.head in
    Checked refused (check_of k.head (mark_lengths k) i (page_inside k b))
    (λ a k'. DropIf (bit_at k.index (place_of z i b)) (place_of z i b) k a k') k a k'
