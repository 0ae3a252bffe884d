-- What the steps of mark and drop promise each other, in the terms of the calls' models.
use Rattle.std.specs.Prelude.{◌≡◌, List, ℕ, ◌≤◌, ◌<◌, length, Ok}
use Rattle.extent.specs.Checks as extent
use Rattle.layer.specs.Words.{bit_at}
use Rattle.layer.specs.declared.Greatest.{Greatest}
use Rattle.index.specs.Promise.{Sought}
use Rattle.machine.specs.Machine.{places, Answer}
use Rattle.memory.specs.Memory.{Memory, memory, sizes_of}
use Rattle.memory.specs.declared.Head.{Head}
use Rattle.marking.specs.Models.{cut_count, with_index, MarkIf, DropIf}

-- place p of t, where the index and the counts are long enough
pub record Searchable (t p : ℕ) (ws count : List ℕ) : Type 0 where
  pub check_passes : extent.check (length ws) t p ≡ 0
  pub inside : p < t
  pub few : t ≤ 262144
  pub count_long : t ≤ length count

-- the count of the region that a start at p would cut
pub record CutPages (t lo p : ℕ) (ws count : List ℕ) (r : ℕ) : Type 0 where
  pub found : Greatest
  pub sought : Sought t p ws (Ok found)
  pub is : r ≡ cut_count lo count found

-- whatever head of t places and whatever tables stand around the index and the counts
abbrev pub Around : ℕ → List ℕ → List ℕ → (Memory → Type 0) → Type 0
Around t ws count P =
    (h : Head) (table helper stack cache link ram : List ℕ) → places (sizes_of h) ≡ t → P (memory h ws count table helper stack cache link ram)

abbrev pub MarkedAt : ℕ → ℕ → ℕ → List ℕ → List ℕ → Answer → List ℕ → Type 0
MarkedAt t lo p ws count a ws' = Around t ws count (λ k. MarkIf (bit_at ws p) p lo k a (with_index k ws'))

abbrev pub DroppedAt : ℕ → ℕ → List ℕ → List ℕ → Answer → List ℕ → Type 0
DroppedAt t p ws count a ws' = Around t ws count (λ k. DropIf (bit_at ws p) p k a (with_index k ws'))
