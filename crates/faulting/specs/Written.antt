-- A write that passed the check.
use Rattle.std.specs.Prelude.{◌≡◌, List, ℕ, ◌/◌, length}
use Rattle.machine.specs.Machine.{span_pages, write, asked}
use Rattle.memory.specs.Memory.{Memory, sizes_of, lengths}

-- a write that passed, and its span: so many pages from `first` on
pub record Spanned (k : Memory) (i x : ℕ) (vs : List ℕ) (first pages : ℕ) : Type 0 where
  pub passes : asked (sizes_of k.head) (write i x vs (lengths k)) ≡ 0
  pub first_is : first ≡ x / (sizes_of k.head).page
  pub pages_is : pages ≡ span_pages (sizes_of k.head) x (length vs)
