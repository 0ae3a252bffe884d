-- What the splice may take for granted and does, and what a release is to do.
use Rattle.std.specs.Prelude.{◌≡◌, List, ℕ, zero, suc, ◌+◌, ◌≤◌, ◌<◌, length, set, Option, Result}
use Rattle.machine.specs.Machine.{place_of}
use Rattle.memory.specs.Memory.{Memory, memory, at, sizes_of}
use Rattle.memory.specs.declared.Head.{Head}
use Rattle.memory.specs.declared.Out.{Out}
use Rattle.refusals.specs.Refusals.{refusal}
use Rattle.refusals.specs.declared.Refusal.{Refusal}
use Rattle.laws.specs.Models.{check_of, release_lengths, page_inside}
use Rattle.releasing.specs.Models.{cut_at, oldest_of}
use Rattle.pool.specs.Models.{newest_of, with_chain}
use Rattle.pool.specs.Takes.{Top}

-- ---- the splice

-- the region at a can be given back
pub record Spliceable (h : Head) (count table stack link : List ℕ) (a : ℕ) : Type 0 where
  pub start : a < length count
  pub on_stack : a < length stack
  pub oldest : at stack a < length table
  pub frame : oldest_of table stack a < length link
  pub top : Top table stack a (at count a)
  pub fits : h.many + at count a ≤ 65536

-- the region at a is given back: r is its pages and the head with their frames, and one count and one link have changed
pub record Splices (h : Head) (count table stack link : List ℕ) (a : ℕ) (r : Out ℕ) (count' link' : List ℕ) : Type 0 where
  pub pages_is : r.answer ≡ at count a
  pub head_is : r.head ≡ with_chain h (newest_of table stack a (at count a)) (at count a)
  pub count_is : count' ≡ set count a 0
  pub link_is : link' ≡ set link (oldest_of table stack a) h.first

-- ---- what a release is to do: the check's refusal, or what follows from whether the page is a start

abbrev pub CutOfIf : ℕ → Memory → ℕ → ℕ → Result (Option ℕ) Refusal → Type 0
CutOfIf zero k i b r = r ≡ cut_at k (place_of (sizes_of k.head) i b)
CutOfIf (suc n) k i b r = refusal r ≡ suc n

-- release isn't lent helper, cache and RAM: any will do
pub record CutOf (h : Head) (i b : ℕ) (index count table stack link : List ℕ) (r : Result (Option ℕ) Refusal) : Type 0 where
  pub any : (helper cache ram : List ℕ)
      → (let k = memory h index count table helper stack cache link ram in CutOfIf (check_of h (release_lengths k) i (page_inside k b)) k i b r)
