-- What mapping a page may take for granted, and what it leaves.
use Rattle.std.specs.Prelude.{◌≡◌, List, ℕ, ◌+◌, ◌<◌, length, set}
use Rattle.memory.specs.Memory.{at}
use Rattle.memory.specs.declared.Head.{Head}
use Rattle.pool.specs.declared.Taken.{Taken}
use Rattle.pool.specs.Models.{newest_of, taken}
use Rattle.pool.specs.Takes.{Takeable, Top}

-- page p of the region at a can be mapped
pub record Mappable (h : Head) (count table helper stack cache link : List ℕ) (a p : ℕ) : Type 0 where
  pub takeable : Takeable h link
  pub frame : (taken link h).frame < length link
  pub top : Top table stack a (at count a)
  pub next : a + at count a < length stack
  pub few : a + at count a < 262144
  pub small : p < 262144
  pub start : a < length count
  pub in_table : p < length table
  pub in_helper : p < length helper
  pub in_cache : p < length cache

-- page p of the region at a is mapped: r is the frame taken and the head without it, and each table has one word more
pub record Mapped (h : Head) (count table helper stack cache link : List ℕ) (a p : ℕ) (r : Taken) (count' table' helper' stack' cache' link' : List ℕ) : Type
    0 where
  pub first : r ≡ taken link h
  pub count_is : count' ≡ set count a (at count a + 1)
  pub table_is : table' ≡ set table p r.frame
  pub helper_is : helper' ≡ set helper p (at count a)
  pub stack_is : stack' ≡ set stack (a + at count a) p
  pub cache_is : cache' ≡ set cache p a
  pub link_is : link' ≡ set link r.frame (newest_of table stack a (at count a))
