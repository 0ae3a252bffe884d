-- What a touch does, on lists.
use Rattle.std.specs.Prelude.{Result, Ok, Err}
use Rattle.machine.specs.declared.RefusedAfter.{RefusedAfter}
use Rattle.refusals.specs.Refusals.{number}
use Rattle.std.specs.Prelude.{◌≡◌, List, ℕ, set}
use Rattle.machine.specs.declared.Touched.{Touched}
use Rattle.machine.specs.declared.Touched.TheVariants as touched_is
use Rattle.machine.specs.Machine.{place_of, Answer, old, new, refused_after, touched, refusal_of, zeroed}
use Rattle.memory.specs.Memory.{Memory, sizes_of}
use Rattle.memory.specs.declared.Head.{Head}
use Rattle.lookup.specs.declared.Sight as sight
use Rattle.lookup.specs.Models.{SeenAt}
use Rattle.pool.specs.Models.{taken}
use Rattle.entries.specs.Models.{map_page}
use Rattle.planning.specs.declared.Plan as plan
use Rattle.planning.specs.declared.Plan.TheVariants as plan_is
use Rattle.planning.specs.Models.{plan_of}
use Rattle.laws.specs.Models.{check_of, Checked, page_inside, every_length}

-- W-201: the RAM after an answer, the frame of a new page cleared
abbrev pub cleared_for : Head → Result Touched RefusedAfter → List ℕ → List ℕ
cleared_for h (Ok (touched_is.Old f)) ram = ram
cleared_for h (Ok (touched_is.New f w)) ram = zeroed (sizes_of h) f ram
cleared_for h (Err x) ram = ram

-- the page table after an answer: the frame of a new page stands at the page's place
abbrev pub tabled_for : Head → ℕ → ℕ → Result Touched RefusedAfter → List ℕ → List ℕ
tabled_for h i b (Ok (touched_is.Old f)) table = table
tabled_for h i b (Ok (touched_is.New f w)) table = set table (place_of (sizes_of h) i b) f
tabled_for h i b (Err x) table = table

-- the answer and the memory after a plan is carried out at place p
abbrev pub plan_says : Result plan.Plan RefusedAfter → Memory → Answer
plan_says (Ok (plan_is.Old f)) k = old f
plan_says (Ok (plan_is.New a c)) k = new (taken k.link k.head).frame c
plan_says (Err e) k = refused_after (number e.refusal) e.words

abbrev pub plan_leaves : Result plan.Plan RefusedAfter → Memory → ℕ → Memory
plan_leaves (Ok (plan_is.Old f)) k p = k
plan_leaves (Ok (plan_is.New a c)) k p = map_page k a p
plan_leaves (Err x) k p = k

pub record Touches (k : Memory) (i b : ℕ) (a : Answer) (k' : Memory) : Type 0 where
  pub sight : sight.Sight
  pub seen : SeenAt k i b sight
  pub answer_is : a ≡ plan_says (plan_of k sight) k
  pub after_is : k' ≡ plan_leaves (plan_of k sight) k (place_of (sizes_of k.head) i b)

abbrev pub TouchDone : ℕ → ℕ → Memory → Answer → Memory → Type 0
TouchDone i b k a k' = Checked (refusal_of touched) (check_of k.head (every_length k) i (page_inside k b)) (λ a k'. Touches k i b a k') k a k'
