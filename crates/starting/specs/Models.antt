-- What start does, on lists.
use Rattle.std.specs.Prelude.{◌≡◌, true, List, ◌++◌, ℕ, ◌^◌, drop, replicate, Result, Ok, Err}
use Rattle.refusals.specs.declared.Refusal.{Refusal}
use Rattle.index.specs.Promise.{Prepared}
use Rattle.machine.specs.Machine.{places, Answer, done, refused}
use Rattle.machine.specs.Answers.{SizeAnswer, size as size_is, no_size, page_size_for}
use Rattle.memory.specs.Memory.{Memory, memory, sizes_of}
use Rattle.memory.specs.declared.Head.{Head}
use Rattle.laws.specs.Models.{check_of, Refuses, Checked, mark_lengths}

-- what a change of the index answers for the call that made it
abbrev pub change_says : Result (Unit {0}) Refusal → Answer
change_says (Ok u) = done
change_says (Err e) = refused 9

-- the head of a start: no frame used yet
abbrev pub start_head : ℕ → ℕ → ℕ → ℕ → Head
start_head s n f shift =
    record { spaces = s; pages = n; frames = f; page = record { shift = shift }; first = 0; many = 0; fresh = 0 }

pub record Starts (h : Head) (k : Memory) (a : Answer) (k' : Memory) : Type 0 where
  pub change : Result (Unit {0}) Refusal
  pub words : List ℕ
  pub prepared : Prepared (places (sizes_of h)) k.index change words
  pub answer_is : a ≡ change_says change
  pub after_is : k' ≡ memory h words (replicate (places (sizes_of h)) 0 ++ drop (places (sizes_of h)) k.count) k.table k.helper k.stack k.cache
      k.link k.ram

-- for a page size of the nine, and for another
abbrev pub StartIf : SizeAnswer → ℕ → ℕ → ℕ → Memory → Answer → Memory → Type 0
StartIf (no_size e) s n f k a k' = Refuses (refused 1) k a k'
StartIf (size_is p) s n f k a k' =
    (shift : ℕ) × (2 ^ shift ≡ p) × Checked refused (check_of (start_head s n f shift) (mark_lengths k) 0 true) (λ a k'. Starts (start_head s n f shift) k a k')
    k a k'

abbrev pub StartDone : ℕ → ℕ → ℕ → ℕ → Memory → Answer → Memory → Type 0
StartDone s n f p k a k' = StartIf (page_size_for p) s n f k a k'
