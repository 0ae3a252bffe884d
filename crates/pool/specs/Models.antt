-- The pool on lists: what its code does. The pool is `many` frames linked from `first` on, then the frames from `fresh` on.
use Rattle.std.specs.Prelude.{◌≡◌, Bool, true, false, ◌&&◌, List, ℕ, zero, suc, ◌+◌, eqb, leb, ltb}
use Rattle.machine.specs.Machine.{sizes_ok, first_refusal, Answer, frames, refused}
use Rattle.memory.specs.Memory.{Memory, at, sizes_of}
use Rattle.memory.specs.declared.Head.{Head}
use Rattle.promise.specs.Did.{frames_left}
use Rattle.pool.specs.declared.Taken.{Taken}
use Rattle.laws.specs.Models.{Checked}

-- ---- empty or not

unfoldable pub empty_pool : Head → Bool
empty_pool h = eqb h.many 0 && leb h.frames h.fresh

-- the frame to be taken is a frame
abbrev pub next_ok : ℕ → ℕ → ℕ → Bool
next_ok f first zero = true
next_ok f first (suc n) = ltb first f

-- ---- taking a frame

-- the next frame of the pool, and the head without it
abbrev pub taken_from : List ℕ → Head → ℕ → Taken
taken_from link h zero =
    record {
      frame = h.fresh;
      head = record { spaces = h.spaces; pages = h.pages; frames = h.frames; page = h.page; first = h.first; many = 0; fresh = h.fresh + 1 };
    }
taken_from link h (suc n) =
    record {
      frame = h.first;
      head = record { spaces = h.spaces; pages = h.pages; frames = h.frames; page = h.page; first = at link h.first; many = n; fresh = h.fresh };
    }

abbrev pub taken : List ℕ → Head → Taken
taken link h = taken_from link h h.many

-- ---- a region's chain

-- the frame of the newest page of a region with n pages; 0 where it has none
abbrev pub newest_of : List ℕ → List ℕ → ℕ → ℕ → ℕ
newest_of table stack a zero = 0
newest_of table stack a (suc n) = at table (at stack (a + n))

-- the head with a chain of n frames put before the pool, from the newest on
abbrev pub with_chain : Head → ℕ → ℕ → Head
with_chain h newest n =
    record { spaces = h.spaces; pages = h.pages; frames = h.frames; page = h.page; first = newest; many = h.many + n; fresh = h.fresh }

-- ---- free

abbrev pub free_if : Head → Bool → Answer
free_if h true = frames (frames_left h)
free_if h false = refused 9

unfoldable pub count_says : Head → Answer
count_says h = free_if h (leb h.many h.fresh && leb h.fresh h.frames)

abbrev pub FreeDone : Memory → Answer → Memory → Type 0
FreeDone k a k' = Checked refused (first_refusal (sizes_ok (sizes_of k.head)) true true) (λ a k'. (a ≡ count_says k.head) × (k' ≡ k)) k a k'
