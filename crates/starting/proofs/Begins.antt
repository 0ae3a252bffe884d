-- Start: what the whole of a start does is the model's.
use mathlib.Core.Path.{◌≡◌, refl, sym, ap, ◌∙◌}
use mathlib.Core.Bool.{true}
use mathlib.Core.List.{List}
use Prim.Native.Nat.{ℕ}
use lib.ListN.{length}
use Rattle.std.specs.Prelude.{Result, Ok, Err}
use Rattle.refusals.specs.declared.Refusal.{Refusal}
use Rattle.refusals.specs.Refusals.{number}
use Rattle.machine.specs.Machine.{Answer, refused, start}
use Rattle.machine.specs.Answers.{done_says, page_size_says, page_size_for}
use Rattle.machine.specs.declared.PageSize.{PageSize}
use Rattle.memory.specs.Memory.{memory}
use Rattle.memory.specs.declared.Head.{Head}
use Rattle.memory.specs.declared.Lengths.{Lengths}
use Rattle.promise.specs.Did.{Did}
use Rattle.laws.specs.Models.{lent_to, check_of}
use Rattle.starting.specs.Models.{start_head}
use Rattle.laws.specs.Checking.{checked_no, checked_yes, ready}
use Rattle.starting.proofs.Started.{start_did}
use Rattle.machine.specs.Machine.{sizes}
use Rattle.starting.specs.Steps.{Beginnable, BeginsAs}
use Rattle.starting.specs.Models.{Starts}

-- a start that is refused by name says its number
pub refused_so : {head h' : Head} {no : Refusal} {a : Result (Unit {0}) Refusal} → (h' ≡ head) × (a ≡ Err no)
    → (h' ≡ head) × (done_says a ≡ refused (number no))
refused_so r = (r.0, ap done_says r.1)

-- the whole call, from the page size made of the bytes asked for

pub start_ready : (next : Head) (n : ℕ) (count : List ℕ) (l : Lengths) (number : ℕ) → l ≡ lent_to n (length count) → number ≡ check_of next l 0 true → number ≡ 0
    → Beginnable next count
start_ready next n count l number lent check pass =
    let y = ready next l 0 true (sym check ∙ pass) in
    record { sizes_ok_lem = y.sizes_ok_lem; count_long = rw lent at (y.lent.count refl) }

module _ (head : Head) (s n f bytes : ℕ) (ws count : List ℕ) (made : Result PageSize Refusal) (sized : page_size_says made ≡ page_size_for bytes) where
  -- whatever tables are there
  abbrev DidStart : Head → Answer → List ℕ → List ℕ → Type 0
  DidStart h' a ws' count' =
      (table helper stack cache link ram : List ℕ)
      → Did (start (sizes s n f bytes)) (memory head ws count table helper stack cache link ram) a (memory h' ws' count' table helper stack cache link ram)

  pub start_no_size : (e : Refusal) (h' : Head) (a : Answer) → made ≡ Err e → (h' ≡ head) × (a ≡ refused 1) → DidStart h' a ws count
  start_no_size x h' a e r table helper stack cache link ram =
      start_did s n f bytes _ a _
      (rw (← sized, e)
      (record { answer_is = r.1; same = ap (λ (x : Head). memory x ws count table helper stack cache link ram) r.0 }))

  module _ (size : PageSize) (made_is : made ≡ Ok size) (l : Lengths) (number : ℕ) (lent : l ≡ lent_to (length ws) (length count))
      (check : number ≡ check_of (start_head s n f size.shift) l 0 true) where
    abbrev next : Head
    next = start_head s n f size.shift

    checked : number ≡ check_of next (lent_to (length ws) (length count)) 0 true
    checked = check ∙ ap (λ (x : Lengths). check_of next x 0 true) lent

    pub start_refused : (h' : Head) (a : Answer) → (number ≡ 0 → ⊥) → (h' ≡ head) × (a ≡ refused number) → DidStart h' a ws count
    start_refused h' a fails r table helper stack cache link ram =
        start_did s n f bytes _ a _
        (rw (← sized, made_is) (
          size.shift,
          refl,
          checked_no (λ x. refused x) _ number (Starts (start_head s n f size.shift) (memory head ws count table helper stack cache link ram)) _ _ a checked fails r.1
              (ap (λ (x : Head). memory x ws count table helper stack cache link ram) r.0),
        ))

    pub start_begun : (h' : Head) (a : Answer) (ws' count' : List ℕ) → number ≡ 0 → BeginsAs next ws count h' a ws' count' → DidStart h' a ws' count'
    start_begun h' a ws' count' pass d table helper stack cache link ram =
        start_did s n f bytes _ a _
        (rw (← sized, made_is) (size.shift, refl, checked_yes (λ x. refused x) _ number (Starts (start_head s n f size.shift) (memory head ws count table helper stack cache link ram)) (memory head ws count table helper stack cache link ram) (memory h' ws' count' table helper stack cache link ram) a checked pass (d head table helper stack cache link ram)))
