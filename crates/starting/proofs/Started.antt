-- What a start did.
use Rattle.std.specs.Prelude.{◌≡◌, Bool, true, false, cond, ℕ, ◌^◌}
use Rattle.std.proofs.Math.Path.{refl, subst}
use Rattle.std.proofs.Math.Bool.{and-false}
use Rattle.machine.specs.Machine.{Sizes, sizes, is_page_size, sizes_ok, Lent}
use Rattle.machine.specs.Machine.{start, asked, Answer}
use Rattle.machine.specs.Answers.{size as size_is, no_size, page_size_for}
use Rattle.memory.specs.Memory.{Memory, sizes_of, lengths}
use Rattle.promise.specs.Did.{Did}
use Rattle.starting.specs.Models.{StartIf, StartDone}
use Rattle.laws.specs.Refusals.{early_did, checked_did}
use Rattle.starting.proofs.Starting.{start_check, start_then}

no_page_size : (z₀ z : Sizes) (l : Lent) → is_page_size z.page ≡ false → asked z₀ (start z l) ≡ 1
unfolding asked sizes_ok
no_page_size z₀ z l e = rw (e, and-false)

pub start_did : (s n f p : ℕ) (k : Memory) (a : Answer) (k' : Memory) → StartDone s n f p k a k'
    → Did (start (sizes s n f p)) k a k'
unfolding page_size_for
start_did s n f p k a k' d = go (is_page_size p) refl d
  where
    go : (t : Bool) → is_page_size p ≡ t → StartIf (cond t (size_is p) (no_size 1)) s n f k a k' → Did (start (sizes s n f p)) k a k'
    go false e d = rw (d.answer_is, d.same) (early_did (start (sizes s n f p)) k 0 (no_page_size (sizes_of k.head) (sizes s n f p) (lengths k) e))
    go true e (shift, is, d) =
        subst (λ p. Did (start (sizes s n f p)) k a k') is
        (checked_did (start (sizes s n f (2 ^ shift))) k _ (start_check k s n f shift) _ a k' d (λ pass r. start_then s n f shift k pass a k' r))
