-- Writing a map keeps the promise, whatever the buffers that it isn't lent.
use Rattle.std.specs.Prelude.{◌≡◌, Bool, ℕ, ◌*◌, ◌≤◌, ◌<◌, take, drop, Result, Ok, Err, IsErrAnd}
use Rattle.std.proofs.Math.Path.{refl, ap}
use Rattle.std.proofs.Common.{sym, ◌∙◌, subst, true≢false, inl, inr, arith, le-leb, take_at, drop_at}
use Rattle.std.proofs.Math.Bool.{true, false}
use mathlib.Core.List.{List}
use Rattle.std.proofs.Math.Decide.{dec_le}
use Rattle.std.proofs.lemmas.Bool.{lt-leb}
use Rattle.std.proofs.Math.ListN.{length}
use Rattle.words.specs.Words.{bytes_of}
use Rattle.words.specs.Laws.{length_bytes}
use Rattle.machine.specs.Machine.{State, Lent, Call, write_map, stacks_and_link, first_refusal, asked, map_file, refused, tell, map_if, accepted}
use Rattle.machine.specs.Map.{map_words, map_of}
use Rattle.refusals.specs.declared.Refusal.{Refusal}
use Rattle.refusals.specs.Refusals.{number}
use Rattle.memory.specs.Memory.{Memory, sizes_of, lengths}
use Rattle.promise.specs.Holds.{Holds}
use Rattle.promise.specs.Did.{Did}
use Rattle.promise.specs.Filled.{MapDid}
use Rattle.laws.specs.Refusals.{early_did, kept_did}
use Rattle.laws.specs.Told.{told_did}
use Rattle.laws.specs.Checks.{same_lent}
use Rattle.saving.specs.Saved.{saved_words, adds_up, saveable, NotSaved, Written, Saves}
use Rattle.saving.proofs.Honest.{lent_to_save, saved_is, honest_adds}

module _ (k : Memory) (file file' : List ℕ) (r : Result ℕ Refusal) where
  abbrev call : Lent → Call
  call = write_map (length file)

  asks : asked (sizes_of k.head) (call (lengths k)) ≡ first_refusal (saveable k) true true
  unfolding asked
  asks = ap (λ (o : Bool). first_refusal o true true) (sym (same_lent (sizes_of k.head) stacks_and_link (lengths k)))

  -- a refusal, and the buffer as it was
  refuses : (n : ℕ) → NotSaved n file r file' → Did call k (refused n) k → MapDid k r file file'
  refuses n s d = go r s.answer
    where
      go : (r : Result ℕ Refusal) → IsErrAnd r (λ e. number e ≡ n) → MapDid k r file file'
      go (Ok a) is = absurd is
      go (Err e) is = rw s.kept (record { did = rw is d; kept = λ _ _. refl; fits = omega arith; after_last = refl })

  long : (m : State) → Holds m k → 4 * length (saved_words k) ≡ length (map_of m)
  long m H = ap (λ (ws : List ℕ). 4 * length ws) (saved_is m k H) ∙ sym (length_bytes (map_words m))

  damaged_did : saveable k ≡ true → adds_up k ≡ false → Did call k (refused 9) k
  damaged_did ok damaged =
      kept_did call k (refused 9) (asks ∙ ap (λ (o : Bool). first_refusal o true true) ok) (inl refl, refl) (tt, tt)
      (λ m H. absurd (true≢false (sym (honest_adds m k H) ∙ damaged)))

  short_did : saveable k ≡ true → length file < 4 * length (saved_words k) → Did call k (refused 13) k
  unfolding accepted
  short_did ok short =
      told_did call k (refused 13) (asks ∙ ap (λ (o : Bool). first_refusal o true true) ok) (inr (inl refl), refl) (tt, tt)
      (λ m H. ap (λ (b : Bool). tell m (map_if (map_of m) b)) (lt-leb (length (map_of m)) (length file) (omega (arith, long m H))))

  saved_did : saveable k ≡ true → 4 * length (saved_words k) ≤ length file → Did call k (map_file (bytes_of (saved_words k))) k
  unfolding accepted
  saved_did ok fits =
      told_did call k (map_file (bytes_of (saved_words k))) (asks ∙ ap (λ (o : Bool). first_refusal o true true) ok) refl (tt, tt)
      (λ m H.
      ap (λ (b : Bool). tell m (map_if (map_of m) b)) (le-leb (length (map_of m)) (length file) (omega (arith, long m H)))
      ∙ ap (λ (ws : List ℕ). tell m (map_file (bytes_of ws))) (sym (saved_is m k H)))

  saves : Written (saved_words k) file r file' → 4 * length (saved_words k) ≤ length file → Did call k (map_file (bytes_of (saved_words k))) k
      → MapDid k r file file'
  saves s fits d =
      let front = length_bytes (saved_words k) in
      let n = 4 * length (saved_words k) in
      rw s.answer
      (record {
        did = subst (λ (vs : List ℕ). Did call k (map_file vs) k) (sym (ap (take n) s.stored ∙ take_at (bytes_of (saved_words k)) _ n front)) d;
        kept = λ e is. absurd (let z : ◌≡◌ {A = ℕ} 0 1 = cc in omega arith);
        fits = fits;
        after_last = ap (drop n) s.stored ∙ drop_at (bytes_of (saved_words k)) _ n front;
      })

  pub map_did : Saves (lent_to_save k) file r file' → MapDid k r file file'
  unfolding adds_up
  map_did s = go (saveable k) refl (adds_up k) refl (dec_le (4 * length (saved_words k)) (length file))
    where
      go : (ok : Bool) → saveable k ≡ ok → (sums : Bool) → adds_up k ≡ sums → Dec (4 * length (saved_words k) ≤ length file) → MapDid k r file file'
      go false ok sums a f = refuses 1 (s.unfit ok) (early_did call k 0 (asks ∙ ap (λ (o : Bool). first_refusal o true true) ok))
      go true ok false a f = refuses 9 (s.damaged ok a) (damaged_did ok a)
      go true ok true a (yes f) = saves (s.saved ok a f) f (saved_did ok f)
      go true ok true a (no f) = refuses 13 (s.short ok a (omega arith)) (short_did ok (omega arith))
