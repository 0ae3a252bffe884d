-- The whole call: what its tests say of the memory, and the promise in each case.
use mathlib.Core.Path.{◌≡◌, refl, sym, ap, ◌∙◌}
use mathlib.Core.Bool.{Bool, true, false, ◌&&◌, true≢false}
use mathlib.Core.List.{List}
use Rattle.std.specs.Prelude.{Ok, Err}
use Prim.Native.Nat.{ℕ, ◌+◌, ◌*◌, ◌≤◌, ◌<◌}
use native.Mathlib.Nat.{sub-zero}
use native.Mathlib.Omega.{arith}
use borrow.Author.Tests.{lt-ltb}
use lib.Dec.{eqb, leb}
use lib.ListN.{length}
use Rattle.extent.specs.Sizes.{lowest_size}
use Rattle.machine.specs.Machine.{places, sizes_ok, first_refusal}
use Rattle.machine.proofs.Laws.Sizes.{both, fit}
use Rattle.refusals.specs.declared.Refusal.{Refusal}
use Rattle.refusals.specs.declared.Refusal.TheVariants.{Damaged, ShortFile}
use Rattle.refusals.specs.Refusals.{number}
use Rattle.refusals.proofs.Laws.{not_none}
use Rattle.memory.specs.Memory.{Memory, sizes_of}
use Rattle.promise.specs.Did.{frames_left}
use Rattle.laws.specs.Models.{release_lengths, check_of}
use Rattle.laws.specs.Checking.{CheckPassed, ready}
use Rattle.saving.specs.Saved.{saveable, adds_up, starts_in, counts_in, saved_words, Saves}
use Rattle.saving.specs.Storing.{put_words, put_file}
use Rattle.saving.specs.Sizes.{sizes_add, saved_size}
use Rattle.saving.specs.Asked.{Walkable, Tallied, Storable}
use Rattle.saving.specs.declared.Tally.{Tally}
use Rattle.saving.proofs.Whole.{adds, listable}

not_both : {b : Bool} → b ≡ true → b ≡ false → ⊥
not_both e f = true≢false (sym e ∙ f)

-- the check of space 0, which every started head has, is the check without a space
space_checked : (k : Memory) (b : Bool) → saveable k ≡ b → check_of k.head (release_lengths k) 0 true ≡ first_refusal b true true
unfolding check_of
space_checked k true e =
    let f = fit (sizes_of k.head) (both (sizes_ok (sizes_of k.head)) _ e).0 in
    rw (e, lt-ltb 0 k.head.spaces f.some_spaces)
space_checked k false e = rw e

module _ (k : Memory) where
  pub refused_first : (file : List ℕ) {e : Refusal} → number e ≡ check_of k.head (release_lengths k) 0 true → Saves k file (Err e) file
  refused_first file {e} checked = go (saveable k) refl
    where
      go : (b : Bool) → saveable k ≡ b → Saves k file (Err e) file
      go true is = absurd (not_none e (checked ∙ space_checked k true is))
      go false is =
          record {
            unfit = λ _. record { answer = checked ∙ space_checked k false is; kept = refl };
            damaged = λ ok. absurd (not_both ok is);
            short = λ ok. absurd (not_both ok is);
            saved = λ ok. absurd (not_both ok is);
          }

  module _ (checked : ◌≡◌ {A = ℕ} 0 (check_of k.head (release_lengths k) 0 true)) where
    passed : CheckPassed k.head (release_lengths k) 0 true
    passed = ready k.head (release_lengths k) 0 true (sym checked)

    is_saveable : saveable k ≡ true
    is_saveable = go (saveable k) refl
      where
        go : (b : Bool) → saveable k ≡ b → b ≡ true
        go true e = refl
        go false e = absurd (let z : ◌≡◌ {A = ℕ} 0 1 = checked ∙ space_checked k false e in omega arith)

    module _ {t : ℕ} (t-is : t ≡ places (sizes_of k.head)) where
      pub walk_all : Walkable k.index k.count 0 t
      walk_all =
          rw t-is
          (record {
            low = omega arith;
            few = (fit (sizes_of k.head) passed.sizes_ok_lem).few_places;
            index_long = omega (arith, lowest_size (places (sizes_of k.head)), passed.lent.index refl);
            count_long = passed.lent.count refl;
          })

      module _ {r : Tally} (tallied : Tallied k.index k.count 0 t r) where
        regions_are : r.regions ≡ starts_in k.index 0 (places (sizes_of k.head))
        regions_are = tallied.regions_are ∙ ap (starts_in k.index 0) (sub-zero t ∙ t-is)

        pairs_are : r.pairs ≡ counts_in k.index k.count 0 (places (sizes_of k.head))
        pairs_are = tallied.pairs_are ∙ ap (counts_in k.index k.count 0) (sub-zero t ∙ t-is)

        module _ {v : Bool} (told : v ≡ (leb k.head.fresh k.head.frames && eqb (r.pairs + frames_left k.head) k.head.frames)) where
          adds_told : v ≡ adds_up k
          unfolding adds_up
          adds_told = told ∙ rw pairs_are

          pub refused_damaged : (file : List ℕ) → v ≡ false → Saves k file (Err Damaged) file
          refused_damaged file h =
              let e = sym adds_told ∙ h in
              record {
                unfit = λ no. absurd (not_both is_saveable no);
                damaged = λ _ _. record { answer = refl; kept = refl };
                short = λ _ ok. absurd (not_both ok e);
                saved = λ _ ok. absurd (not_both ok e);
              }

          module _ (left : v ≡ true) where
            adds_up_lem : adds_up k ≡ true
            adds_up_lem = sym adds_told ∙ left

            pub fresh_low : k.head.fresh ≤ k.head.frames
            fresh_low = (adds k adds_up_lem).fresh_fits

            module _ {s free : ℕ} (s-is : s ≡ k.head.spaces) (free_is : free ≡ frames_left k.head) where
              abbrev bytes : ℕ
              bytes = 4 * (7 + 3 * s + 3 * r.regions + 2 * r.pairs + free)

              bytes_are : bytes ≡ 4 * length (saved_words k)
              bytes_are =
                  omega (
                    arith,
                    saved_size k,
                    sizes_add k.index k.count k.head.pages k.head.spaces,
                    regions_are,
                    pairs_are,
                  )

              pub refused_short : (file : List ℕ) → length file < bytes → Saves k file (Err ShortFile) file
              refused_short file l =
                  record {
                    unfit = λ no. absurd (not_both is_saveable no);
                    damaged = λ _ no. absurd (not_both adds_up_lem no);
                    short = λ _ _ _. record { answer = refl; kept = refl };
                    saved = λ _ _ h. absurd (omega (arith, bytes_are));
                  }

              pub can_store : (file : List ℕ) → bytes ≤ length file → Storable k file
              can_store file h =
                  record { listable = listable k passed.sizes_ok_lem (rw t-is at walk_all) adds_up_lem; fits = omega (arith, bytes_are) }

              pub bytes_fit : bytes < 4294967296
              bytes_fit =
                  let l = listable k passed.sizes_ok_lem (rw t-is at walk_all) adds_up_lem in
                  let f = fit (sizes_of k.head) passed.sizes_ok_lem in
                  omega (arith, (adds k adds_up_lem).all_frames_lem, pairs_are, tallied.few_regions, f.few_frames, f.few_spaces)

              pub saved_whole : (file : List ℕ) {file' : List ℕ} → bytes ≤ length file → file' ≡ put_words file 0 (saved_words k)
                  → Saves k file (Ok bytes) file'
              saved_whole file h e =
                  record {
                    unfit = λ no. absurd (not_both is_saveable no);
                    damaged = λ _ no. absurd (not_both adds_up_lem no);
                    short = λ _ _ l. absurd (omega (arith, bytes_are));
                    saved = λ _ _ fits. record { answer = ap Ok bytes_are; stored = e ∙ put_file file (saved_words k) fits };
                  }
