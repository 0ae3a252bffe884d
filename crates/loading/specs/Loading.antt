-- Reading a map keeps the promise: refused before anything is stored, or the memory stands for the state in the file.
use Rattle.std.specs.Prelude.{◌≡◌, refl, Bool, true, false, List, [], ℕ, zero, suc, length, drop as dropped}
use Rattle.std.proofs.Common.{sym, ap, ◌∙◌, subst}
use Rattle.std.proofs.lemmas.Bool.{false≢true}
use Rattle.std.proofs.Math.Option.{Option}
use Rattle.sequence.specs.Changes.{changed_front}
use Rattle.words.specs.Words.{words_in}
use Rattle.machine.specs.Machine.{Sizes, State, read_map, file_first, asked, done, refused, Out}
use Rattle.machine.specs.Map.{sizes_in, state_in}
use Rattle.machine.specs.MapRules.{contents_ok, file_ok}
use Rattle.machine.proofs.Laws.Calls.{begins_so, map_described}
use Rattle.memory.specs.Memory.{Memory, sizes_of, lengths}
use Rattle.memory.specs.declared.Head.{Head}
use Rattle.promise.specs.Holds.{Holds}
use Rattle.promise.specs.Did.{Words, Refills, BeginsBy, Did}
use Rattle.laws.specs.Models.{check_of, table_lengths}
use Rattle.laws.specs.Refusals.{early_did, passed_step}
use Rattle.laws.specs.Checks.{map_check}

-- ---- bounds

-- no word past the first n
pub record Fronted (n : ℕ) (ws ws' : List ℕ) : Type 0 where
  pub long : length ws' ≡ length ws
  pub excess : dropped n ws' ≡ dropped n ws

pub fronted_words : {n : ℕ} {ws ws' : List ℕ} → Fronted n ws ws' → Words n n ws ws'
fronted_words {n} {ws} {ws'} f = record { few = changed_front n ws ws' f.long f.excess; excess = f.excess }

-- ---- the call

module _ (file : List ℕ) (k : Memory) where
  abbrev check : ℕ
  check = asked (sizes_of k.head) (read_map file (lengths k))

  -- "contents cut short or sizes outside their limits give 12"
  pub bad_contents : contents_ok file ≡ false → Did (read_map file) k (refused 12) k
  unfolding asked
  bad_contents e = early_did (read_map file) k 11 (rw e)

  module _ (h : Head) (ok : contents_ok file ≡ true) (same : sizes_of h ≡ sizes_in (words_in file)) where
    -- "then tables or index too short for those sizes 1"
    pub too_short : (number : ℕ) → number ≡ check_of h (table_lengths k) 0 true → (number ≡ 0 → ⊥) → Did (read_map file) k (refused number) k
    too_short zero e fails = absurd (fails refl)
    too_short (suc n) e fails = early_did (read_map file) k n (sym (map_check k file h ok same) ∙ ap (file_first true (file_ok file)) (sym e))

    -- "then any other fault 12"
    pub not_a_map : (number : ℕ) → number ≡ check_of h (table_lengths k) 0 true → number ≡ 0 → file_ok file ≡ false → Did (read_map file) k (refused 12) k
    not_a_map number e none bad =
        early_did (read_map file) k 11
        (sym (map_check k file h ok same) ∙ ap (file_first true (file_ok file)) (sym e ∙ none) ∙ ap (λ (w : Bool). file_first true w 0) bad)

    map_asks : (number : ℕ) → number ≡ check_of h (table_lengths k) 0 true → number ≡ 0 → file_ok file ≡ true → check ≡ 0
    map_asks number e none whole =
        sym (map_check k file h ok same) ∙ ap (file_first true (file_ok file)) (sym e ∙ none) ∙ ap (λ (w : Bool). file_first true w 0) whole

    -- what is described is read
    pub restored_did : (number : ℕ) → number ≡ check_of h (table_lengths k) 0 true → number ≡ 0 → file_ok file ≡ true → (k' : Memory)
        → Refills (sizes_in (words_in file)) k k' → Holds (state_in k.ram (words_in file)) k' → Did (read_map file) k done k'
    restored_did number e none whole k' bounds H =
        let pass = map_asks number e none whole in
        let is = map_described (sizes_of k.head) file (lengths k) pass in
        record {
          asks = rw pass refl;
          stays = λ s. absurd (false≢true s);
          bounds = bounds;
          tells = λ f w told. tt;
          gives = λ told. tt;
          honest = λ m M.
              let o = passed_step m (read_map file (lengths k)) (subst (λ (z : Sizes). asked z (read_map file (lengths k)) ≡ 0) M.sizes_are pass)
              ∙ begins_so m (state_in [] (words_in file)) (read_map file (lengths k)) is in
              record {
                answer_is = sym (ap (λ (r : Out). r.answer) o);
                holds =
                    subst (λ (r : Out). Holds r.after k') (sym o) (subst (λ (ram : List ℕ). Holds (state_in ram (words_in file)) k') M.ram_is H);
              };
          begins = subst (λ (o : Option State). BeginsBy o check k done k') (sym is) (λ _. (refl, H));
        }
