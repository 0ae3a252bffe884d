-- Start keeps the promise.
use Rattle.std.specs.Prelude.{◌≡◌, true, false, List, [], ◌++◌, ℕ, ◌≤◌, length, replicate}
use Rattle.std.proofs.Math.Path.{refl, sym, ap, subst, fun_ext}
use Rattle.std.proofs.Common.{ap₂, ◌∙◌, not-suc-le-zero, zero-add, arith, length-append, length-drop}
use Rattle.std.proofs.lemmas.Bool.{false≢true}
use Rattle.std.proofs.Math.ListN.{drop as dropped, get_or-append}
use Rattle.std.proofs.lemmas.List.{length-replicate}
use Rattle.sequence.specs.Lists.{tabulate, get_or_same}
use Rattle.places.specs.Places.{size}
use Rattle.refusals.specs.Refusals.{answered}
use Rattle.index.specs.Words.{index_of}
use Rattle.index.specs.Laws.{length_index, index_front, index_ext}
use Rattle.machine.specs.Machine.{Sizes, places, sizes_ok, first_refusal, is_start, region}
use Rattle.machine.specs.Machine.{uses, start, asked, Answer, done, begun, accepted}
use Rattle.machine.proofs.Laws.Kept.{sound_begun}
use Rattle.memory.specs.Memory.{Memory, memory, sizes_of, lengths}
use Rattle.memory.specs.declared.Head.{Head}
use Rattle.promise.specs.Holds.{Holds}
use Rattle.promise.specs.Did.{Did}
use Rattle.laws.specs.Models.{check_of, mark_lengths}
use Rattle.starting.specs.Models.{change_says, start_head, Starts}
use Rattle.starting.specs.Steps.{BeginsAs}
use Rattle.laws.specs.Refusals.{passed_step, start_admitted, check_size_passes}
use Rattle.laws.specs.Checks.{space_zero, same_lent}

-- whatever the head before it
pub start_check : (k : Memory) (s n f shift : ℕ)
    → check_of (start_head s n f shift) (mark_lengths k) 0 true ≡ asked (sizes_of k.head) (start (sizes_of (start_head s n f shift)) (lengths k))
unfolding check_of asked
start_check k s n f shift =
    let z = sizes_of (start_head s n f shift) in
    space_zero z _ ∙ ap (λ o. first_refusal o true true) (same_lent z (uses (start z (lengths k))) (lengths k))

front_long : (n : ℕ) (front rest : List ℕ) → length front ≡ n → n ≤ length (front ++ rest)
front_long n front rest e = omega (arith, length-append front rest)

-- in place of as many words at the front
front_same : (n : ℕ) (front ws : List ℕ) → length front ≡ n → n ≤ length ws → length (front ++ dropped n ws) ≡ length ws
front_same n front ws e l = omega (arith, length-append front (dropped n ws), length-drop n ws)

module _ (s n f shift : ℕ) (k : Memory) where
  abbrev given : Sizes
  given = sizes_of (start_head s n f shift)

  -- the memory that an accepted start leaves
  abbrev prepared : Memory
  prepared =
      let t = places given in
      memory (start_head s n f shift) (index_of t (λ _. false) ++ dropped (size t) k.index) (replicate t 0 ++ dropped t k.count)
      k.table k.helper k.stack k.cache k.link k.ram

  none_held : (a : ℕ) → region (begun given k.ram) a ≡ []
  none_held a = get_or_same (places given) a []

  pub begun_holds : sizes_ok given ≡ true → Holds (begun given k.ram) prepared
  begun_holds ok =
      let t = places given in
      record {
        sound = sound_begun given k.ram ok;
        sizes_are = refl;
        index_long = front_long (size t) (index_of t (λ _. false)) _ (length_index t _);
        count_long = front_long t (replicate t 0) _ (length-replicate t 0);
        index_is =
            index_front t (is_start (begun given k.ram)) _ _
            (ap (λ xs. xs ++ dropped (size t) k.index) (index_ext t _ _ (λ q _. sym (get_or_same t q false))));
        counts = λ p l.
            get_or-append (replicate t 0) _ 0 p (rw (length-replicate {A = ℕ} t 0) l) ∙ get_or_same t p 0 ∙ sym (ap length (none_held p));
        entries = λ a j l. absurd (not-suc-le-zero (rw (none_held a) at l));
        links = λ a. rw (none_held a) (record { from = 0; to = 0; chain = refl });
        pooled = record {
          linked = [];
          stop = 0;
          many_is = refl;
          chain = refl;
          fresh_fits = omega arith;
          pool_is = ap₂ tabulate (fun_ext (λ j. sym (zero-add j))) (omega arith);
        };
        ram_is = refl;
      }

  pub start_then : asked (sizes_of k.head) (start given (lengths k)) ≡ 0 → (a : Answer) (k' : Memory) → Starts (start_head s n f shift) k a k'
      → Did (start given) k a k'
  unfolding accepted
  start_then pass a k' d =
      let w = start_admitted (sizes_of k.head) given (lengths k) pass in
      let t = places given in
      let checked = check_size_passes given w.sizes_ok_lem (length k.index) (w.lent.index refl) in
      let done_is : a ≡ done = d.answer_is ∙ ap change_says (d.prepared.answer ∙ ap (λ n. answered n tt) checked) in
      let after_is : k' ≡ prepared =
      d.after_is
      ∙ ap (λ ws. memory (start_head s n f shift) ws (replicate t 0 ++ dropped t k.count) k.table k.helper k.stack k.cache k.link k.ram)
      (d.prepared.cleared checked) in
      rw (done_is, after_is)
      (record {
        asks = rw pass refl;
        stays = λ e. absurd (false≢true e);
        bounds = record {
          index_length = front_same (size t) (index_of t (λ _. false)) k.index (length_index t _) (w.lent.index refl);
          count_length = front_same t (replicate t 0) k.count (length-replicate t 0) (w.lent.count refl);
          table = refl;
          helper = refl;
          stack = refl;
          cache = refl;
          link = refl;
          ram = refl;
          accepted = λ _. record { sizes = refl; first = refl; many = refl; fresh = refl; index = refl; count = refl };
        };
        tells = λ f w is. tt;
        gives = λ is. tt;
        honest = λ m h.
            let o = passed_step m (start given (lengths k)) (subst (λ z. asked z (start given (lengths k)) ≡ 0) h.sizes_are pass) in
            record {
              answer_is = sym (ap (λ r. r.answer) o);
              holds =
                  subst (λ r. Holds r.after prepared) (sym o)
                  (subst (λ ram. Holds (begun given ram) prepared) h.ram_is (begun_holds w.sizes_ok_lem));
            };
        begins = λ _. (refl, begun_holds w.sizes_ok_lem);
      })

-- ---- what begins, for the calls that go on from there

-- head, index and resident counts as a start of the sizes of h leaves them
pub record Begun (h : Head) (ws count : List ℕ) (h' : Head) (ws' count' : List ℕ) : Type 0 where
  pub head_is : h' ≡ h
  pub index_is : ws' ≡ index_of (places (sizes_of h)) (λ _. false) ++ dropped (size (places (sizes_of h))) ws
  pub count_is : count' ≡ replicate (places (sizes_of h)) 0 ++ dropped (places (sizes_of h)) count

pub begun_as : (h : Head) → sizes_ok (sizes_of h) ≡ true → (ws count : List ℕ) → size (places (sizes_of h)) ≤ length ws
    → (h' : Head) (a : Answer) (ws' count' : List ℕ) → BeginsAs h ws count h' a ws' count' → Begun h ws count h' ws' count'
begun_as h ok ws count long h' a ws' count' d =
    let s = d h [] [] [] [] [] [] in
    record {
      head_is = ap (λ (k : Memory). k.head) s.after_is;
      index_is = ap (λ (k : Memory). k.index) s.after_is ∙ s.prepared.cleared (check_size_passes (sizes_of h) ok (length ws) long);
      count_is = ap (λ (k : Memory). k.count) s.after_is;
    }
