-- A hand-back keeps the promise: six table words and the head change at most, and on honest memory the page has left its region's list.
use Rattle.std.specs.Prelude.{◌≡◌, refl, Bool, true, false, List, [], ◌∷◌, ℕ, suc, ◌+◌, ◌-◌, ◌<◌, ltb, length, get_or, set}
use Rattle.std.proofs.Common.{sym, ◌∙◌, subst, inl, inr, true≢false, arith}
use Rattle.std.proofs.Math.Path.{ap}
use Rattle.std.proofs.Math.Decide.{dec_lt}
use borrow.Author.Tests.{ltb-true, lt-ltb, lt-leb, le-leb}
use Rattle.sequence.specs.Changes.{changed_more}
use Rattle.machine.specs.declared.PageCall.TheVariants.{GiveBack}
use Rattle.machine.specs.Machine.{Sizes, places, place_of, State, no_pair, region, page_of, every_table, give_back, asked}
use Rattle.machine.specs.Machine.{page_given_back, Answer, handed, refused, tell, index_in, give_back_page, accepted, step}
use Rattle.machine.specs.Claims.{is_refused}
use Rattle.machine.proofs.Laws.Sizes.{both}
use Rattle.machine.proofs.Laws.Lookup.{Mapped, is_mapped, mapped_is}
use Rattle.machine.proofs.Laws.Holders.{frame_below}
use Rattle.machine.proofs.Laws.Handed.{region_long}
use Rattle.memory.specs.Memory.{Memory, at, sizes_of, lengths}
use Rattle.memory.specs.declared.Head.{Head}
use Rattle.lookup.specs.declared.Sight.{Sight}
use Rattle.lookup.specs.declared.Sight.TheVariants as sight_is
use Rattle.lookup.specs.Models.{SeenAt}
use Rattle.lookup.specs.Lookup.{Agrees, resident_agrees, SightIs, seen_honest}
use Rattle.lookup.proofs.Looking.{seen_frame}
use Rattle.promise.specs.Holds.{Holds}
use Rattle.promise.specs.Did.{Among, Words, Did}
use Rattle.promise.proofs.Refuses.{words_then}
use Rattle.laws.specs.Models.{table_lengths}
use Rattle.laws.specs.Refusals.{Long, words_none, words_set, bounds_none, Admitted, admitted, checked_did, passed_step}
use Rattle.laws.specs.Checks.{page_check}
use Rattle.laws.specs.Room.{owned_below}
use Rattle.pool.specs.Pool.{many_fit}
use Rattle.giving.specs.Models.{pair_ok, neighbour_ok, leave_ok_at, leave_ok_in, relinked, left, give_says, give_leaves, GiveDone}
use Rattle.giving.proofs.Holding.{start_word_lem, position_word, last_word, holds_handed}

-- ---- the code's test

-- word w of the stack is a place whose page has a frame below f
pub record Paired (f : ℕ) (table stack : List ℕ) (t w : ℕ) : Type 0 where
  pub place : at stack w < t
  pub frame : at table (at stack w) < f

module _ (f : ℕ) (table stack : List ℕ) (t w : ℕ) where
  pub pair_says : pair_ok f table stack t w ≡ true → Paired f table stack t w
  unfolding pair_ok
  pair_says e = let p = both (ltb (at stack w) t) _ e in record { place = ltb-true _ _ p.0; frame = ltb-true _ _ p.1 }

  pub says_pair : Paired f table stack t w → pair_ok f table stack t w ≡ true
  unfolding pair_ok
  says_pair p = rw (lt-ltb (at stack w) t p.place, lt-ltb (at table (at stack w)) f p.frame)

-- the page at position i of the region at a, whose newest page stands at position n, can leave
pub record Sited (h : Head) (table stack : List ℕ) (t a i n : ℕ) : Type 0 where
  pub top : a + n < t
  pub newest : Paired h.frames table stack t (a + n)
  pub neighbour : i < n → Paired h.frames table stack t (a + i + 1)
  pub room : h.many < h.frames

module _ (h : Head) (table stack : List ℕ) (t a i n : ℕ) where
  -- the younger neighbour's words are asked for only where there is one
  neighbour_says : neighbour_ok h.frames table stack t a i n ≡ true → i < n → Paired h.frames table stack t (a + i + 1)
  unfolding neighbour_ok
  neighbour_says e l = pair_says h.frames table stack t (a + i + 1) (rw (lt-leb n i l) at e)

  says_neighbour : (i < n → Paired h.frames table stack t (a + i + 1)) → neighbour_ok h.frames table stack t a i n ≡ true
  unfolding neighbour_ok
  says_neighbour p = elim (dec_lt i n) [
    | yes l ↦ rw (lt-leb n i l) (says_pair h.frames table stack t (a + i + 1) (p l))
    | no l ↦ rw (le-leb n i (omega arith))
  ]

  pub leave_says : leave_ok_at h table stack t a i n ≡ true → Sited h table stack t a i n
  unfolding leave_ok_at
  leave_says e =
      let p₃ = both _ _ e in
      let p₂ = both _ _ p₃.0 in
      let p₁ = both (ltb (a + n) t) _ p₂.0 in
      record {
        top = ltb-true _ _ p₁.0;
        newest = pair_says h.frames table stack t (a + n) p₁.1;
        neighbour = neighbour_says p₂.1;
        room = ltb-true _ _ p₃.1;
      }

  pub says_leave : Sited h table stack t a i n → leave_ok_at h table stack t a i n ≡ true
  unfolding leave_ok_at
  says_leave c =
      rw (
        lt-ltb (a + n) t c.top,
        says_pair h.frames table stack t (a + n) c.newest,
        says_neighbour c.neighbour,
        lt-ltb h.many h.frames c.room,
      )

-- ---- honest memory passes it

module _ (m : State) (k : Memory) (H : Holds m k) (lent : Long every_table m.sizes (lengths k)) (p a f : ℕ) (there : Mapped m p a f) where
  abbrev frames_same : k.head.frames ≡ m.sizes.frames
  frames_same = ap (λ (z : Sizes). z.frames) H.sizes_are

  -- an entry of the region's stack
  entry_paired : (j w : ℕ) → w ≡ a + j → j < length (region m a) → Paired k.head.frames k.table k.stack (places m.sizes) w
  entry_paired j w is l =
      let x = H.entries a j l in
      let q = (get_or (region m a) j no_pair).place in
      let on_stack : at k.stack w ≡ q = ap (at k.stack) is ∙ x.stack_is in
      let its-frame = frame_below m H.sound a _ _ (record { at = j; inside = l; is = refl }) in
      record {
        place = rw on_stack (owned_below m H.sound q a (H.sound.own a j l));
        frame = omega (arith, ap (at k.table) on_stack, x.table_is, its-frame, frames_same);
      }

  leave_honest : leave_ok_in k p ≡ true
  leave_honest =
      let long = region_long m H.sound p a f there in
      let n = length (region m a) - 1 in
      let i = index_in p (region m a) in
      rw (ap places H.sizes_are, start_word_lem m k H lent p a f there, position_word m k H lent p a f there, last_word m k H lent p a f there)
      (says_leave k.head k.table k.stack (places m.sizes) a i n
      (record {
        top = owned_below m H.sound (a + n) a (H.entries a n (omega (arith, long))).room;
        newest = entry_paired n (a + n) refl (omega (arith, long));
        neighbour = λ l. entry_paired (suc i) (a + i + 1) (omega arith) (omega (arith, long));
        room = omega (arith, long, many_fit m k H a);
      }))

-- ---- the words that change

-- three words at most, none past the frames
module _ (link : List ℕ) (t f next last v : ℕ) (f_low : f < t) (last-low : last < t) where
  relinked_few : (b : Bool) → (b ≡ true → next < t) → Words 3 t link (set (relinked b link f next last) f v)
  relinked_few true next_low =
      words_then (words_then (words_set t link next last (next_low refl)) (words_set t (set link next last) last (at link f) last-low)) (words_set t _ f v f_low)
  relinked_few false next_low =
      let w = words_set t link f v f_low in
      record { few = changed_more (omega arith) w.few; excess = w.excess }

-- ---- the whole call

module _ (k : Memory) (i b : ℕ) (e : asked (sizes_of k.head) (give_back i b (lengths k)) ≡ 0) where
  abbrev z : Sizes
  z = sizes_of k.head

  abbrev p : ℕ
  p = place_of (sizes_of k.head) i b

  known : Admitted (sizes_of k.head) every_table i b (lengths k)
  known = admitted z GiveBack i b (lengths k) e

  -- what the machine does
  out_is : (m : State) → Holds m k → step m (give_back i b (lengths k)) ≡ give_back_page m p (page_of m p)
  unfolding accepted
  out_is m H =
      passed_step m (give_back i b (lengths k)) (ap (λ y. asked y (give_back i b (lengths k))) (sym H.sizes_are) ∙ e)
      ∙ ap (λ y. give_back_page m (place_of y i b) (page_of m (place_of y i b))) (sym H.sizes_are)

  -- what is seen is what the machine says of the page
  sight_is_machine : (s : Sight) → SeenAt k i b s → (m : State) → Holds m k → SightIs m p s
  sight_is_machine s seen m H =
      let y = H.sizes_are in
      subst (λ (x : Sizes). SightIs m (place_of x i b) s) (sym y)
      (seen_honest m k H i b (subst (λ (x : Sizes). i < x.spaces) y known.space) (subst (λ (x : Sizes). b < x.pages) y known.page) s seen)

  -- ---- refused

  module _ (n : ℕ) (mine : Among (4 ∷ 9 ∷ 10 ∷ []) n) where
    refuses : ((m : State) → Holds m k → give_back_page m p (page_of m p) ≡ tell m (refused n)) → Did (give_back i b) k (refused n) k
    refuses same =
        record {
          asks = rw e (mine, refl);
          stays = λ _. refl;
          bounds = bounds_none (page_given_back i b) 0 k (λ _. tt);
          tells = λ f w is. tt;
          gives = λ is. absurd (true≢false (ap is_refused is));
          honest = λ m H.
              let o = out_is m H ∙ same m H in
              record { answer_is = sym (ap (λ r. r.answer) o); holds = rw (ap (λ r. r.after) o) H };
          begins = tt;
        }

  -- ---- done

  module _ (f : ℕ) (seen : SeenAt k i b (sight_is.Mapped f)) where
    agrees : Agrees k.count k.stack (places (sizes_of k.head)) p (at k.cache p) (at k.helper p)
    agrees = resident_agrees k.count k.helper k.stack k.cache (places z) p (seen_frame k i b f seen).resident

    f_low : at k.table p < k.head.frames
    f_low = let s = seen_frame k i b f seen in omega (arith, s.below, s.frame_is)

    machine_mapped : (m : State) → Holds m k → (a : ℕ) × Mapped m p a f
    machine_mapped m H = let (a, is) = sight_is_machine (sight_is.Mapped f) seen m H in (a, is_mapped m p a f is)

    lent_for : (m : State) → Holds m k → Long every_table m.sizes (lengths k)
    lent_for m H = subst (λ (y : Sizes). Long every_table y (lengths k)) H.sizes_are known.lent

    broken_did : leave_ok_in k p ≡ false → Did (give_back i b) k (refused 9) k
    broken_did bad =
        refuses 9 (inr (inl refl))
        (λ m H. let (a, there) = machine_mapped m H in absurd (true≢false (sym (leave_honest m k H (lent_for m H) p a f there) ∙ bad)))

    left_did : leave_ok_in k p ≡ true → Did (give_back i b) k handed (left k p)
    left_did good =
        let a = at k.cache p in
        let j = at k.helper p in
        let n = at k.count a - 1 in
        let free = leave_says k.head k.table k.stack (places z) a j n good in
        let start_low : a < places z = omega (arith, free.top) in
        record {
          asks = rw e refl;
          stays = λ s. absurd (true≢false (sym s));
          bounds =
              record {
                given = 1;
                few = omega arith;
                back = omega arith;
                words =
                    record {
                      sizes = refl;
                      index = words_none 0 _ k.index;
                      count = words_set (places z) k.count a n start_low;
                      table = words_none 0 _ k.table;
                      helper = words_set (places z) k.helper _ j free.newest.place;
                      stack = words_set (places z) k.stack (a + j) _ agrees.entry_low;
                      cache = words_none 0 _ k.cache;
                      link =
                          relinked_few k.link k.head.frames _ _ _ k.head.first f_low free.newest.frame (ltb j n)
                          (λ t. (free.neighbour (ltb-true j n t)).frame);
                      ram = refl;
                    };
              };
          tells = λ f w is. tt;
          gives = λ is. omega arith;
          honest = λ m H.
              let (s, there) = machine_mapped m H in
              let o = out_is m H ∙ ap (give_back_page m p) (mapped_is m p s f there) in
              record {
                answer_is = sym (ap (λ r. r.answer) o);
                holds = rw (ap (λ r. r.after) o) (holds_handed m k H (lent_for m H) p s f there);
              };
          begins = tt;
        }

  by_sight : (s : Sight) → SeenAt k i b s → (v : Bool) → leave_ok_in k p ≡ v → Did (give_back i b) k (give_says s v) (give_leaves s v k p)
  by_sight (sight_is.Mapped f) seen true good = left_did f seen good
  by_sight (sight_is.Mapped f) seen false bad = broken_did f seen bad
  by_sight (sight_is.Unmapped a c) seen v ok =
      refuses 10 (inr (inr (inl refl))) (λ m H. ap (give_back_page m p) (sight_is_machine (sight_is.Unmapped a c) seen m H).0)
  by_sight (sight_is.Outside c) seen v ok = refuses 4 (inl refl) (λ m H. ap (give_back_page m p) (sight_is_machine (sight_is.Outside c) seen m H).0)
  by_sight sight_is.Broken seen v ok = refuses 9 (inr (inl refl)) (λ m H. absurd (sight_is_machine sight_is.Broken seen m H))

pub give_did : (i b : ℕ) (k : Memory) (a : Answer) (k' : Memory) → GiveDone i b k a k' → Did (give_back i b) k a k'
give_did i b k a k' d =
    checked_did (give_back i b) k _ (page_check k i b GiveBack (table_lengths k) refl) _ a k' d
    (λ e r. rw (r.answer_is, r.after_is) (by_sight k i b e r.sight r.seen (leave_ok_in k _) refl))
