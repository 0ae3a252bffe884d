-- Words that keep the rules tell of a sound state.
use Rattle.std.specs.Prelude.{◌≡◌, refl, ◌≢◌, true, false, ◌&&◌, List, [], ◌∷◌, map, ℕ, zero, suc, ◌+◌, ◌-◌, ◌*◌, ◌/◌, ◌%◌, ◌≤◌, ◌<◌, leb, ltb, length, get_or}
use Rattle.std.proofs.Common.{sym, ap, ◌∙◌, subst, true≢false, add-zero, mod-lt, div-add-mod', div-lt_iff_lt-mul, arith, leb-true, ltb-true}
use Rattle.std.proofs.Math.Option.{Option, none, some, none-ne-some, some-injective}
use Rattle.std.proofs.Math.Decide.{ℕ_discrete, dec_lt}
use Rattle.std.proofs.Math.Arith.{digits_div}
use Rattle.std.proofs.Math.ListN.{get_or-eq_default}
use Rattle.sequence.specs.Lists.{length_tabulate, Each}
use Rattle.sequence.specs.Sums.{sum, sum_append, sum_none, hit, hit_same, hit_other}
use Rattle.places.specs.Places.{all_new}
use Rattle.places.specs.Distinct.{new_once, new_whole}
use Rattle.machine.specs.State.{places, place_of, State, Pair, is_start, region, start_of}
use Rattle.machine.specs.Claims.{Sound, in_regions, no_pair}
use Rattle.machine.specs.Map.{Entry, Block, whole_from, rest_in, blocks_in, sizes_in, part_in, entries_at, is_some, or_empty, pair_of, found_at, held_at, state_in}
use Rattle.machine.specs.MapRules.{all_within, entry_pages, tiled, fine_from, fine_body, pages_once, held_frames, all_frames}
use Rattle.machine.proofs.Laws.Sizes.{both, fit}
use Rattle.machine.proofs.Laws.Regions.{is_owner}
use Rattle.machine.proofs.Laws.Map.Rules.{Rules}
use Rattle.machine.proofs.Laws.Map.Back.{found_first, found_later}
use Rattle.machine.proofs.Laws.Map.Frames.{held_sum}
use Rattle.machine.proofs.Laws.Map.Again.{First, first_picked, none_lower, Tells}
use Rattle.machine.proofs.Laws.Map.Exact.{tells, blocks_same}

-- ---- the block of a page among blocks that fill a space

within_each : (lo hi : ℕ) (xs : List ℕ) → all_within lo hi xs ≡ true → (k : ℕ) → k < length xs → (lo ≤ get_or xs k 0) × (get_or xs k 0 < hi)
unfolding all_within
within_each lo hi [] h k l = absurd (omega arith)
within_each lo hi (x ∷ xs) h zero l =
    let (a, b) = both (leb lo x && ltb x hi) _ h in
    let (c, d) = both (leb lo x) _ a in
    (leb-true lo x c, ltb-true x hi d)
within_each lo hi (x ∷ xs) h (suc k) l = within_each lo hi xs (both (leb lo x && ltb x hi) _ h).1 k (omega arith)

-- what a block that is found at page q is, or where the search goes on
found_either : (x : Block) (xs : List Block) (q : ℕ) (es : List Entry) (A : Type 0) → entries_at (x ∷ xs) q ≡ some es
    → (x.start ≡ q → x.entries ≡ es → A) → (x.start ≢ q → entries_at xs q ≡ some es → A) → A
found_either x xs q es A e first later = elim (ℕ_discrete x.start q) [
  | yes d ↦ first d (some-injective x.entries es (sym (found_first x xs q d) ∙ e))
  | no d ↦ later d (sym (found_later x xs q d) ∙ e)
]

-- the block that starts at page q: its pages lie before page end, and no other starts there
record Here (n q : ℕ) (bs : List Block) (es : List Entry) : Type 0 where
  pub end : ℕ
  pub inside : end ≤ n
  pub pages : all_within q end (entry_pages es) ≡ true
  pub alone : (c : ℕ) → q < c → c < end → entries_at bs c ≡ none

here : (n b q : ℕ) (bs : List Block) (es : List Entry) → tiled n b bs ≡ true → entries_at bs q ≡ some es → Here n q bs es
unfolding entries_at
here n b q [] es h e = absurd (none-ne-some es e)
here n b q (x ∷ xs) es h e =
    found_either x xs q es (Here n q (x ∷ xs) es) e first (λ d g. later g (here n (b + x.length) q xs es f.rest g))
  where
    f : First n b x xs
    f = first_picked n b x xs h

    first : x.start ≡ q → x.entries ≡ es → Here n q (x ∷ xs) es
    first d same =
        let at : b ≡ q = sym f.start_is ∙ d in
        let pages = subst (λ (ys : List Entry). all_within b (b + x.length) (entry_pages ys) ≡ true) same f.pages in
        record {
          end = b + x.length;
          inside = f.inside;
          pages = subst (λ (c : ℕ). all_within c (b + x.length) (entry_pages es) ≡ true) at pages;
          alone = λ c low high. found_later x xs c (λ g. omega arith) ∙ none_lower n (b + x.length) c xs f.rest high;
        }

    later : entries_at xs q ≡ some es → Here n q xs es → Here n q (x ∷ xs) es
    later g r = elim (dec_lt q (b + x.length)) [
      | yes l ↦ absurd (none-ne-some es (sym (none_lower n (b + x.length) q xs f.rest l) ∙ g))
      | no l ↦
          record {
            end = r.end;
            inside = r.inside;
            pages = r.pages;
            alone = λ c lo hi. found_later x xs c (λ k. omega (arith, f.start_is)) ∙ r.alone c lo hi;
          }
    ]

fine_here : (n q : ℕ) (part : List ℕ) (es : List Entry) → fine_body n part ≡ true → entries_at (blocks_in part) q ≡ some es → Here n q (blocks_in part) es
unfolding rest_in entries_at fine_from
fine_here n q [] es h e = absurd (none-ne-some es e)
fine_here n q (a ∷ rest) es h e = here n a q (blocks_in (a ∷ rest)) es (both (whole_from 0 (a ∷ rest)) _ h).1 e

-- its pages stand once
once_here : (n q : ℕ) (bs : List Block) (es : List Entry) → pages_once n bs ≡ true → entries_at bs q ≡ some es → all_new n (λ _. false) (entry_pages es) ≡ true
unfolding entries_at pages_once
once_here n q [] es h e = absurd (none-ne-some es e)
once_here n q (x ∷ xs) es h e =
    let (new, rest) = both (all_new n (λ _. false) (entry_pages x.entries)) _ h in
    found_either x xs q es (all_new n (λ _. false) (entry_pages es) ≡ true) e
    (λ d same. subst (λ (ys : List Entry). all_new n (λ _. false) (entry_pages ys) ≡ true) same new)
    (λ d g. once_here n q xs es rest g)

-- ---- pairs from entries

each_pairs : (lo : ℕ) (P : ℕ → Type 0) (es : List Entry) → ((k : ℕ) → k < length (entry_pages es) → P (lo + get_or (entry_pages es) k 0))
    → Each no_pair (λ x. P x.place) (map (pair_of lo) es)
each_pairs lo P [] h k l = absurd (omega arith)
each_pairs lo P (x ∷ es) h zero l = h 0 (omega arith)
each_pairs lo P (x ∷ es) h (suc k) l = each_pairs lo P es (λ j i. h (suc j) (omega arith)) k (omega arith)

-- how often place p stands in some pairs
abbrev times : ℕ → List Pair → ℕ
times p xs = sum (λ x. hit p x.place) xs

times_shift : (lo p : ℕ) (es : List Entry) → lo ≤ p → times p (map (pair_of lo) es) ≡ sum (hit (p - lo)) (entry_pages es)
times_shift lo p [] h = refl
times_shift lo p (x ∷ es) h = omega (arith, one, times_shift lo p es h)
  where
    one : hit p (lo + x.page) ≡ hit (p - lo) x.page
    one = elim (ℕ_discrete x.page (p - lo)) [
      | yes e ↦ hit_same p (lo + x.page) (omega arith) ∙ sym (hit_same (p - lo) x.page e)
      | no d ↦ hit_other p (lo + x.page) (λ e. d (omega arith)) ∙ sym (hit_other (p - lo) x.page d)
    ]

times_lower : (lo p : ℕ) (es : List Entry) → p < lo → times p (map (pair_of lo) es) ≡ 0
times_lower lo p [] h = refl
times_lower lo p (x ∷ es) h = omega (arith, hit_other p (lo + x.page) (λ e. omega arith), times_lower lo p es h)

times_few : (lo p n : ℕ) (es : List Entry) → all_new n (λ _. false) (entry_pages es) ≡ true → times p (map (pair_of lo) es) ≤ 1
times_few lo p n es h = elim (dec_lt p lo) [
  | yes l ↦ omega (arith, times_lower lo p es l)
  | no l ↦ omega (arith, times_shift lo p es (omega arith), new_once n (λ _. false) (entry_pages es) h (p - lo))
]

-- a sum of which all but one entry count for nothing
sum_only : {A : Type 0} (d : A) (g : A → ℕ) (xs : List A) (a : ℕ) → ((b : ℕ) → b ≢ a → g (get_or xs b d) ≡ 0) → sum g xs ≤ g (get_or xs a d)
sum_only d g [] a h = omega arith
sum_only d g (x ∷ xs) zero h = omega (arith, sum_none d g xs (λ k l. h (suc k) (λ e. omega arith)))
sum_only d g (x ∷ xs) (suc a) h = omega (arith, h 0 (λ e. omega arith), sum_only d g xs a (λ b n. h (suc b) (λ e. n (omega arith))))

none_of : (o : Option (List Entry)) → is_some o ≡ false → or_empty o ≡ []
none_of none e = refl
none_of (some es) e = absurd (true≢false e)

-- ---- the state

module _ (ram ws : List ℕ) (r : Rules ws) where
  abbrev m : State
  m = state_in ram ws

  abbrev N : ℕ
  N = (sizes_in ws).pages

  abbrev Own : ℕ → ℕ → Type 0
  Own a p = start_of m p ≡ some a

  -- page q of space i
  module _ (i q : ℕ) (inside : i < (sizes_in ws).spaces) (h : q < (sizes_in ws).pages) where
    abbrev lo : ℕ
    lo = place_of (sizes_in ws) i 0

    abbrev bs : List Block
    bs = blocks_in (part_in ws i)

    t : Tells m lo N 0 bs
    t = tells ram ws i inside 0

    owned : (es : List Entry) → entries_at bs q ≡ some es → (k : ℕ) → k < length (entry_pages es) → Own (lo + q) (lo + get_or (entry_pages es) k 0)
    owned es e k l =
        let b = fine_here N q (part_in ws i) es (r.bodies i inside).fine e in
        let w = within_each q b.end (entry_pages es) b.pages k l in
        let page : get_or (entry_pages es) k 0 < N = omega (arith, b.inside) in
        let space : (lo + get_or (entry_pages es) k 0) / N ≡ i = rw (add-zero (i * N)) (digits_div i {m = N} page) in
        is_owner N m.starts (lo + get_or (entry_pages es) k 0) (lo + q)
        (record {
          in_space = rw space (omega arith);
          at_most = omega arith;
          start = t.starts q (omega arith) h ∙ ap is_some e;
          clear = λ c low high.
              let back : lo + (c - lo) ≡ c = omega arith in
              let s = t.starts (c - lo) (omega arith) (omega arith) ∙ ap is_some (b.alone (c - lo) (omega arith) (omega arith)) in
              rw back at s;
        })

    own_in : Each no_pair (λ x. Own (lo + q) x.place) (region m (lo + q))
    own_in =
        subst (λ (xs : List Pair). Each no_pair (λ x. Own (lo + q) x.place) xs) (sym (t.held q (omega arith) h)) (go (entries_at bs q) refl)
      where
        go : (o : Option (List Entry)) → entries_at bs q ≡ o → Each no_pair (λ x. Own (lo + q) x.place) (map (pair_of lo) (or_empty o))
        go none e = λ k l. absurd (omega arith)
        go (some es) e = each_pairs lo (Own (lo + q)) es (owned es e)

    once_in : (p : ℕ) → times p (region m (lo + q)) ≤ 1
    once_in p = subst (λ (xs : List Pair). times p xs ≤ 1) (sym (t.held q (omega arith) h)) (go (entries_at bs q) refl)
      where
        go : (o : Option (List Entry)) → entries_at bs q ≡ o → times p (map (pair_of lo) (or_empty o)) ≤ 1
        go none e = omega arith
        go (some es) e = times_few lo p N es (once_here N q bs es (r.bodies i inside).once e)

    empty_in : is_start m (lo + q) ≡ false → region m (lo + q) ≡ []
    empty_in e = t.held q (omega arith) h ∙ ap (map (pair_of lo)) (none_of (entries_at bs q) (sym (t.starts q (omega arith) h) ∙ e))

  -- any place
  held_are : length m.held ≡ places (sizes_in ws)
  held_are = length_tabulate (held_at N ws) (places (sizes_in ws))

  by_place : (P : ℕ → Type 0) → ((i q : ℕ) → i < (sizes_in ws).spaces → q < N → P (place_of (sizes_in ws) i 0 + q))
      → ((a : ℕ) → region m a ≡ [] → P a) → (a : ℕ) → P a
  by_place P inside outside a =
      let some_pages = (fit (sizes_in ws) r.sizes_ok_lem).some_pages in
      elim (dec_lt a (places (sizes_in ws))) [
        | yes l ↦
            let e : place_of (sizes_in ws) (a / N) 0 + a % N ≡ a = omega (arith, div-add-mod' a N) in
            subst P e (inside (a / N) (a % N) ((div-lt_iff_lt-mul some_pages).1 l) (mod-lt a some_pages))
        | no l ↦ outside a (get_or-eq_default m.held [] (omega (arith, held_are)))
      ]

  own_all : (a : ℕ) → Each no_pair (λ x. Own a x.place) (region m a)
  own_all = by_place (λ a. Each no_pair (λ x. Own a x.place) (region m a)) own_in (λ a e. rw e (λ k l. absurd (omega arith)))

  once_there : (p a : ℕ) → times p (region m a) ≤ 1
  once_there p = by_place (λ a. times p (region m a) ≤ 1) (λ i q inside h. once_in i q inside h p) (λ a e. rw e (omega arith))

  elsewhere : (a : ℕ) → is_start m a ≡ false → region m a ≡ []
  elsewhere = by_place (λ a. is_start m a ≡ false → region m a ≡ []) empty_in (λ a e _. e)

  -- a page is in no region but its own
  foreign : (p b : ℕ) → (Own b p → ⊥) → times p (region m b) ≡ 0
  foreign p b n = sum_none no_pair (λ x. hit p x.place) (region m b) (λ k l. hit_other p _ (λ e. n (ap (start_of m) (sym e) ∙ own_all b k l)))

  once_all : (p : ℕ) → in_regions (λ x. hit p x.place) m ≤ 1
  once_all p = go (start_of m p) refl
    where
      go : (o : Option ℕ) → start_of m p ≡ o → in_regions (λ x. hit p x.place) m ≤ 1
      go none e = omega (arith, sum_none [] (times p) m.held (λ b l. foreign p b (λ f. none-ne-some b (sym e ∙ f))))
      go (some a) e =
          let others : (b : ℕ) → b ≢ a → times p (region m b) ≡ 0 = λ b d. foreign p b (λ f. d (sym (some-injective a b (sym e ∙ f)))) in
          omega (arith, sum_only [] (times p) m.held a others, once_there p a)

  pub rules_sound : Sound m
  rules_sound =
      record {
        sizes_ok_lem = r.sizes_ok_lem;
        starts_are = length_tabulate (λ p. is_some (found_at N ws p)) (places (sizes_in ws));
        held_are = held_are;
        whole = λ g.
            omega (
              arith,
              held_sum g m ws held_are elsewhere (λ i h. sym (blocks_same ram ws i h (r.bodies i h).fine)),
              sum_append g (held_frames ws 0 (sizes_in ws).spaces) (part_in ws (sizes_in ws).spaces),
              new_whole (sizes_in ws).frames (all_frames ws) r.frames_new r.frames_many g,
            );
        own = own_all;
        once = once_all;
      }
