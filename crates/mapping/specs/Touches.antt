-- Touches one after another: what they may change adds up, and on honest memory they are the machine's.
use Rattle.std.specs.Prelude.{◌≡◌, refl, List, [], ◌∷◌, ◌++◌, ℕ, zero, suc, ◌+◌, ◌*◌, ◌≤◌, ◌<◌, get_or}
use Rattle.std.proofs.Common.{sym, ap, ◌∙◌, subst, add-zero, add_assoc, arith, length-append}
use Rattle.sequence.specs.Lists.{each_append, suc_across}
use Rattle.machine.specs.declared.PageCall.TheVariants.{Touch}
use Rattle.machine.specs.Machine.{Sizes, place_of, State, page_facts, touch, touch_at, touch_all, zeroed, Answer, accepted, after}
use Rattle.machine.proofs.Laws.Stays.{grown_all_touched}
use Rattle.memory.specs.Memory.{Memory, sizes_of, lengths}
use Rattle.promise.specs.Holds.{Holds}
use Rattle.promise.specs.Shown.{Shown}
use Rattle.promise.specs.Did.{Maps, zeroed_all, FrameOf, Writes, Did}
use Rattle.promise.proofs.Refuses.{words_same, words_then}
use Rattle.laws.specs.Refusals.{Long, writes_none, passed_step}
use Rattle.laws.specs.Lengths.{lengths_stay}
use Rattle.laws.specs.Passing.{page_passes}
use Rattle.laws.specs.Spans.{AllTouched, none_touched, one_touched}

-- ---- on any memory

-- where nothing was mapped, each page is shown as before
still_shown : {z : Sizes} {i b n : ℕ} {k k₁ : Memory} → (t : Maps z i b n k k₁) → t.mapped ≡ 0 → (j c : ℕ) → Shown k j c → Shown k₁ j c
still_shown {k = k} {k₁ = k₁} t e j c s =
    rw
    (t.none e, words_same e t.count, words_same e t.table, words_same e t.helper, words_same e t.stack, words_same e t.cache)
    s

zeroed_all_append : (z : Sizes) (fs gs ram : List ℕ) → zeroed_all z (fs ++ gs) ram ≡ zeroed_all z gs (zeroed_all z fs ram)
zeroed_all_append z [] gs ram = refl
zeroed_all_append z (f ∷ fs) gs ram = zeroed_all_append z fs gs (zeroed z f ram)

-- touches one after another map and clear what each of them does
pub all_writes : {i b : ℕ} {k : Memory} {n : ℕ} {k₁ : Memory} → AllTouched i b k n k₁ → Writes (sizes_of k.head) i b n 0 (λ p. ⊥) k k₁
all_writes {k = k} none_touched = writes_none _ _ _ _ _ _ k
all_writes {i} {b} (one_touched {n} {k₁} {k₂} t d) = add_touch n (all_writes t) d.bounds
  where
    only : (j : ℕ) → j < 1 → 0 ≡ j
    only j l = omega arith

    add_touch : {k k₁ k₂ : Memory} (n : ℕ) → Writes (sizes_of k.head) i b n 0 (λ p. ⊥) k k₁ → Writes (sizes_of k₁.head) i (b + n) 1 0 (λ p. ⊥) k₁ k₂
        → Writes (sizes_of k.head) i b (suc n) 0 (λ p. ⊥) k k₂
    add_touch {k} {k₁} {k₂} n first second =
        let z = sizes_of k.head in
        let t = first.maps in
        let w = subst (λ (z : Sizes). Writes z i (b + n) 1 0 (λ p. ⊥) k₁ k₂) t.sizes second in
        let v = w.maps in
        let fs = first.fills.frames in
        let gs = w.fills.frames in
        let cleared : zeroed_all z (fs ++ gs) k.ram ≡ zeroed_all z gs k₁.ram =
        zeroed_all_append z fs gs k.ram ∙ ap (zeroed_all z gs) (sym (words_same refl first.fills.stored)) in
        record {
          maps =
              record {
                mapped = t.mapped + v.mapped;
                taken = omega (arith, t.taken, v.taken);
                few = omega (arith, t.few, v.few);
                none = λ e. v.none (omega arith) ∙ t.none (omega arith);
                shown = λ all.
                    let before : t.mapped ≡ 0 = t.shown (λ j l. all j (omega arith)) in
                    let here : v.mapped ≡ 0 =
                    v.shown (λ j l.
                    still_shown t before i (b + n + j)
                    (subst (Shown k i) (sym (add-zero (b + n)) ∙ ap (λ (c : ℕ). b + n + c) (only j l)) (all n (omega arith)))) in
                    omega arith;
                sizes = v.sizes ∙ t.sizes;
                index = v.index ∙ t.index;
                count = words_then t.count v.count;
                table = words_then t.table v.table;
                helper = words_then t.helper v.helper;
                stack = words_then t.stack v.stack;
                cache = words_then t.cache v.cache;
                link = words_then t.link v.link;
                others = λ p d. v.others p (λ j l e. d n (omega arith) (omega arith)) ∙ t.others p (λ j l e. d j (omega arith) e);
              };
          fills =
              record {
                frames = fs ++ gs;
                one_each = omega (arith, length-append fs gs, first.fills.one_each, w.fills.one_each);
                below = each_append 0 (λ f. f < z.frames) fs gs first.fills.below w.fills.below;
                own =
                    each_append 0 (FrameOf z i b (suc n) k₂.table) fs gs
                    (λ j l.
                    let (c, low, is) = first.fills.own j l in
                    (c, omega arith, v.others (place_of z i (b + c)) (λ d h e. absurd (omega arith)) ∙ is))
                    (λ j l.
                    let (c, low, is) = w.fills.own j l in
                    let same : b + n ≡ b + n + c = omega arith in
                    (n, omega arith, ap (λ (q : ℕ). get_or k₂.table (place_of z i q) 0) same ∙ is));
                stored = rw cleared w.fills.stored;
                others = λ p d. rw cleared (w.fills.others p d);
              };
        }

-- no touch changes sizes
pub all_sizes : {i b n : ℕ} {k k₁ : Memory} → AllTouched i b k n k₁ → sizes_of k₁.head ≡ sizes_of k.head
all_sizes t = (all_writes t).maps.sizes

-- ---- on honest memory

-- one more page
pub touch_all_more : (m : State) (p n : ℕ) → touch_all m p (suc n) ≡ (touch_at (touch_all m p n) (p + n)).after
unfolding touch_all
touch_all_more m p zero = rw add-zero
touch_all_more m p (suc n) =
    touch_all_more (touch_at m p).after (suc p) n
    ∙ ap (λ (q : ℕ). (touch_at (touch_all (touch_at m p).after (suc p) n) q).after) (suc_across p n)

-- and lengths stay
pub touched_lengths : {i b : ℕ} {k : Memory} {n : ℕ} {k₁ : Memory} → AllTouched i b k n k₁ → lengths k₁ ≡ lengths k
touched_lengths none_touched = refl
touched_lengths {i} {b} (one_touched {n} {k₁} {k₂} {a} t d) = lengths_stay (touch i (b + n)) k₁ a k₂ d ∙ touched_lengths t

pub all_touched_holds : {i b : ℕ} {k : Memory} {n : ℕ} {k₁ : Memory} (m : State) → Holds m k → Long (page_facts Touch).uses m.sizes (lengths k)
    → i < m.sizes.spaces → b + n ≤ m.sizes.pages → AllTouched i b k n k₁
    → Holds (touch_all m (place_of m.sizes i b) n) k₁
unfolding touch_all accepted
all_touched_holds m h long s l none_touched = h
all_touched_holds {i} {b} m h long s l (one_touched {n} {k₁} {k₂} {a} t d) =
    next k₁ k₂ a n (all_touched_holds m h long s (omega arith) t) (rw (touched_lengths t) long) d (omega arith)
  where
    next : (k₁ k₂ : Memory) (a : Answer) (n : ℕ) → Holds (touch_all m (place_of m.sizes i b) n) k₁
        → Long (page_facts Touch).uses m.sizes (lengths k₁) → Did (touch i (b + n)) k₁ a k₂ → b + n < m.sizes.pages
        → Holds (touch_all m (place_of m.sizes i b) (suc n)) k₂
    next k₁ k₂ a n h₁ long d l =
        let p = place_of m.sizes i b in
        let m₁ = touch_all m p n in
        let c = touch i (b + n) (lengths k₁) in
        let z = (grown_all_touched m p n h.sound).sizes_same in
        let e = page_passes m₁.sizes Touch i (b + n) (lengths k₁) h₁.sound.sizes_ok_lem (rw z s) (rw z l) (rw z long) in
        let o = passed_step m₁ c e in
        let place : place_of m₁.sizes i (b + n) ≡ p + n = ap (λ (y : Sizes). place_of y i (b + n)) z ∙ sym (add_assoc (i * m.sizes.pages) b n) in
        let is : after m₁ c ≡ touch_all m p (suc n) = ap (λ r. r.after) o ∙ ap (λ (q : ℕ). (touch_at m₁ q).after) place ∙ sym (touch_all_more m p n) in
        rw (← is) (d.honest m₁ h₁).holds
