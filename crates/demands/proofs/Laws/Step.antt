-- One call of a sequence gives the answer of the machine that the memory stands for, and leaves memory that stands for the machine after it.
use Rattle.std.specs.Prelude.{◌≡◌, refl, Bool, true, false, List, ℕ, zero, suc, ◌*◌, ◌≤◌, length}
use Rattle.std.proofs.Common.{sym, ap, ◌∙◌, subst, arith, take-append-drop}
use Rattle.std.proofs.lemmas.Bool.{false≢true}
use Rattle.std.proofs.Math.Option.{Option, none, some}
use Rattle.machine.specs.declared.PageCall.TheVariants.{Mark, Drop, Touch, Look, Release, GiveBack}
use Rattle.machine.specs.Machine.{Sizes, State, Lent, uses, facts, sizes_by, Call, start, page, free, translate, read, write, list, write_map, read_map, asked}
use Rattle.machine.specs.Machine.{Answer, done, refusal, Out, with_ram}
use Rattle.machine.proofs.Laws.Calls.{begins_so}
use Rattle.memory.specs.Memory.{Memory, sizes_of, lengths}
use Rattle.promise.specs.Holds.{Holds}
use Rattle.promise.specs.Did.{Exactly, still, Follows, BeginsBy, Begins, Did}
use Rattle.laws.specs.Refusals.{Long, passed_step, refused_step, refusal_still, early_did}
use Rattle.laws.specs.Lengths.{lengths_stay, sizes_stay}
use Rattle.demands.specs.History.{front, rejoined, Lends, Parts, Carries, Event, played, FrontStep, ShortStep, Step, lent_front, lent_short}
use Rattle.demands.proofs.Laws.Parts.{lengths_front, rejoined_front}
use Rattle.demands.proofs.Laws.Cut.{cut, SameCut, same_whole, same_read, same_touch, same_write}
use Rattle.demands.proofs.Laws.Agree.{front_holds, rejoined_holds}
use Rattle.demands.proofs.Laws.Lent.{asked_long}

-- the promise on the part that was lent, its lengths being those that the call carries
pub record Told (k : Memory) (n : Lent) (c : Call) (a : Answer) (part : Memory) : Type 0 where
  pub carries : Carries c n
  pub parts : Parts (uses c) n (lengths k)
  pub asks : Exactly (asked (sizes_of k.head) c) (sizes_of k.head) c a
  pub stays : still a ≡ true → part ≡ front n k
  pub long : lengths part ≡ n
  pub sizes : (facts c).begins ≡ none → sizes_of part.head ≡ sizes_of k.head
  pub honest : (m : State) → Holds m (front n k) → Follows m c a part
  pub begins : Begins c (front n k) a part

pub told : (k : Memory) (e : Event) (k' : Memory) → (s : FrontStep k e k') → Told k e.lent (played e) e.answer s.part
told k e k' s =
    let long = lengths_front (uses (played e)) e.lent k s.parts in
    let same = ap e.call long in
    let d = s.did in
    record {
      carries = s.carries;
      parts = s.parts;
      asks = rw same at d.asks;
      stays = d.stays;
      long = lengths_stay e.call _ e.answer _ d ∙ long;
      sizes = λ none-begun. sizes_stay e.call _ e.answer _ (ap (λ (c : Call). (facts c).begins) same ∙ none-begun) d;
      honest = rw same at d.honest;
      begins = rw same at d.begins;
    }

module _ (k : Memory) (n : Lent) (a : Answer) (part : Memory) where
  -- an accepted beginning makes any memory honest
  pub begun_holds : (s : State) (c : Call) → (facts c).begins ≡ some s → asked (sizes_of k.head) c ≡ 0 → Told k n c a part
      → (a ≡ done) × Holds (with_ram s k.ram) (rejoined n part k)
  begun_holds s c is e t =
      let b = subst (λ (o : Option State). BeginsBy o (asked (sizes_of k.head) c) (front n k) a part) is t.begins e in
      let long = subst (λ (z : Sizes). Long (uses c) z n) (ap (sizes_by (sizes_of k.head)) is) (asked_long (sizes_of k.head) c n t.carries e) in (
        b.0,
        subst (λ (ram : List ℕ). Holds (with_ram s ram) (rejoined n part k)) (take-append-drop n.ram k.ram)
            (rejoined_holds _ (uses c) n k t.parts long part t.long k.ram refl b.1),
      )

  module _ (m : State) (H : Holds m k) where
    abbrev Beside : Call → Type 0
    Beside c = Follows m c a (rejoined n part k)

    -- refused with 1, 2 or 3: nothing changed
    early : (c : Call) (j : ℕ) → asked m.sizes c ≡ suc j → Told k n c a part → Beside c
    early c j e t =
        let r : a ≡ refusal c (suc j) = subst (λ (i : ℕ). Exactly i (sizes_of k.head) c a) (ap (λ (z : Sizes). asked z c) H.sizes_are ∙ e) t.asks in
        let o = refused_step m c j e in
        let same : rejoined n part k ≡ k = ap (λ (p : Memory). rejoined n p k) (t.stays (ap still r ∙ refusal_still c (suc j))) ∙ rejoined_front n k in
        record { answer_is = r ∙ sym (ap (λ (x : Out). x.answer) o); holds = rw same (subst (λ (x : Out). Holds x.after k) (sym o) H) }

    begun_beside : (s : State) (c : Call) → (facts c).begins ≡ some s → asked m.sizes c ≡ 0 → Told k n c a part → Beside c
    begun_beside s c is e t =
        let o = passed_step m c e ∙ begins_so m s c is in
        let b = begun_holds s c is (ap (λ (y : Sizes). asked y c) H.sizes_are ∙ e) t in
        record {
          answer_is = b.0 ∙ sym (ap (λ (x : Out). x.answer) o);
          holds =
              subst (λ (x : Out). Holds x.after (rejoined n part k)) (sym o)
              (subst (λ (ram : List ℕ). Holds (with_ram s ram) (rejoined n part k)) H.ram_is b.1);
        }

    -- an honest part follows the machine whose RAM is cut alike
    honest : (c : Call) → (facts c).begins ≡ none → Long (uses c) m.sizes n → SameCut n.ram m c → Told k n c a part → Beside c
    honest c none-begun long s t =
        let f = t.honest (cut n.ram m) (front_holds m (uses c) n k t.parts long H) in
        let sizes = sym f.holds.sizes_are ∙ t.sizes none-begun ∙ H.sizes_are in
        record {
          answer_is = f.answer_is ∙ s.answers;
          holds =
              subst (λ (x : State). Holds x (rejoined n part k)) s.mends
              (rejoined_holds _ (uses c) n k t.parts (subst (λ (z : Sizes). Long (uses c) z n) (sym sizes) long) part t.long m.ram H.ram_is
              f.holds);
        }

    -- a call that isn't lent the RAM has all of it; of what is lent F x P bytes are enough
    whole_ram : (c : Call) → n.ram ≡ length k.ram → SameCut n.ram m c
    whole_ram c e = same_whole n.ram m c (e ∙ ap length H.ram_is)

    -- the calls that are lent the RAM
    lent_ram : (c : Call) → (uses c).ram ≡ true → m.sizes.frames * m.sizes.page ≤ n.ram → n.ram ≤ length k.ram → SameCut n.ram m c
    lent_ram (start z l) e r h = absurd (false≢true e)
    lent_ram (page Mark i b l) e r h = absurd (false≢true e)
    lent_ram (page Drop i b l) e r h = absurd (false≢true e)
    lent_ram (page Touch i b l) e r h = same_touch m H.sound n.ram r (omega (arith, ap length H.ram_is)) i b l
    lent_ram (page Look i b l) e r h = absurd (false≢true e)
    lent_ram (page Release i b l) e r h = absurd (false≢true e)
    lent_ram (page GiveBack i b l) e r h = absurd (false≢true e)
    lent_ram free e r h = absurd (false≢true e)
    lent_ram (translate i x l) e r h = absurd (false≢true e)
    lent_ram (read i x count l) e r h = same_read m H.sound n.ram r i x count l
    lent_ram (write i x vs l) e r h = same_write m H.sound n.ram r (omega (arith, ap length H.ram_is)) i x vs l
    lent_ram (list i room l) e r h = absurd (false≢true e)
    lent_ram (write_map room l) e r h = absurd (false≢true e)
    lent_ram (read_map file l) e r h = absurd (false≢true e)

    same_cut : (c : Call) → Long (uses c) m.sizes n → Lends (uses c).ram n.ram (length k.ram) → SameCut n.ram m c
    same_cut c long h = go (uses c).ram refl h
      where
        go : (u : Bool) → (uses c).ram ≡ u → Lends u n.ram (length k.ram) → SameCut n.ram m c
        go true e h = lent_ram c e (long.ram e) h
        go false e h = whole_ram c h

    accepted_beside : (c : Call) → asked m.sizes c ≡ 0 → Told k n c a part → Beside c
    accepted_beside c e t = go (facts c).begins refl
      where
        go : (o : Option State) → (facts c).begins ≡ o → Beside c
        go (some s) is = begun_beside s c is e t
        go none is =
            let long = subst (λ (z : Sizes). Long (uses c) z n) (ap (sizes_by m.sizes) is) (asked_long m.sizes c n t.carries e) in
            honest c is long (same_cut c long t.parts.ram) t

    beside : (c : Call) → Told k n c a part → Beside c
    beside c t = go (asked m.sizes c) refl
      where
        go : (j : ℕ) → asked m.sizes c ≡ j → Beside c
        go zero e = accepted_beside c e t
        go (suc j) e = early c j e t

front_follows : (m : State) (k : Memory) (e : Event) (k' : Memory) → Holds m k → FrontStep k e k' → Follows m (played e) e.answer k'
front_follows m k e k' H s = rw s.after_is (beside k e.lent e.answer s.part m H (played e) (told k e k' s))

-- ---- lent too short a part

-- a call refused with 1 changed nothing, and did the same on any memory with that head and those lengths: where the part lay doesn't matter
pub short_anywhere : (c : Lent → Call) (part part' other : Memory) (a : Answer) → other.head ≡ part.head → lengths other ≡ lengths part
    → asked (sizes_of part.head) (c (lengths part)) ≡ 1 → Did c part a part' → (part' ≡ part) × Did c other a other
short_anywhere c part part' other a same long e d =
    let r : a ≡ refusal (c (lengths part)) 1 = subst (λ (i : ℕ). Exactly i (sizes_of part.head) (c (lengths part)) a) e d.asks in (
      d.stays (ap still r ∙ refusal_still (c (lengths part)) 1),
      rw r (subst (λ (l : Lent). Did c other (refusal (c l) 1) other) long (early_did c other 0 (rw (long, same) e))),
    )

-- and what the machine answers
short_follows : (m : State) (k : Memory) (e : Event) → Holds m k → ShortStep k e → Follows m (played e) e.answer k
short_follows m k e H s =
    let q : asked (sizes_of s.part.head) (e.call (lengths s.part)) ≡ 1 = rw (s.head_is, s.lengths_are) s.short in
    let r : e.answer ≡ refusal (e.call (lengths s.part)) 1 =
    subst (λ (i : ℕ). Exactly i (sizes_of s.part.head) (e.call (lengths s.part)) e.answer) q s.did.asks in
    let o = refused_step m (played e) 0 (subst (λ (y : Sizes). asked y (played e) ≡ 1) H.sizes_are s.short) in
    record {
      answer_is = r ∙ ap (λ (l : Lent). refusal (e.call l) 1) s.lengths_are ∙ sym (ap (λ (x : Out). x.answer) o);
      holds = subst (λ (x : Out). Holds x.after k) (sym o) H;
    }

pub step_follows : (m : State) (k : Memory) (e : Event) (k' : Memory) → Holds m k → Step k e k' → Follows m (played e) e.answer k'
step_follows m k e k' H (lent_front s) = front_follows m k e k' H s
step_follows m k e k' H (lent_short s) = short_follows m k e H s
