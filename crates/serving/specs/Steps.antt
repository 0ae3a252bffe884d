-- One step on memory lent whole is a step of a sequence, and follows the plain machine, started or not.
use Rattle.std.specs.Prelude.{◌≡◌, Bool, true, false, List, ◌++◌, ◌⊎◌, ℕ, zero, suc, length, drop}
use Rattle.std.proofs.Math.Path.{refl}
use Rattle.std.proofs.Common.{sym, ap, ◌∙◌, subst, append-nil, inl, inr, arith}
use Rattle.std.proofs.Math.Option.{Option, some}
use Rattle.std.proofs.Math.Seq.{take-length, drop-length}
use Rattle.machine.specs.Machine.{Sizes, sizes, sizes_ok, State, Lent, Call, start, read_map, uses, facts, asked, Answer, refusal, answer, after, Out}
use Rattle.machine.specs.Machine.{unstarted, with_ram}
use Rattle.machine.proofs.Laws.Calls.{begins_so, map_described}
use Rattle.memory.specs.Memory.{Memory, memory, sizes_of, lengths}
use Rattle.promise.specs.Holds.{Holds}
use Rattle.promise.specs.Did.{BeginsBy, Did, Exactly, still}
use Rattle.laws.specs.Refusals.{passed_step, refused_step, refusal_still}
use Rattle.demands.specs.History.{front, rejoined, Lends, Carries, FrontStep, lent_front}
use Rattle.demands.proofs.Laws.Step.{step_follows}
use Rattle.requests.specs.Requests.{requested}
use Rattle.requests.specs.declared.Request.{Request}
use Rattle.requests.specs.declared.Request.TheVariants.{Start, Page, Free, Translate, Read, Write, List as Listing, WriteMap, ReadMap}

-- ---- a call lent all of the memory is a step of a sequence

front_whole : (k : Memory) → front (lengths k) k ≡ k
front_whole k = λ j.
    memory k.head (take-length k.index j) (take-length k.count j) (take-length k.table j) (take-length k.helper j)
    (take-length k.stack j) (take-length k.cache j) (take-length k.link j) (take-length k.ram j)

-- nothing is left beyond the whole
whole : (xs ys : List ℕ) → xs ++ drop (length ys) ys ≡ xs
whole xs ys = rw drop-length (append-nil xs)

rejoined_whole : (k k' : Memory) → rejoined (lengths k) k' k ≡ k'
rejoined_whole k k' = λ j.
    memory k'.head (whole k'.index k.index j) (whole k'.count k.count j) (whole k'.table k.table j) (whole k'.helper k.helper j)
    (whole k'.stack k.stack j) (whole k'.cache k.cache j) (whole k'.link k.link j) (whole k'.ram k.ram j)

lends_whole : (u : Bool) (n : ℕ) → Lends u n n
lends_whole true n = omega arith
lends_whole false n = refl

carries_own : (q : Request) (bytes records : List ℕ) (l : Lent) → Carries (requested q bytes records l) l
carries_own (Start s n f p) bytes records l = refl
carries_own (Page p i b) bytes records l = refl
carries_own Free bytes records l = tt
carries_own (Translate i x) bytes records l = refl
carries_own (Read i x) bytes records l = refl
carries_own (Write i x) bytes records l = refl
carries_own (Listing i) bytes records l = refl
carries_own WriteMap bytes records l = refl
carries_own ReadMap bytes records l = refl

pub whole_step : (q : Request) (bytes records : List ℕ) (k : Memory) (a : Answer) (k₁ : Memory) → Did (requested q bytes records) k a k₁
    → FrontStep k (record { call = requested q bytes records; lent = lengths k; answer = a }) k₁
whole_step q bytes records k a k₁ d =
    let l = lengths k in
    let c = requested q bytes records l in
    let u = uses c in
    record {
      parts = record {
        index = lends_whole u.index _;
        count = lends_whole u.count _;
        table = lends_whole u.table _;
        helper = lends_whole u.helper _;
        stack = lends_whole u.stack _;
        cache = lends_whole u.cache _;
        link = lends_whole u.link _;
        ram = lends_whole u.ram _;
      };
      carries = carries_own q bytes records l;
      part = k₁;
      did = subst (λ (x : Memory). Did (requested q bytes records) x a k₁) (sym (front_whole k)) d;
      after_is = sym (rejoined_whole k k₁);
    }

-- ---- no start made yet

-- "no start made (the head's S is then 0)": the machine has only the RAM
pub record Unstarted (m : State) (k : Memory) : Type 0 where
  pub state_is : m ≡ unstarted k.ram
  pub none : k.head.spaces ≡ 0

-- the memory stands for the machine, started or not
abbrev pub Stands : State → Memory → Type 0
Stands m k = Holds m k ⊎ Unstarted m k

pub record FollowsMachine (m : State) (c : Call) (a : Answer) (k₁ : Memory) : Type 0 where
  pub answer_is : a ≡ answer m c
  pub stands : Stands (after m c) k₁

no_sizes : (z : Sizes) → z.spaces ≡ 0 → sizes_ok z ≡ false
unfolding sizes_ok
no_sizes z e = rw e

module _ (m : State) (k : Memory) (a : Answer) (k₁ : Memory) (u : Unstarted m k) where
  -- a refusal changes nothing
  refused_alike : (c : Lent → Call) (j : ℕ) → asked (sizes_of k.head) (c (lengths k)) ≡ suc j → asked m.sizes (c (lengths k)) ≡ suc j → Did c k a k₁
      → FollowsMachine m (c (lengths k)) a k₁
  refused_alike c j e e' d =
      let r : a ≡ refusal (c (lengths k)) (suc j) = subst (λ (i : ℕ). Exactly i (sizes_of k.head) (c (lengths k)) a) e d.asks in
      let o = refused_step m (c (lengths k)) j e' in
      record {
        answer_is = r ∙ sym (ap (λ (x : Out). x.answer) o);
        stands = rw (d.stays (ap still r ∙ refusal_still (c (lengths k)) (suc j))) (subst (λ (x : Out). Stands x.after k) (sym o) (inr u));
      }

  same_none : m.sizes.spaces ≡ 0
  same_none = ap (λ (x : State). x.sizes.spaces) u.state_is

  -- before a start every call that begins nothing is refused with 1
  refused_first : (c : Lent → Call) → ((z : Sizes) → sizes_ok z ≡ false → asked z (c (lengths k)) ≡ 1) → Did c k a k₁ → FollowsMachine m (c (lengths k)) a k₁
  refused_first c one d = refused_alike c 0 (one _ (no_sizes _ u.none)) (one _ (no_sizes _ same_none)) d

  -- a beginning has the RAM as it stands
  first_begun : (c : Lent → Call) (s : State) → (facts (c (lengths k))).begins ≡ some s → asked (sizes_of k.head) (c (lengths k)) ≡ 0
      → asked m.sizes (c (lengths k)) ≡ 0 → Did c k a k₁ → FollowsMachine m (c (lengths k)) a k₁
  first_begun c s is e e' d =
      let o = passed_step m (c (lengths k)) e' ∙ begins_so m s (c (lengths k)) is in
      let b = subst (λ (x : Option State). BeginsBy x (asked (sizes_of k.head) (c (lengths k))) k a k₁) is d.begins e in
      record {
        answer_is = b.0 ∙ sym (ap (λ (x : Out). x.answer) o);
        stands =
            subst (λ (x : Out). Stands x.after k₁) (sym o)
            (inl (subst (λ (ram : List ℕ). Holds (with_ram s ram) k₁) (sym (ap (λ (x : State). x.ram) u.state_is)) b.1));
      }

  -- whatever the sizes that stand, a call that begins is asked the same
  begun_served : (c : Lent → Call) → (asked (sizes_of k.head) (c (lengths k)) ≡ 0 → (s : State) × ((facts (c (lengths k))).begins ≡ some s))
      → asked (sizes_of k.head) (c (lengths k)) ≡ asked m.sizes (c (lengths k)) → Did c k a k₁ → FollowsMachine m (c (lengths k)) a k₁
  begun_served c begins alike d = go (asked (sizes_of k.head) (c (lengths k))) refl
    where
      go : (j : ℕ) → asked (sizes_of k.head) (c (lengths k)) ≡ j → FollowsMachine m (c (lengths k)) a k₁
      go zero e = let (s, is) = begins e in first_begun c s is e (sym alike ∙ e) d
      go (suc j) e = refused_alike c j e (sym alike ∙ e) d

  unstarted_served : (q : Request) (bytes records : List ℕ) → Did (requested q bytes records) k a k₁
      → FollowsMachine m (requested q bytes records (lengths k)) a k₁
  unfolding asked
  unstarted_served (Start s n f p) bytes records d = begun_served (start (sizes s n f p)) (λ e. (_, refl)) refl d
  unstarted_served (Page p i b) bytes records d = refused_first _ (λ z e. rw e) d
  unstarted_served Free bytes records d = refused_first _ (λ z e. rw e) d
  unstarted_served (Translate i x) bytes records d = refused_first _ (λ z e. rw e) d
  unstarted_served (Read i x) bytes records d = refused_first _ (λ z e. rw e) d
  unstarted_served (Write i x) bytes records d = refused_first _ (λ z e. rw e) d
  unstarted_served (Listing i) bytes records d = refused_first _ (λ z e. rw e) d
  unstarted_served WriteMap bytes records d = refused_first _ (λ z e. rw e) d
  unstarted_served ReadMap bytes records d =
      begun_served (read_map bytes) (λ e. (_, map_described (sizes_of k.head) bytes (lengths k) e)) refl d

pub serve_follows : (m : State) (k : Memory) (q : Request) (bytes records : List ℕ) (a : Answer) (k₁ : Memory) → Stands m k
    → Did (requested q bytes records) k a k₁ → FollowsMachine m (requested q bytes records (lengths k)) a k₁
serve_follows m k q bytes records a k₁ (inl H) d =
    let f = step_follows m k _ k₁ H (lent_front (whole_step q bytes records k a k₁ d)) in
    record { answer_is = f.answer_is; stands = inl f.holds }
serve_follows m k q bytes records a k₁ (inr u) d = unstarted_served m k a k₁ u q bytes records d
