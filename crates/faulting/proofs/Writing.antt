-- A write keeps the promise: refused before the first touch, or all touched and all stored.
use Rattle.std.specs.Prelude.{Result, Ok, Err}
use Rattle.refusals.specs.Refusals.{number}
use Rattle.machine.specs.declared.RefusedAfter.{RefusedAfter}
use Rattle.std.proofs.Math.Path.{◌≡◌, sym, subst}
use Rattle.std.specs.Prelude.{refl, Bool, true, ◌&&◌, ◌||◌, List, [], ◌∷◌, ℕ, zero, suc, ◌+◌, ◌*◌, ◌/◌, ◌≤◌, ◌<◌, leb, ltb, length}
use Rattle.std.proofs.Common.{ap, ◌∙◌, zero-le, div-lt_iff_lt-mul, arith, leb-true, ltb-true, ltb-false, le-ltb}
use Rattle.std.proofs.Math.Bool.{false}
use Rattle.places.specs.Laws.{div_mono}
use Rattle.machine.specs.declared.Touched.{Touched}
use Rattle.machine.specs.declared.Touched.TheVariants as touched_is
use Rattle.machine.specs.Answers.{touched_says}
use Rattle.machine.specs.Machine.{Sizes, sizes_ok, space_bytes, State, Page, outside, unmapped, mapped, page_of, page_of_address, span_pages, Lent, uses, enough}
use Rattle.machine.specs.Machine.{write, asked, old, new, refused, refused_after, done, tell, touch_new, touch_page, is_outside, any_outside, is_unmapped}
use Rattle.machine.specs.Machine.{count_absent, stored_at, stored, store_all, span_touched, span_outside, span_short, write_if, write_at, accepted, after}
use Rattle.machine.proofs.Laws.Sizes.{both, Fit, fit, some_bytes, passed, page_below}
use Rattle.machine.proofs.Laws.Shows.{address_mapped}
use Rattle.machine.specs.Claims.{PlaceOf}
use Rattle.machine.proofs.Laws.Storing.{stored_other}
use Rattle.memory.specs.Memory.{Memory, with_bytes, sizes_of, lengths, place_by}
use Rattle.promise.specs.Holds.{Holds}
use Rattle.promise.specs.Did.{Among, Words, Writes, Did}
use Rattle.promise.proofs.Refuses.{words_same}
use Rattle.laws.specs.Bytes.{bytes_hold}
use Rattle.laws.specs.Spans.{AllTouched}
use Rattle.laws.specs.Refusals.{Long, long, passed_step}
use Rattle.laws.specs.Passing.{every_long}
use Rattle.laws.specs.Told.{from_four, told_did}
use Rattle.surveying.specs.Surveys.{write_refusal}
use Rattle.mapping.specs.Touches.{all_writes, all_touched_holds}
use Rattle.storing.specs.Stores.{SpanMapped, span_words, span_stored_lem}
use Rattle.faulting.specs.Writing.{refused_with}

-- ---- the check

-- a write that passed
pub record SpanAdmitted (z : Sizes) (i x : ℕ) (vs : List ℕ) (l : Lent) : Type 0 where
  pub sizes_ok_lem : sizes_ok z ≡ true
  pub lent : Long (uses (write i x vs l)) z l
  pub space : i < z.spaces
  pub fits : x + length vs ≤ space_bytes z

pub write_admitted : (z : Sizes) (i x : ℕ) (vs : List ℕ) (l : Lent) → asked z (write i x vs l) ≡ 0 → SpanAdmitted z i x vs l
unfolding asked
write_admitted z i x vs l e =
    let u = uses (write i x vs l) in
    let p = passed (sizes_ok z && enough u z l) (ltb i z.spaces) (leb (x + length vs) (space_bytes z)) e in
    let q = both (sizes_ok z) _ p.first in
    record { sizes_ok_lem = q.0; lent = long u z l q.1; space = ltb-true i z.spaces p.second; fits = leb-true _ (space_bytes z) p.third }

-- ---- the pages of a span

module _ (z : Sizes) (f : Fit z) (x : ℕ) where
  -- a span in a space has its pages in the space
  pub span_pages_inside : (n : ℕ) → x + n ≤ space_bytes z → x / z.page + span_pages z x n ≤ z.pages
  span_pages_inside zero l = let h : x / z.page < suc z.pages = (div-lt_iff_lt-mul (some_bytes z f)).1 (omega (arith, some_bytes z f)) in omega arith
  span_pages_inside (suc n) l =
      let a : x / z.page ≤ (x + n) / z.page = div_mono (some_bytes z f) (omega arith) in
      let b : (x + n) / z.page < z.pages = page_below z (x + n) f (omega arith) in
      omega arith

-- ---- before the first touch

-- the number that settles a write on this machine
abbrev pub span_refusal : State → ℕ → ℕ → ℕ → ℕ
span_refusal m i x n = write_refusal (span_outside m i x n) (span_short m i x n)

-- the touch of its page settles a write of one
pub touch_settles : (m : State) (p w : ℕ) (a : Result Touched RefusedAfter) → touched_says a ≡ (touch_page m p w (page_of m p)).answer
    → refused_with a ≡ write_refusal (any_outside m p 1) (ltb (length m.pool) (count_absent m p 1))
unfolding any_outside count_absent
touch_settles m p w a = go (page_of m p)
  where
    same_number : (n w : ℕ) (a : Result Touched RefusedAfter) → touched_says a ≡ refused_after n w → refused_with a ≡ n
    same_number n w (Ok (touched_is.Old f)) e = absurd (let z : ◌≡◌ {A = ℕ} 0 1 = cc in omega arith)
    same_number n w (Ok (touched_is.New f c)) e = absurd (let z : ◌≡◌ {A = ℕ} 0 1 = cc in omega arith)
    same_number n w (Err y) e = let same : number y.refusal ≡ n = cc in same

    from_pool : (g : ℕ) (pool : List ℕ) → touched_says a ≡ (touch_new m g p w pool).answer → refused_with a ≡ write_refusal false (ltb (length pool) 1)
    from_pool g [] e = same_number 8 w a e
    from_pool g (f ∷ rest) e = rw (le-ltb (length (f ∷ rest)) 1 (omega arith)) (new_one a e)
      where
        new_one : (a : Result Touched RefusedAfter) → touched_says a ≡ new f w → refused_with a ≡ 0
        new_one (Ok (touched_is.Old h)) e = refl
        new_one (Ok (touched_is.New h c)) e = refl
        new_one (Err y) e = absurd (let z : ◌≡◌ {A = ℕ} 0 1 = cc in omega arith)

    go : (g : Page) → touched_says a ≡ (touch_page m p w g).answer
        → refused_with a ≡ write_refusal (is_outside g || false) (ltb (length m.pool) (is_unmapped g + 0))
    go outside e = same_number 4 w a e
    go (unmapped g) e = from_pool g m.pool e
    go (mapped g f) e = rw (le-ltb (length m.pool) 0 zero-le) (old_one a e)
      where
        old_one : (a : Result Touched RefusedAfter) → touched_says a ≡ old f → refused_with a ≡ 0
        old_one (Ok (touched_is.Old h)) e = refl
        old_one (Ok (touched_is.New h c)) e = refl
        old_one (Err y) e = absurd (let z : ◌≡◌ {A = ℕ} 0 1 = cc in omega arith)

refused_if : (m : State) (i x : ℕ) (vs : List ℕ) (a b : Bool) (n : ℕ) → n ≡ write_refusal a b → (n ≡ 0 → ⊥) → write_if m i x vs a b ≡ tell m (refused n)
refused_if m i x vs true b n e d = rw e
refused_if m i x vs false true n e d = rw e
refused_if m i x vs false false n e d = absurd (d e)

none_refused : (a b : Bool) → 0 ≡ write_refusal a b → (a ≡ false) × (b ≡ false)
none_refused true b e = absurd (omega arith)
none_refused false true e = absurd (omega arith)
none_refused false false e = (refl, refl)

-- ---- the promise

module _ (i x : ℕ) (vs : List ℕ) (k : Memory) (passes : asked (sizes_of k.head) (write i x vs (lengths k)) ≡ 0) where
  asked_of : (m : State) → Holds m k → asked m.sizes (write i x vs (lengths k)) ≡ 0
  asked_of m h = ap (λ z. asked z (write i x vs (lengths k))) (sym h.sizes_are) ∙ passes

  pub write_refused : (n : ℕ) → Among (4 ∷ 8 ∷ 9 ∷ []) n → ((m : State) → Holds m k → n ≡ span_refusal m i x (length vs)) → Did (write i x vs) k (refused n) k
  unfolding accepted
  write_refused n given is =
      let low = from_four _ _ _ n (omega arith) (omega arith) (omega arith) given in
      told_did (write i x vs) k (refused n) passes (given, refl) (tt, tt)
      (λ m h. refused_if m i x vs (span_outside m i x (length vs)) (span_short m i x (length vs)) n (is m h) (omega arith))

  -- the memory after the touches, and the RAM after the stores
  module _ (k₁ : Memory) (ram : List ℕ)
      (touched : AllTouched i (x / (sizes_of k.head).page) k (span_pages (sizes_of k.head) x (length vs)) k₁)
      (settled : (m : State) → Holds m k → 0 ≡ span_refusal m i x (length vs))
      (stores : ram ≡ stored_at (place_by k₁.head i k₁.table) x vs k₁.ram) where
    honest : (m : State) → Holds m k → Holds (store_all (span_touched m i x (length vs)) i x vs) (with_bytes k₁ ram)
    honest m h =
        let z = m.sizes in
        let n = length vs in
        let p = page_of_address z i x in
        let q = span_pages z x n in
        let m₁ = span_touched m i x n in
        let a = write_admitted z i x vs (lengths k) (asked_of m h) in
        let f = fit z a.sizes_ok_lem in
        let h₁ = all_touched_holds m h (every_long _ z (lengths k) a.lent) a.space (span_pages_inside z f x n a.fits)
        (subst (λ y. AllTouched i (x / y.page) k (span_pages y x n) k₁) h.sizes_are touched) in
        let s = none_refused (span_outside m i x (length vs)) (span_short m i x (length vs)) (settled m h) in
        let mapped : SpanMapped m₁ i x n =
        λ j l.
        address_mapped m h.sound i x n (x + j) s.0 (ltb-false (length m.pool) (count_absent m p q) s.1) (omega arith) (omega arith) in
        let is : stored m₁ i x vs m₁.ram ≡ ram =
        ap (stored m₁ i x vs) (sym h₁.ram_is) ∙ sym (span_stored_lem m₁ k₁ h₁ i x vs k₁.ram mapped) ∙ sym stores in
        rw is (bytes_hold m₁ k₁ ram h₁)

    -- the touches' words and clearing, and the bytes of the span
    bounds : Writes (sizes_of k.head) i (x / (sizes_of k.head).page) (span_pages (sizes_of k.head) x (length vs)) (length vs)
        (PlaceOf (place_by k₁.head i k₁.table) x (length vs)) k (with_bytes k₁ ram)
    bounds =
        let z = sizes_of k.head in
        let w = all_writes touched in
        let t = w.maps in
        let pos = some_bytes z (fit z (write_admitted z i x vs (lengths k) passes).sizes_ok_lem) in
        record {
          maps =
              record {
                mapped = t.mapped;
                taken = t.taken;
                few = t.few;
                none = t.none;
                shown = t.shown;
                sizes = t.sizes;
                index = t.index;
                count = t.count;
                table = t.table;
                helper = t.helper;
                stack = t.stack;
                cache = t.cache;
                link = t.link;
                others = t.others;
              };
          fills =
              record {
                frames = w.fills.frames;
                one_each = w.fills.one_each;
                below = w.fills.below;
                own = w.fills.own;
                others = λ p d.
                    rw (stores, ← words_same refl w.fills.stored)
                    (stored_other (place_by k₁.head i k₁.table) x vs k₁.ram p (λ j l e. d (j, l, e)));
                stored =
                    rw (stores, ← words_same refl w.fills.stored)
                    (subst
                    (λ (y : Sizes). Words (length vs) (y.frames * y.page) k₁.ram (stored_at (place_by k₁.head i k₁.table) x vs k₁.ram)) t.sizes
                    (span_words k₁.head i x vs k₁.table k₁.ram (subst (λ (y : Sizes). 0 < y.page) (sym t.sizes) pos)));
              };
        }

    pub write_done : Did (write i x vs) k done (with_bytes k₁ ram)
    unfolding accepted
    write_done =
        record {
          asks = rw passes refl;
          stays = λ e. absurd (let z : ◌≡◌ {A = ℕ} 0 1 = cc in omega arith);
          bounds = bounds;
          tells = λ f w is. tt;
          gives = λ is. tt;
          honest = λ m h.
              let s = none_refused (span_outside m i x (length vs)) (span_short m i x (length vs)) (settled m h) in
              let accepts : write_at m i x vs ≡ write_if m i x vs false false = rw (s.0, s.1) in
              let o = passed_step m (write i x vs (lengths k)) (asked_of m h) ∙ accepts in
              record { answer_is = sym (ap (λ r. r.answer) o); holds = subst (λ r. Holds r.after (with_bytes k₁ ram)) (sym o) (honest m h) };
          begins = tt;
        }
