-- What each address shows after each call: one law a call.
use Rattle.std.specs.Prelude.{◌≡◌, refl, Bool, true, false, cond, ◌||◌, List, [], ◌∷◌, ℕ, zero, suc, ◌+◌, ◌-◌, ◌*◌, ◌/◌, ◌%◌, ◌≤◌, ◌<◌, eqb, leb, ltb, length, get_or}
use Rattle.std.proofs.Common.{sym, ap, ap₂, ◌∙◌, subst, mod-lt, add-zero, arith, eq-eqb, ne_eqb, eqb-true, leb-true, ltb-true, le-leb, lt-ltb, le-ltb, ltb-false}
use Rattle.std.proofs.lemmas.Bool.{false≢true, eqb-false, lt-leb}
use Rattle.std.proofs.Math.Option.{Option, none, some}
use Rattle.std.proofs.Math.Decide.{ℕ_discrete, dec_lt}
use Rattle.places.specs.Laws.{div_mono}
use Rattle.machine.specs.Machine.{Sizes, space_bytes, page_of_address, span_pages, State, is_start, Page, outside, unmapped, mapped, page_of, ram_in, ram_at}
use Rattle.machine.specs.Machine.{start_of, words_at, Out, span_stored, with_pair, cleared, touch_new, touch_page, touch_at, touch_all, emptied, release_at}
use Rattle.machine.specs.Machine.{handed_back, give_back_page}
use Rattle.machine.specs.Machine.{is_outside, any_outside, is_unmapped, count_absent, stored, store_all, span_touched, span_outside, span_short, write_if}
use Rattle.machine.specs.Claims.{Sound, Address, Same, RamFits, is_refused, is_start_at, shown_at, shows, or_zero, in_run, in_span, shows_by, OneStart}
use Rattle.machine.proofs.Laws.Sizes.{both, fit, some_bytes}
use Rattle.machine.proofs.Laws.Lookup.{is_mapped, is_unmapped_lem}
use Rattle.machine.proofs.Laws.Kept.{start_held, sound_paired, sound_emptied, sound_stored}
use Rattle.machine.proofs.Laws.Steps.{sound_touched, sound_all_touched}
use Rattle.machine.proofs.Laws.Holders.{ram_mapped, ram_below, same_byte}
use Rattle.machine.proofs.Laws.Zeroed.{zeroed_in, zeroed_out}
use Rattle.machine.proofs.Laws.Pairs.{Holder, holder_mapped, not_held, shows_held, shows_none, shows_same, new_holder, old_holder}
use Rattle.machine.proofs.Laws.Pairs.{was_holder, kept_holder, left_holder}
use Rattle.machine.proofs.Laws.Handed.{sound_handed, handed_keeps, handed_held, handed_gone}
use Rattle.machine.proofs.Laws.Stays.{held_inside, Grown, grown_fits, grown_touched, grown_all_touched, IsMapped, touch_maps, any_outside_same}
use Rattle.machine.proofs.Laws.Stays.{absent_less, or_false, span_mapped}
use Rattle.machine.proofs.Laws.Storing.{stored_other, stored_at_lem}

module _ (m : State) (s : Sound m) (i x : ℕ) where
  -- what the address shows after a call that isn't refused
  abbrev ShownAfter : Option ℕ → Out → Type 0
  ShownAfter v o = is_refused o.answer ≡ false → shows o.after i x ≡ v

  -- a start put or taken away moves no pair
  same_pairs : (m' : State) → Sound m' → m'.sizes ≡ m.sizes → m'.held ≡ m.held → m'.ram ≡ m.ram → shows m' i x ≡ shows m i x
  same_pairs m' s' z h r =
      shows_same m m' s s' i x z
      (λ f e.
      (record { start = e.start; entry = rw h e.entry }, ap (λ (ram : List ℕ). get_or ram (f * m.sizes.page + x % m.sizes.page) 0) r))
      (λ f e. record { start = e.start; entry = rw h at e.entry })

  pub shows_started : {p : ℕ} (m' : State) → Sound m' → OneStart p m m' → shows m' i x ≡ shows m i x
  shows_started m' s' c = same_pairs m' s' c.sizes c.held c.ram

  -- by what the page of the address is
  shows_page : (q : ℕ) (g : Page) → page_of m q ≡ g → page_of_address m.sizes i x ≡ q → shows m i x ≡ shown_at m.ram (ram_in m.sizes x g)
  shows_page q g is e = ap (λ (y : Page). shown_at m.ram (ram_in m.sizes x y)) (ap (page_of m) e ∙ is)

  -- ---- touch

  -- the offset in a frame
  offset : x % m.sizes.page < m.sizes.page
  offset = mod-lt x (some_bytes m.sizes (fit m.sizes s.sizes_ok_lem))

  module _ (q a f : ℕ) (rest : List ℕ) (is : m.pool ≡ f ∷ rest) (absent : page_of m q ≡ unmapped a) where
    inside : a < length m.held
    inside = held_inside m s q a (is_unmapped_lem m q a absent).region_is

    abbrev after : State
    after = cleared (with_pair m a q f rest) f

    sound_after : Sound after
    sound_after = sound_stored (with_pair m a q f rest) (sound_paired m s q a f rest (is_unmapped_lem m q a absent) is) _

    -- the clearing moves no pair
    to : (p g : ℕ) → Holder (with_pair m a q f rest) p g → Holder after p g
    to p g h = record { start = h.start; entry = h.entry }

    from : (p g : ℕ) → Holder after p g → Holder (with_pair m a q f rest) p g
    from p g h = record { start = h.start; entry = h.entry }

    mapped_shows : (t : Bool) → eqb (page_of_address m.sizes i x) q ≡ t → shows after i x ≡ or_zero t (shows m i x)
    mapped_shows true t =
        let e = eqb-true (page_of_address m.sizes i x) q t in
        shows_held after sound_after i x f (subst (λ (p : ℕ). Holder after p f) (sym e) (to q f (new_holder m q a f rest inside)))
        ∙ ap some (zeroed_in m.sizes f m.ram (x % m.sizes.page) offset)
        ∙ sym (ap (or_zero true) (shows_page q (unmapped a) absent e))
    mapped_shows false t =
        let d = eqb-false (page_of_address m.sizes i x) q t in
        shows_same m after s sound_after i x refl
        (λ g h. (
          to _ g (old_holder m q a f rest inside _ g h),
          zeroed_out m.sizes f m.ram g (x % m.sizes.page) (not_held m s f rest is _ g h) offset,
        ))
        (λ g h. was_holder m q a f rest inside _ g d (from _ g h))

  -- a page that is resident shows its bytes as before
  resident_shows : (q a f : ℕ) → page_of m q ≡ mapped a f → (t : Bool) → eqb (page_of_address m.sizes i x) q ≡ t
      → shows m i x ≡ or_zero t (shows m i x)
  resident_shows q a f e false t = refl
  resident_shows q a f e true t =
      let v = shows_page q (mapped a f) e (eqb-true (page_of_address m.sizes i x) q t) in
      v ∙ sym (ap (or_zero true) v)

  pub touched_shows : (q w : ℕ)
      → ShownAfter (or_zero (eqb (page_of_address m.sizes i x) q) (shows m i x)) (touch_page m q w (page_of m q))
  touched_shows q w = go (eqb (page_of_address m.sizes i x) q) refl (page_of m q) refl
    where
      new_one : (t : Bool) → eqb (page_of_address m.sizes i x) q ≡ t → (a : ℕ) → page_of m q ≡ unmapped a → (pool : List ℕ) → m.pool ≡ pool
          → ShownAfter (or_zero t (shows m i x)) (touch_new m a q w pool)
      new_one t h a e [] is r = absurd (false≢true (sym r))
      new_one t h a e (f ∷ rest) is r = mapped_shows q a f rest is e t h

      go : (t : Bool) → eqb (page_of_address m.sizes i x) q ≡ t → (g : Page) → page_of m q ≡ g → ShownAfter (or_zero t (shows m i x)) (touch_page m q w g)
      go t h outside e r = absurd (false≢true (sym r))
      go t h (unmapped a) e r = new_one t h a e m.pool refl r
      go t h (mapped a f) e r = resident_shows q a f e t h

  -- ---- release

  module _ (a : ℕ) (is : is_start m a ≡ true) where
    abbrev p : ℕ
    p = page_of_address m.sizes i x

    start_is : (f : ℕ) → (h : Holder m p f) → is_start_at (start_of m p) a ≡ eqb a h.start
    start_is f h = ap (λ (o : Option ℕ). is_start_at o a) (holder_mapped m s p f h).region_is

    emptied_shows : (t : Bool) → is_start_at (start_of m p) a ≡ t → shows (emptied m a) i x ≡ cond t none (shows m i x)
    emptied_shows true t =
        shows_none (emptied m a) i x
        (λ f h. let l = left_holder m a (start_held m s a is) p f h in l.1 (sym (eqb-true a l.0.start (sym (start_is f l.0) ∙ t))))
    emptied_shows false t =
        shows_same m (emptied m a) s (sound_emptied m s a is) i x refl
        (λ f h. (kept_holder m a (start_held m s a is) p f h (λ q. eqb-false a h.start (sym (start_is f h) ∙ t) (sym q)), refl))
        (λ f h. (left_holder m a (start_held m s a is) p f h).0)

  pub released_shows : (a : ℕ) (b : Bool) → is_start m a ≡ b
      → ShownAfter (cond (is_start_at (start_of m (page_of_address m.sizes i x)) a) none (shows m i x)) (release_at m a b)
  released_shows a false e r = absurd (false≢true (sym r))
  released_shows a true e r = emptied_shows a e (is_start_at (start_of m (page_of_address m.sizes i x)) a) refl

  -- ---- a page handed back

  given_shows_page : (q a f : ℕ) → page_of m q ≡ mapped a f → (t : Bool) → eqb (page_of_address m.sizes i x) q ≡ t
      → shows (handed_back m a q f) i x ≡ cond t none (shows m i x)
  given_shows_page q a f e true t =
      let same = eqb-true (page_of_address m.sizes i x) q t in
      shows_none (handed_back m a q f) i x
      (λ g h. handed_gone m s q a f (is_mapped m q a f e) g (subst (λ (p : ℕ). Holder (handed_back m a q f) p g) same h))
  given_shows_page q a f e false t =
      let there = is_mapped m q a f e in
      let other = eqb-false (page_of_address m.sizes i x) q t in
      shows_same m (handed_back m a q f) s (sound_handed m s q a f there) i x refl
      (λ g h. (handed_keeps m s q a f there _ g other h, refl))
      (λ g h. handed_held m s q a f there _ g h)

  pub given_shows : (q : ℕ) → ShownAfter (cond (eqb (page_of_address m.sizes i x) q) none (shows m i x)) (give_back_page m q (page_of m q))
  given_shows q = go (page_of m q) refl
    where
      go : (g : Page) → page_of m q ≡ g → ShownAfter (cond (eqb (page_of_address m.sizes i x) q) none (shows m i x)) (give_back_page m q g)
      go outside e r = absurd (false≢true (sym r))
      go (unmapped a) e r = absurd (false≢true (sym r))
      go (mapped a f) e r = given_shows_page q a f e (eqb (page_of_address m.sizes i x) q) refl

-- ---- touches one after another

or_zero_twice : (a b : Bool) (o : Option ℕ) → or_zero a (or_zero b o) ≡ or_zero (a || b) o
or_zero_twice false b o = refl
or_zero_twice true false o = refl
or_zero_twice true true none = refl
or_zero_twice true true (some v) = refl

-- one more at the front
run_more : (q k p : ℕ) → in_run (suc q) k p || eqb p q ≡ in_run q (suc k) p
run_more q k p = elim (ℕ_discrete p q) [
  | yes e ↦
      rw (eq-eqb p q e, le-leb q p (omega arith), lt-ltb p (q + suc k) (omega arith), lt-leb (suc q) p (omega arith))
  | no d ↦ elim (dec_lt p q) [
    | yes l ↦ rw (ne_eqb p q d, lt-leb q p l, lt-leb (suc q) p (omega arith))
    | no l ↦ elim (dec_lt p (q + suc k)) [
      | yes h ↦ rw (ne_eqb p q d, le-leb q p (omega arith), le-leb (suc q) p (omega arith), lt-ltb p (q + suc k) h, lt-ltb p (suc q + k) (omega arith))
      | no h ↦
          rw (ne_eqb p q d, le-leb q p (omega arith), le-leb (suc q) p (omega arith), le-ltb p (q + suc k) (omega arith), le-ltb p (suc q + k) (omega arith))
    ]
  ]
]

-- a run of no places
run_none : (q p : ℕ) → in_run q 0 p ≡ false
run_none q p = elim (dec_lt p q) [
  | yes l ↦ rw (lt-leb q p l)
  | no l ↦ rw (le-leb q p (omega arith), add-zero, le-ltb p q (omega arith))
]

-- a touch of a page with a region, while there is a frame for it, isn't refused
touch_accepted : (m : State) (q w : ℕ) → is_outside (page_of m q) ≡ false → is_unmapped (page_of m q) ≤ length m.pool
    → is_refused (touch_page m q w (page_of m q)).answer ≡ false
touch_accepted m q w = go (page_of m q)
  where
    go : (g : Page) → is_outside g ≡ false → is_unmapped g ≤ length m.pool → is_refused (touch_page m q w g).answer ≡ false
    go outside o l = absurd (false≢true (sym o))
    go (unmapped a) o l = new_one m.pool l
      where
        new_one : (pool : List ℕ) → 1 ≤ length pool → is_refused (touch_new m a q w pool).answer ≡ false
        new_one [] l = absurd (omega arith)
        new_one (f ∷ rest) l = refl
    go (mapped a f) o l = refl

all_touched_shows : (m : State) (q k : ℕ) → Sound m → any_outside m q k ≡ false → count_absent m q k ≤ length m.pool → (i x : ℕ)
    → shows (touch_all m q k) i x ≡ or_zero (in_run q k (page_of_address m.sizes i x)) (shows m i x)
unfolding touch_all any_outside count_absent
all_touched_shows m q zero s o l i x = sym (ap (λ (t : Bool). or_zero t (shows m i x)) (run_none q (page_of_address m.sizes i x)))
all_touched_shows m q (suc k) s o l i x =
    let w = words_at m q in
    let m₁ = (touch_at m q).after in
    let p = page_of_address m.sizes i x in
    let both = or_false (is_outside (page_of m q)) (any_outside m (suc q) k) o in
    let g = grown_touched m s q w in
    let t = touch_maps m s q w both.0 (omega arith) in
    all_touched_shows m₁ (suc q) k (sound_touched m s q w) (any_outside_same m m₁ g (suc q) k ∙ both.1)
    (omega (arith, t.takes, absent_less m m₁ g (suc q) k)) i x
    ∙ ap₂ (λ (r : ℕ) (v : Option ℕ). or_zero (in_run (suc q) k r) v) (ap (λ (y : Sizes). page_of_address y i x) g.sizes_same)
    (touched_shows m s i x q w (touch_accepted m q w both.0 (omega arith)))
    ∙ or_zero_twice (in_run (suc q) k p) (eqb p q) (shows m i x)
    ∙ ap (λ (t : Bool). or_zero t (shows m i x)) (run_more q k p)

-- ---- bytes stored

-- an address that isn't in the span shows what it did
else_shows : (m : State) → Sound m → (i x j y : ℕ) (vs : List ℕ) → Address m.sizes i x → j < m.sizes.spaces
    → y + length vs ≤ space_bytes m.sizes → in_span i x j y (length vs) ≡ false → shows (store_all m j y vs) i x ≡ shows m i x
else_shows m s i x j y vs here in_space fits apart = go (ram_at m i x) refl
  where
    in_span_lem : (k : ℕ) → k < length vs → Same i x j (y + k) → in_span i x j y (length vs) ≡ true
    in_span_lem k l e = rw (eq-eqb i j e.0, le-leb y x (omega (arith, e.1)), lt-ltb x (y + length vs) (omega (arith, e.1)))

    go : (o : Option ℕ) → ram_at m i x ≡ o → shown_at (stored m j y vs m.ram) o ≡ shown_at m.ram o
    go none e = refl
    go (some p) e =
        ap some
        (stored_other (ram_at m j) y vs m.ram p
        (λ k l q.
        let same = same_byte m s i x j (y + k) p here (record { space = in_space; inside = omega arith }) e q in
        false≢true (sym apart ∙ in_span_lem k l same)))

-- the byte of the one address that has it
span_shows : (m : State) → Sound m → (x j y : ℕ) (vs : List ℕ) → j < m.sizes.spaces → y + length vs ≤ space_bytes m.sizes
    → IsMapped m (page_of_address m.sizes j x) → RamFits m → y ≤ x → x < y + length vs
    → shows (store_all m j y vs) j x ≡ some (get_or vs (x - y) 0)
span_shows m s x j y vs in_space fits t room low high =
    let q = t.frame * m.sizes.page + x % m.sizes.page in
    let at-it : ram_at m j x ≡ some q = ram_mapped m j x t.start t.frame t.is in
    let here : (n : ℕ) → n < length vs → Address m.sizes j (y + n) = λ n l. record { space = in_space; inside = omega arith } in
    let back : y + (x - y) ≡ x = omega arith in
    ap (shown_at (stored m j y vs m.ram)) at-it
    ∙ ap some
    (stored_at_lem (ram_at m j) y vs m.ram (x - y) q (omega arith) (omega (arith, ram_below m s j x q at-it)) (ap (ram_at m j) back ∙ at-it)
    (λ n l e.
    let same = same_byte m s j (y + n) j (y + (x - y)) q (here n l) (here (x - y) (omega arith)) e (ap (ram_at m j) back ∙ at-it) in
    omega (arith, same.1)))

-- the page of an address of a span is one of the span's
pub in_pages : (z : Sizes) (j y n x : ℕ) → 0 < z.page → y ≤ x → x < y + n
    → (k : ℕ) × (k < span_pages z y n) × (page_of_address z j y + k ≡ page_of_address z j x)
in_pages z j y zero x pos l h = absurd (omega arith)
in_pages z j y (suc n) x pos l h =
    let a : y / z.page ≤ x / z.page = div_mono pos l in
    let b : x / z.page ≤ (y + n) / z.page = div_mono pos (omega arith) in
    (x / z.page - y / z.page, omega arith, omega arith)

-- so it is mapped once the span is touched
pub address_mapped : (m : State) → Sound m → (j y n x : ℕ) → span_outside m j y n ≡ false
    → count_absent m (page_of_address m.sizes j y) (span_pages m.sizes y n) ≤ length m.pool → y ≤ x → x < y + n
    → IsMapped (span_touched m j y n) (page_of_address (span_touched m j y n).sizes j x)
address_mapped m s j y n x inside few low high =
    let z = m.sizes in
    let p = page_of_address z j y in
    let q = span_pages z y n in
    let k = in_pages z j y n x (some_bytes z (fit z s.sizes_ok_lem)) low high in
    subst (IsMapped (span_touched m j y n)) (k.2 ∙ ap (λ (u : Sizes). page_of_address u j x) (sym (grown_all_touched m p q s).sizes_same))
    (span_mapped m p q s inside few k.0 k.1)

module _ (m : State) (s : Sound m) (i x j y : ℕ) (vs : List ℕ) (here : Address m.sizes i x) (in_space : j < m.sizes.spaces)
    (fits : y + length vs ≤ space_bytes m.sizes)
    (room : in_span i x j y (length vs) ≡ true → RamFits m) where
  abbrev z : Sizes
  z = m.sizes

  abbrev first : ℕ
  first = page_of_address z j y

  abbrev n : ℕ
  n = span_pages z y (length vs)

  abbrev m₁ : State
  m₁ = span_touched m j y (length vs)

  module _ (inside : any_outside m first n ≡ false) (few : count_absent m first n ≤ length m.pool) where
    g : Grown m m₁
    g = grown_all_touched m first n s

    s₁ : Sound m₁
    s₁ = sound_all_touched m first n s

    stored_shows : (t : Bool) → in_span i x j y (length vs) ≡ t
        → shows (store_all m₁ j y vs) i x ≡ cond t (some (get_or vs (x - y) 0)) (or_zero (in_run first n (page_of_address z i x)) (shows m i x))
    stored_shows false t =
        let same = g.sizes_same in
        else_shows m₁ s₁ i x j y vs (subst (λ (u : Sizes). Address u i x) (sym same) here) (rw same in_space) (rw same fits) t
        ∙ all_touched_shows m first n s inside few i x
    stored_shows true t =
        let same = g.sizes_same in
        let c = both (eqb i j) (in_run y (length vs) x) t in
        let d = both (leb y x) (ltb x (y + length vs)) c.1 in
        let low = leb-true y x d.0 in
        let high = ltb-true x (y + length vs) d.1 in
        let on = address_mapped m s j y (length vs) x inside few low high in
        ap (λ (h : ℕ). shows (store_all m₁ j y vs) h x) (eqb-true i j c.0)
        ∙ span_shows m₁ s₁ x j y vs (rw same in_space) (rw same fits) on (grown_fits g (room t)) low high

  pub written_shows : (a b : Bool) → span_outside m j y (length vs) ≡ a → span_short m j y (length vs) ≡ b
      → ShownAfter m s i x (shows_by m i x (span_stored j y vs)) (write_if m j y vs a b)
  written_shows true b ea eb r = absurd (false≢true (sym r))
  written_shows false true ea eb r = absurd (false≢true (sym r))
  written_shows false false ea eb r =
      stored_shows ea (ltb-false (length m.pool) (count_absent m first n) eb) (in_span i x j y (length vs)) refl
