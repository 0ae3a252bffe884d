-- Each call, where it refuses, changes nothing, and else only what document 01 allows it to.
use Rattle.std.specs.Prelude.{◌≡◌, refl, Bool, true, false, List, [], ◌∷◌, ◌++◌, ℕ, zero, suc, ◌+◌, ◌/◌, length}
use Rattle.std.proofs.Common.{sym, ap, ◌∙◌, subst, append_assoc, arith, length-append, get_or-set_other}
use Rattle.std.proofs.lemmas.Bool.{false≢true}
use Rattle.std.proofs.Math.Option.{Option, none, some}
use Rattle.sequence.specs.Sums.{sum_append, hit, hit_same}
use Rattle.machine.specs.Machine.{Sizes, place_of, page_of_address, span_pages, State, Pair, region, Page, outside, unmapped, mapped, page_of, ram_at}
use Rattle.machine.specs.Machine.{words_at, Out, Effect, unchanged, prepared, refilled, start_put, page_mapped, region_emptied, span_stored, with_start}
use Rattle.machine.specs.Machine.{unless_resident, page_given_back, give_back_page}
use Rattle.machine.specs.Machine.{mark_at, drop_at, with_pair, cleared, touch_new, touch_page, touch_at, touch_all, release_at, span_touched, write_if}
use Rattle.machine.specs.Claims.{Sound, times_in, is_refused, OneStart, OneRegion, FramesTaken, Span, MayChangeBy}
use Rattle.machine.proofs.Laws.Sizes.{fit, some_bytes}
use Rattle.machine.proofs.Laws.Steps.{sound_touched}
use Rattle.machine.proofs.Laws.Zeroed.{length_zeroed, zeroed_else}
use Rattle.machine.proofs.Laws.Stays.{grown_touched, grown_all_touched}
use Rattle.machine.proofs.Laws.Storing.{stored_other, length_stored}

-- ---- refusals

-- what keeps the state wherever it refuses
abbrev pub KeptIfRefused : State → Out → Type 0
KeptIfRefused m o = is_refused o.answer ≡ true → o.after ≡ m

module _ (m : State) where
  resident_kept : (p : ℕ) (v : Bool) (xs : List Pair) → KeptIfRefused m (unless_resident m p v xs)
  resident_kept p v [] e = absurd (false≢true e)
  resident_kept p v (x ∷ xs) e = refl

  pub mark_kept : (p : ℕ) (o : Option ℕ) (b : Bool) → KeptIfRefused m (mark_at m p o b)
  mark_kept p o true e = refl
  mark_kept p none false e = absurd (false≢true e)
  mark_kept p (some a) false e = resident_kept p true (region m a) e

  pub drop_kept : (p : ℕ) (b : Bool) → KeptIfRefused m (drop_at m p b)
  drop_kept p false e = refl
  drop_kept p true e = resident_kept p false (region m p) e

  pub touch_kept : (p n : ℕ) (x : Page) → KeptIfRefused m (touch_page m p n x)
  touch_kept p n outside e = refl
  touch_kept p n (mapped a f) e = refl
  touch_kept p n (unmapped a) e = go m.pool e
    where
      go : (pool : List ℕ) → KeptIfRefused m (touch_new m a p n pool)
      go [] e = refl
      go (f ∷ rest) e = absurd (false≢true e)

  pub release_kept : (a : ℕ) (b : Bool) → KeptIfRefused m (release_at m a b)
  release_kept a false e = refl
  release_kept a true e = absurd (false≢true e)

  pub give_kept : (p : ℕ) (x : Page) → KeptIfRefused m (give_back_page m p x)
  give_kept p outside e = refl
  give_kept p (unmapped a) e = refl
  give_kept p (mapped a f) e = absurd (false≢true e)

  pub write_kept : (i x : ℕ) (vs : List ℕ) (a b : Bool) → KeptIfRefused m (write_if m i x vs a b)
  write_kept i x vs true b e = refl
  write_kept i x vs false true e = refl
  write_kept i x vs false false e = absurd (false≢true e)

-- ---- what a call may change

module _ (m : State) where
  same_start : (p : ℕ) → OneStart p m m
  same_start p = record { sizes = refl; starts = λ q d. refl; held = refl; pool = refl; ram = refl }

  one_start : (p : ℕ) (v : Bool) → OneStart p m (with_start m p v)
  one_start p v = record { sizes = refl; starts = λ q d. get_or-set_other m.starts p q v false d; held = refl; pool = refl; ram = refl }

  unless_start : (p : ℕ) (v : Bool) (xs : List Pair) → OneStart p m (unless_resident m p v xs).after
  unless_start p v [] = one_start p v
  unless_start p v (x ∷ xs) = same_start p

  pub mark_start : (p : ℕ) (o : Option ℕ) (b : Bool) → OneStart p m (mark_at m p o b).after
  mark_start p o true = same_start p
  mark_start p none false = one_start p true
  mark_start p (some a) false = unless_start p true (region m a)

  pub drop_start : (p : ℕ) (b : Bool) → OneStart p m (drop_at m p b).after
  drop_start p false = same_start p
  drop_start p true = unless_start p false (region m p)

  same_regions : OneRegion m m
  same_regions = record { sizes = refl; starts = refl; start = 0; held = λ a d. refl }

  none_taken : (most : ℕ) (Place : ℕ → Type 0) → FramesTaken most Place m m
  none_taken most Place = record { frames = []; few = omega arith; pool = refl; ram_size = refl; ram = λ p d n. refl }

  pub release_region : (a : ℕ) (b : Bool) → OneRegion m (release_at m a b).after × ((release_at m a b).after.ram ≡ m.ram)
  release_region a false = (same_regions, refl)
  release_region a true = (record { sizes = refl; starts = refl; start = a; held = λ b d. get_or-set_other m.held a b [] [] d }, refl)

  pub give_region : (p : ℕ) (x : Page) → OneRegion m (give_back_page m p x).after × ((give_back_page m p x).after.ram ≡ m.ram)
  give_region p outside = (same_regions, refl)
  give_region p (unmapped a) = (same_regions, refl)
  give_region p (mapped a f) = (record { sizes = refl; starts = refl; start = a; held = λ b d. get_or-set_other m.held a b _ [] d }, refl)

  module _ (s : Sound m) where
    -- the pool's first frame is taken, and its bytes cleared
    one_taken : (a p f : ℕ) (rest : List ℕ) → m.pool ≡ f ∷ rest → FramesTaken 1 (λ q. ⊥) m (cleared (with_pair m a p f rest) f)
    one_taken a p f rest is =
        record {
          frames = f ∷ [];
          few = omega arith;
          pool = is;
          ram_size = length_zeroed m.sizes f m.ram;
          ram = λ q d n.
              zeroed_else m.sizes f m.ram q (some_bytes m.sizes (fit m.sizes s.sizes_ok_lem))
              (λ e. absurd (omega (arith, hit_same (q / m.sizes.page) f (sym e))));
        }

    pub touch_region : (p n : ℕ) (x : Page) → OneRegion m (touch_page m p n x).after × FramesTaken 1 (λ q. ⊥) m (touch_page m p n x).after
    touch_region p n outside = (same_regions, none_taken 1 _)
    touch_region p n (mapped a f) = (same_regions, none_taken 1 _)
    touch_region p n (unmapped a) = go m.pool refl
      where
        go : (pool : List ℕ) → m.pool ≡ pool → OneRegion m (touch_new m a p n pool).after × FramesTaken 1 (λ q. ⊥) m (touch_new m a p n pool).after
        go [] is = (same_regions, none_taken 1 _)
        go (f ∷ rest) is = (
          record { sizes = refl; starts = refl; start = a; held = λ b d. get_or-set_other m.held a b _ [] d },
          one_taken a p f rest is,
        )

-- frames taken, then others
taken_more : {a b : ℕ} {Place : ℕ → Type 0} (m m₁ m₂ : State) → m₁.sizes ≡ m.sizes → FramesTaken a (λ q. ⊥) m m₁ → FramesTaken b Place m₁ m₂
    → FramesTaken (a + b) Place m m₂
taken_more m m₁ m₂ z t u =
    record {
      frames = t.frames ++ u.frames;
      few = omega (arith, t.few, u.few, length-append t.frames u.frames);
      pool = t.pool ∙ ap (λ (fs : List ℕ). t.frames ++ fs) u.pool ∙ sym (append_assoc t.frames u.frames m₂.pool);
      ram_size = u.ram_size ∙ t.ram_size;
      ram = λ p d n.
          let f = p / m.sizes.page in
          let both = sum_append (hit f) t.frames u.frames in
          u.ram p (ap (λ (y : Sizes). times_in (p / y.page) u.frames) z ∙ (let w : times_in f u.frames ≡ 0 = omega (arith, both) in w)) n
          ∙ t.ram p (omega (arith, both)) (λ e. e);
    }

all_taken : (m : State) (q k : ℕ) → Sound m → FramesTaken k (λ p. ⊥) m (touch_all m q k)
unfolding touch_all
all_taken m q zero s = none_taken m 0 _
all_taken m q (suc k) s =
    let m₁ = (touch_at m q).after in
    subst (λ (n : ℕ). FramesTaken n (λ p. ⊥) m (touch_all m₁ (suc q) k)) (let e : 1 + k ≡ suc k = omega arith in e)
    (taken_more m m₁ (touch_all m₁ (suc q) k) (grown_touched m s q (words_at m q)).sizes_same (touch_region m s q (words_at m q) (page_of m q)).1
    (all_taken m₁ (suc q) k (sound_touched m s q (words_at m q))))

module _ (m : State) where
  same_span : (i x n : ℕ) → Span i x n m m
  same_span i x n = record { sizes = refl; starts = refl; taken = none_taken m _ _ }

  pub write_span : Sound m → (i x : ℕ) (vs : List ℕ) (a b : Bool) → Span i x (length vs) m (write_if m i x vs a b).after
  write_span s i x vs true b = same_span i x (length vs)
  write_span s i x vs false true = same_span i x (length vs)
  write_span s i x vs false false =
      let p = page_of_address m.sizes i x in
      let k = span_pages m.sizes x (length vs) in
      let m₁ = span_touched m i x (length vs) in
      let g = grown_all_touched m p k s in
      let t = all_taken m p k s in
      record {
        sizes = g.sizes_same;
        starts = g.starts_same;
        taken =
            record {
              frames = t.frames;
              few = t.few;
              pool = t.pool;
              ram_size = length_stored (ram_at m₁ i) x vs m₁.ram ∙ t.ram_size;
              ram = λ q d n. stored_other (ram_at m₁ i) x vs m₁.ram q (λ j l e. n (j, l, e)) ∙ t.ram q d (λ e. e);
            };
      }

-- a call that changes nothing stays within what it may change
pub may_stay : (m : State) (c : Effect) → MayChangeBy m c m
may_stay m unchanged = refl
may_stay m (prepared z) = refl
may_stay m (refilled z) = refl
may_stay m (start_put i b) = same_start m (place_of m.sizes i b)
may_stay m (page_mapped i b) = (same_regions m, none_taken m 1 _)
may_stay m (region_emptied i b) = (same_regions m, refl)
may_stay m (page_given_back i b) = (same_regions m, refl)
may_stay m (span_stored i x vs) = same_span m i x (length vs)
