-- A mapped page stays mapped to its frame whatever else is touched; and what touching a span maps.
use Rattle.std.specs.Prelude.{◌≡◌, Bool, true, false, ◌||◌, List, [], ◌∷◌, length, get_or}
use Rattle.std.proofs.Math.Path.{refl}
use Rattle.std.proofs.Common.{sym, ap, ◌∙◌, not-suc-le-zero, add-zero, add-suc, suc-add, get_or-set_same, get_or-set_other}
use Rattle.std.proofs.Math.Option.{Option, none, some}
use Prim.Native.Nat.{ℕ, zero, suc, ◌+◌, ◌*◌, ◌≤◌, ◌<◌}
use Rattle.std.proofs.Math.Decide.{ℕ_discrete}
use native.Mathlib.Omega.{arith}
use Rattle.machine.specs.Machine.{Sizes, State, Pair, region, start_of, words_at, frame_in, Page, outside, unmapped, mapped, page_at, page_in, page_of}
use Rattle.machine.specs.Machine.{with_pair, cleared, touch_new, touch_page, touch_at, touch_all, is_outside, any_outside, is_unmapped}
use Rattle.machine.specs.Machine.{count_absent}
use Rattle.machine.specs.Claims.{Sound, RamFits}
use Rattle.machine.proofs.Laws.Regions.{owner_of}
use Rattle.machine.proofs.Laws.Lookup.{Mapped, Unmapped, is_mapped, is_unmapped_lem, mapped_is, frame_append, frame_appended, frame_one}
use Rattle.machine.proofs.Laws.Kept.{start_held}
use Rattle.machine.proofs.Laws.Steps.{sound_touched}
use Rattle.machine.proofs.Laws.Zeroed.{length_zeroed}

module _ (m : State) (p a f : ℕ) (h : Mapped m p a f) where
  stays_paired : (b q g : ℕ) (rest : List ℕ) → b < length m.held → Mapped (with_pair m b q g rest) p a f
  stays_paired b q g rest l =
      record {
        region_is = h.region_is;
        frame_is = elim (ℕ_discrete a b) [
          | yes e ↦
              ap (frame_in p) (ap (λ (c : ℕ). region (with_pair m b q g rest) c) e ∙ get_or-set_same m.held b _ [] l)
              ∙ frame_append p f (region m b) _ (ap (λ (c : ℕ). frame_in p (region m c)) (sym e) ∙ h.frame_is)
          | no d ↦ ap (frame_in p) (get_or-set_other m.held b a _ [] d) ∙ h.frame_is
        ];
      }

-- ---- touching

-- a region with a page in it has a place in the list of regions
pub held_inside : (m : State) → Sound m → (p a : ℕ) → start_of m p ≡ some a → a < length m.held
held_inside m s p a e = start_held m s a (owner_of m.sizes.pages m.starts p a e).start

-- m' is m with perhaps more pages mapped
pub record Grown (m m' : State) : Type 0 where
  pub sizes_same : m'.sizes ≡ m.sizes
  pub starts_same : m'.starts ≡ m.starts
  pub ram_size : length m'.ram ≡ length m.ram
  pub stays : (p a f : ℕ) → Mapped m p a f → Mapped m' p a f

pub not_grown : (m : State) → Grown m m
not_grown m = record { sizes_same = refl; starts_same = refl; ram_size = refl; stays = λ p a f h. h }

pub grown_more : (m m₁ m₂ : State) → Grown m m₁ → Grown m₁ m₂ → Grown m m₂
grown_more m m₁ m₂ g h =
    record {
      sizes_same = h.sizes_same ∙ g.sizes_same;
      starts_same = h.starts_same ∙ g.starts_same;
      ram_size = h.ram_size ∙ g.ram_size;
      stays = λ p a f k. h.stays p a f (g.stays p a f k);
    }

pub grown_fits : {m m' : State} → Grown m m' → RamFits m → RamFits m'
grown_fits g room = omega (arith, room, g.ram_size, ap (λ (z : Sizes). z.frames * z.page) g.sizes_same)

module _ (m : State) (s : Sound m) where
  grown_paired : (q a f : ℕ) (rest : List ℕ) → page_of m q ≡ unmapped a → Grown m (cleared (with_pair m a q f rest) f)
  grown_paired q a f rest e =
      record {
        sizes_same = refl;
        starts_same = refl;
        ram_size = length_zeroed m.sizes f m.ram;
        stays = λ p b g h.
            let t = stays_paired m p b g h a q f rest (held_inside m s q a (is_unmapped_lem m q a e).region_is) in
            record { region_is = t.region_is; frame_is = t.frame_is };
      }

  pub grown_touched : (q w : ℕ) → Grown m (touch_page m q w (page_of m q)).after
  grown_touched q w = go (page_of m q) refl
    where
      new_one : (a : ℕ) → page_of m q ≡ unmapped a → (pool : List ℕ) → Grown m (touch_new m a q w pool).after
      new_one a e [] = not_grown m
      new_one a e (f ∷ rest) = grown_paired q a f rest e

      go : (x : Page) → page_of m q ≡ x → Grown m (touch_page m q w x).after
      go outside e = not_grown m
      go (unmapped a) e = new_one a e m.pool
      go (mapped a f) e = not_grown m

pub grown_all_touched : (m : State) (q k : ℕ) → Sound m → Grown m (touch_all m q k)
unfolding touch_all
grown_all_touched m q zero s = not_grown m
grown_all_touched m q (suc k) s =
    grown_more m (touch_at m q).after (touch_all (touch_at m q).after (suc q) k) (grown_touched m s q (words_at m q))
    (grown_all_touched (touch_at m q).after (suc q) k (sound_touched m s q (words_at m q)))

-- ---- what a touch maps

pub record IsMapped (m : State) (q : ℕ) : Type 0 where
  pub start : ℕ
  pub frame : ℕ
  pub is : Mapped m q start frame

-- the page just paired is mapped
paired : (m : State) → Sound m → (q a f : ℕ) (rest : List ℕ) → Unmapped m q a → IsMapped (with_pair m a q f rest) q
paired m s q a f rest u =
    record {
      start = a;
      frame = f;
      is =
          record {
            region_is = u.region_is;
            frame_is =
                ap (frame_in q) (get_or-set_same m.held a _ [] (held_inside m s q a u.region_is))
                ∙ frame_appended q (region m a) _ u.none_in
                ∙ frame_one q q f refl;
          };
    }

-- a touch of a page with a region, while there is a frame for it, maps it and takes the frame
pub record Maps (m m' : State) (q : ℕ) : Type 0 where
  pub now : IsMapped m' q
  pub takes : length m'.pool + is_unmapped (page_of m q) ≡ length m.pool

pub touch_maps : (m : State) → Sound m → (q w : ℕ) → is_outside (page_of m q) ≡ false → is_unmapped (page_of m q) ≤ length m.pool
    → Maps m (touch_page m q w (page_of m q)).after q
touch_maps m s q w inside enough = go (page_of m q) refl inside enough
  where
    new_one : (a : ℕ) → page_of m q ≡ unmapped a → 1 ≤ length m.pool → (pool : List ℕ) → m.pool ≡ pool → Maps m (touch_new m a q w pool).after q
    new_one a e l [] r = absurd (omega (arith, ap length r))
    new_one a e l (f ∷ rest) r =
        let t = paired m s q a f rest (is_unmapped_lem m q a e) in
        record {
          now = record { start = t.start; frame = t.frame; is = record { region_is = t.is.region_is; frame_is = t.is.frame_is } };
          takes = omega (arith, ap length r, ap is_unmapped e);
        }

    go : (x : Page) → page_of m q ≡ x → is_outside x ≡ false → is_unmapped x ≤ length m.pool → Maps m (touch_page m q w x).after q
    go outside e i l = absurd (let z : ◌≡◌ {A = ℕ} 0 1 = cc in omega arith)
    go (unmapped a) e i l = new_one a e l m.pool refl
    go (mapped a f) e i l =
        record { now = record { start = a; frame = f; is = is_mapped m q a f e }; takes = omega (arith, ap is_unmapped e) }

-- ---- what grows leaves no page without its region, and none absent that wasn't

abbrev pub no_start : Option ℕ → Bool
no_start none = true
no_start (some a) = false

pub outside_by_start : (held : List (List Pair)) (q : ℕ) (o : Option ℕ) → is_outside (page_at held q o) ≡ no_start o
outside_by_start held q none = refl
outside_by_start held q (some a) = go (frame_in q (get_or held a []))
  where
    go : (r : Option ℕ) → is_outside (page_in a r) ≡ false
    go none = refl
    go (some f) = refl

unmapped_few : (x : Page) → is_unmapped x ≤ 1
unmapped_few outside = omega arith
unmapped_few (unmapped a) = omega arith
unmapped_few (mapped a f) = omega arith

outside_not_unmapped : (x : Page) → is_outside x ≡ true → is_unmapped x ≡ 0
outside_not_unmapped outside e = refl
outside_not_unmapped (unmapped a) e = absurd (let z : ◌≡◌ {A = ℕ} 0 1 = cc in omega arith)
outside_not_unmapped (mapped a f) e = refl

module _ (m m' : State) (g : Grown m m') where
  start_same : (q : ℕ) → start_of m' q ≡ start_of m q
  start_same q = rw (g.sizes_same, g.starts_same)

  outside_same : (q : ℕ) → is_outside (page_of m' q) ≡ is_outside (page_of m q)
  outside_same q = outside_by_start m'.held q (start_of m' q) ∙ ap no_start (start_same q) ∙ sym (outside_by_start m.held q (start_of m q))

  unmapped_less : (q : ℕ) → is_unmapped (page_of m' q) ≤ is_unmapped (page_of m q)
  unmapped_less q = go (page_of m q) refl
    where
      go : (x : Page) → page_of m q ≡ x → is_unmapped (page_of m' q) ≤ is_unmapped x
      go outside e = omega (arith, outside_not_unmapped (page_of m' q) (outside_same q ∙ ap is_outside e))
      go (unmapped a) e = unmapped_few (page_of m' q)
      go (mapped a f) e = omega (arith, ap is_unmapped (mapped_is m' q a f (g.stays q a f (is_mapped m q a f e))))

  pub any_outside_same : (q k : ℕ) → any_outside m' q k ≡ any_outside m q k
  unfolding any_outside
  any_outside_same q zero = refl
  any_outside_same q (suc k) = rw (outside_same q, any_outside_same (suc q) k)

  pub absent_less : (q k : ℕ) → count_absent m' q k ≤ count_absent m q k
  unfolding count_absent
  absent_less q zero = omega arith
  absent_less q (suc k) = omega (arith, unmapped_less q, absent_less (suc q) k)

-- ---- touching a span maps all of it

pub or_false : (a b : Bool) → a || b ≡ false → (a ≡ false) × (b ≡ false)
or_false true b e = absurd (let z : ◌≡◌ {A = ℕ} 0 1 = cc in omega arith)
or_false false b e = (refl, e)

pub span_mapped : (m : State) (q k : ℕ) → Sound m → any_outside m q k ≡ false → count_absent m q k ≤ length m.pool → (j : ℕ) → j < k
    → IsMapped (touch_all m q k) (q + j)
unfolding touch_all any_outside count_absent
span_mapped m q zero s i l j h = absurd (not-suc-le-zero h)
span_mapped m q (suc k) s i l j h =
    let o = or_false (is_outside (page_of m q)) (any_outside m (suc q) k) i in
    let w = words_at m q in
    let m₁ = (touch_at m q).after in
    let g = grown_touched m s q w in
    let s₁ = sound_touched m s q w in
    let t = touch_maps m s q w o.0 (omega arith) in
    let rest = span_mapped m₁ (suc q) k s₁ (any_outside_same m m₁ g (suc q) k ∙ o.1) (omega (arith, t.takes, absent_less m m₁ g (suc q) k)) in
    here_or_later m₁ k s₁ t.now rest j h
  where
    here_or_later : (m₁ : State) (k : ℕ) → Sound m₁ → IsMapped m₁ q → ((j : ℕ) → j < k → IsMapped (touch_all m₁ (suc q) k) (suc q + j)) → (j : ℕ) → j < suc k
        → IsMapped (touch_all m₁ (suc q) k) (q + j)
    here_or_later m₁ k s₁ t rest zero h =
        rw add-zero (record { start = t.start; frame = t.frame; is = (grown_all_touched m₁ (suc q) k s₁).stays q t.start t.frame t.is })
    here_or_later m₁ k s₁ t rest (suc j) h = rw (add-suc, ← suc-add) (rest j (omega arith))
