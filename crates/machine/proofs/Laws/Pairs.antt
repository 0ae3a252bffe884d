-- Which page holds which frame, told by the pairs alone: in a sound state a page is mapped to a frame exactly if the pair stands in some list.
use Rattle.std.specs.Prelude.{◌≡◌, refl, ◌≢◌, List, [], ◌∷◌, ◌++◌, ℕ, ◌+◌, ◌*◌, ◌%◌, ◌<◌, length, get_or}
use Rattle.std.proofs.Common.{sym, ap, ◌∙◌, subst, arith, length-append, get_or-set_same, get_or-set_other}
use Rattle.std.proofs.Math.Option.{Option, none, some}
use Rattle.std.proofs.Math.Decide.{ℕ_discrete}
use Rattle.std.proofs.Math.ListN.{get_or-append}
use Rattle.std.proofs.Math.Seq.{get_or-append_seam}
use Rattle.sequence.specs.Sums.{sum, hit, hit_same}
use Rattle.machine.specs.Machine.{Sizes, State, Pair, region, start_of, frame_in, page_of_address, Page, outside, unmapped, mapped, page_of, ram_in}
use Rattle.machine.specs.Machine.{with_pair, emptied}
use Rattle.machine.specs.Claims.{Sound, no_pair, shown_at, shows}
use Rattle.machine.proofs.Laws.Lookup.{Entry, frame_in_lem, not_in, Mapped, is_mapped, mapped_is}
use Rattle.machine.proofs.Laws.Holders.{ram_mapped, at_most_once, entry_held, same_entry}

-- the pair of place p and frame f stands in the list of the region at start
pub record Holder (m : State) (p f : ℕ) : Type 0 where
  pub start : ℕ
  pub entry : Entry p f (region m start)

pub mapped_holder : (m : State) (p a f : ℕ) → Mapped m p a f → Holder m p f
mapped_holder m p a f h = record { start = a; entry = frame_in_lem p f (region m a) h.frame_is }

module _ (m : State) (s : Sound m) where
  pub holder_mapped : (p f : ℕ) → (h : Holder m p f) → Mapped m p h.start f
  holder_mapped p f h = go (frame_in p (region m h.start)) refl
    where
      go : (o : Option ℕ) → frame_in p (region m h.start) ≡ o → Mapped m p h.start f
      go none e = absurd (not_in p (region m h.start) e h.entry.at h.entry.inside (ap (λ (r : Pair). r.place) h.entry.is))
      go (some g) e =
          record {
            region_is = ap (start_of m) (sym (ap (λ (r : Pair). r.place) h.entry.is)) ∙ s.own h.start h.entry.at h.entry.inside;
            frame_is =
                e
                ∙ ap (λ (r : Pair). some r.frame)
                (same_entry m s (λ r. r.place) p h.start (s.once p) (frame_in_lem p g (region m h.start) e) h.entry refl refl);
          }

  -- a frame of the pool isn't held
  pub not_held : (f : ℕ) (rest : List ℕ) → m.pool ≡ f ∷ rest → (p g : ℕ) → Holder m p g → g ≢ f
  not_held f rest is p g h e =
      let held = entry_held m s h.start p f (subst (λ (c : ℕ). Entry p c (region m h.start)) e h.entry) in
      omega (arith, at_most_once m s f, ap (sum (hit f)) is, hit_same f f refl, held)

-- ---- what an address shows, by who holds which frame

-- the page of the address holds this frame
pub shows_held : (m : State) → Sound m → (i x f : ℕ) → Holder m (page_of_address m.sizes i x) f
    → shows m i x ≡ some (get_or m.ram (f * m.sizes.page + x % m.sizes.page) 0)
shows_held m s i x f h = ap (shown_at m.ram) (ram_mapped m i x h.start f (holder_mapped m s _ f h))

-- or none
pub shows_none : (m : State) (i x : ℕ) → ((f : ℕ) → Holder m (page_of_address m.sizes i x) f → ⊥) → shows m i x ≡ none
shows_none m i x nobody = go (page_of m (page_of_address m.sizes i x)) refl
  where
    go : (g : Page) → page_of m (page_of_address m.sizes i x) ≡ g → shown_at m.ram (ram_in m.sizes x g) ≡ none
    go outside e = refl
    go (unmapped a) e = refl
    go (mapped a f) e = absurd (nobody f (mapped_holder m _ a f (is_mapped m _ a f e)))

-- the same pair, and the same byte in its frame: the same is shown
module _ (m m' : State) (s : Sound m) (s' : Sound m') (i x : ℕ) (z : m'.sizes ≡ m.sizes) where
  abbrev p : ℕ
  p = page_of_address m.sizes i x

  abbrev byte_of : List ℕ → ℕ → ℕ
  byte_of ram f = get_or ram (f * m.sizes.page + x % m.sizes.page) 0

  pub shows_same : ((f : ℕ) → Holder m p f → Holder m' p f × (byte_of m'.ram f ≡ byte_of m.ram f)) → ((f : ℕ) → Holder m' p f → Holder m p f)
      → shows m' i x ≡ shows m i x
  shows_same to from = go (page_of m p) refl
    where
      back : (f : ℕ) → Holder m' (page_of_address m'.sizes i x) f → Holder m' p f
      back f = subst (λ (y : Sizes). Holder m' (page_of_address y i x) f) z

      nobody : {g : Page} → page_of m p ≡ g → ((a f : ℕ) → g ≡ mapped a f → ⊥) → shows m' i x ≡ shows m i x
      nobody e hidden =
          let none-holds : (f : ℕ) → Holder m p f → ⊥ = λ f h. hidden h.start f (sym e ∙ mapped_is m p h.start f (holder_mapped m s p f h)) in
          shows_none m' i x (λ f h. none-holds f (from f (back f h))) ∙ sym (shows_none m i x none-holds)

      go : (g : Page) → page_of m p ≡ g → shows m' i x ≡ shows m i x
      go outside e = nobody e (λ a f q. absurd (let w : ◌≡◌ {A = ℕ} 0 1 = cc in omega arith))
      go (unmapped b) e = nobody e (λ a f q. absurd (let w : ◌≡◌ {A = ℕ} 0 1 = cc in omega arith))
      go (mapped a f) e =
          let h = mapped_holder m p a f (is_mapped m p a f e) in
          shows_held m' s' i x f (subst (λ (y : Sizes). Holder m' (page_of_address y i x) f) (sym z) (to f h).0)
          ∙ ap (λ (y : Sizes). some (get_or m'.ram (f * y.page + x % y.page) 0)) z
          ∙ ap some (to f h).1
          ∙ sym (shows_held m s i x f h)

-- ---- the pairs after a touch, and after a release

module _ (m : State) (p a f : ℕ) (rest : List ℕ) (inside : a < length m.held) where
  abbrev pair : Pair
  pair = record { place = p; frame = f }

  abbrev paired : State
  paired = with_pair m a p f rest

  here : region paired a ≡ region m a ++ (pair ∷ [])
  here = get_or-set_same m.held a _ [] inside

  pub new_holder : Holder (with_pair m a p f rest) p f
  new_holder =
      record {
        start = a;
        entry =
            rw here
            (record {
              at = length (region m a);
              inside = omega (arith, length-append (region m a) (pair ∷ []));
              is = get_or-append_seam (region m a) pair [] no_pair;
            });
      }

  pub old_holder : (q g : ℕ) → Holder m q g → Holder (with_pair m a p f rest) q g
  old_holder q g h = elim (ℕ_discrete h.start a) [
    | yes e ↦
        let x : Entry q g (region m a) = subst (λ (c : ℕ). Entry q g (region m c)) e h.entry in
        record {
          start = a;
          entry =
              rw here
              (record {
                at = x.at;
                inside = omega (arith, x.inside, length-append (region m a) (pair ∷ []));
                is = get_or-append (region m a) (pair ∷ []) no_pair x.at x.inside ∙ x.is;
              });
        }
    | no d ↦ record { start = h.start; entry = rw (get_or-set_other m.held a h.start (region m a ++ (pair ∷ [])) [] d) h.entry }
  ]

  pub was_holder : (q g : ℕ) → q ≢ p → Holder (with_pair m a p f rest) q g → Holder m q g
  was_holder q g d h = elim (ℕ_discrete h.start a) [
    | yes e ↦ in_list (subst (λ (xs : List Pair). Entry q g xs) (ap (region paired) e ∙ here) h.entry)
    | no n ↦ record { start = h.start; entry = rw (get_or-set_other m.held a h.start (region m a ++ (pair ∷ [])) [] n) at h.entry }
  ]
    where
      in_list : Entry q g (region m a ++ (pair ∷ [])) → Holder m q g
      in_list x = elim (ℕ_discrete x.at (length (region m a))) [
        | yes k ↦
            absurd
            (d (ap (λ (r : Pair). r.place)
            (sym x.is ∙ ap (λ (j : ℕ). get_or (region m a ++ (pair ∷ [])) j no_pair) k ∙ get_or-append_seam (region m a) pair [] no_pair)))
        | no k ↦
            let l : x.at < length (region m a) = omega (arith, x.inside, length-append (region m a) (pair ∷ [])) in
            record {
              start = a;
              entry = record { at = x.at; inside = l; is = sym (get_or-append (region m a) (pair ∷ []) no_pair x.at l) ∙ x.is };
            }
      ]

module _ (m : State) (a : ℕ) (inside : a < length m.held) where
  pub kept_holder : (p f : ℕ) → (h : Holder m p f) → h.start ≢ a → Holder (emptied m a) p f
  kept_holder p f h d = record { start = h.start; entry = rw (get_or-set_other m.held a h.start [] [] d) h.entry }

  pub left_holder : (p f : ℕ) → Holder (emptied m a) p f → (h : Holder m p f) × (h.start ≢ a)
  left_holder p f h = elim (ℕ_discrete h.start a) [
    | yes e ↦
        absurd
        (let x : Entry p f [] = subst (λ (xs : List Pair). Entry p f xs) (ap (region (emptied m a)) e ∙ get_or-set_same m.held a [] [] inside) h.entry in
        omega (arith, x.inside))
    | no d ↦ (record { start = h.start; entry = rw (get_or-set_other m.held a h.start [] [] d) at h.entry }, d)
  ]
