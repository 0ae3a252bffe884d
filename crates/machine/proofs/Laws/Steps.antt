-- Each call leaves a sound state sound.
use Rattle.std.specs.Prelude.{◌≡◌, refl, Bool, true, false, List, [], ◌∷◌, ℕ, zero, suc, ◌<◌, ltb, length}
use Rattle.std.proofs.Common.{ap, ◌∙◌, arith, ltb-true}
use Rattle.std.proofs.Math.Option.{Option, none, some}
use Rattle.machine.specs.Machine.{Sizes, places, place_of, span_pages, State, Pair, is_start, region, start_of, Page, outside, unmapped, mapped, page_of}
use Rattle.machine.specs.Machine.{first_refusal, words_at, Out, unless_resident, mark_at, drop_at, touch_new, touch_page, touch_at, release_at, touch_all, write_if}
use Rattle.machine.specs.Machine.{span_touched, with_pair}
use Rattle.machine.specs.Claims.{Sound}
use Rattle.machine.proofs.Laws.Sizes.{passed, place_below}
use Rattle.machine.proofs.Laws.Lookup.{is_unmapped_lem}
use Rattle.machine.proofs.Laws.Kept.{sound_marked, sound_dropped, sound_paired, sound_emptied, sound_stored}

module _ (m : State) (s : Sound m) where
  abbrev Keeps : Out → Type 0
  Keeps o = Sound o.after

  pub sound_marked_or_not : (p : ℕ) → p < places m.sizes → (o : Option ℕ) → start_of m p ≡ o → (b : Bool) → Keeps (mark_at m p o b)
  sound_marked_or_not p h o e true = s
  sound_marked_or_not p h none e false = sound_marked m s p h (λ a q. absurd (let z : ◌≡◌ {A = ℕ} 0 1 = cc in omega arith))
  sound_marked_or_not p h (some a) e false = go (region m a) refl
    where
      go : (xs : List Pair) → region m a ≡ xs → Keeps (unless_resident m p true xs)
      go [] r = sound_marked m s p h (λ b q. let same : b ≡ a = cc in ap (region m) same ∙ r)
      go (x ∷ xs) r = s

  pub sound_dropped_or_not : (p : ℕ) → p < places m.sizes → (b : Bool) → Keeps (drop_at m p b)
  sound_dropped_or_not p h false = s
  sound_dropped_or_not p h true = go (region m p) refl
    where
      go : (xs : List Pair) → region m p ≡ xs → Keeps (unless_resident m p false xs)
      go [] r = sound_dropped m s p h r
      go (x ∷ xs) r = s

  pub sound_touched : (p w : ℕ) → Keeps (touch_page m p w (page_of m p))
  sound_touched p w = go (page_of m p) refl
    where
      new_one : (a : ℕ) → page_of m p ≡ unmapped a → (pool : List ℕ) → m.pool ≡ pool → Keeps (touch_new m a p w pool)
      new_one a e [] r = s
      new_one a e (f ∷ rest) r = sound_stored (with_pair m a p f rest) (sound_paired m s p a f rest (is_unmapped_lem m p a e) r) _

      go : (x : Page) → page_of m p ≡ x → Keeps (touch_page m p w x)
      go outside e = s
      go (unmapped a) e = new_one a e m.pool refl
      go (mapped a f) e = s

  pub sound_released_or_not : (a : ℕ) (b : Bool) → is_start m a ≡ b → Keeps (release_at m a b)
  sound_released_or_not a false e = s
  sound_released_or_not a true e = sound_emptied m s a e

pub sound_all_touched : (m : State) (p k : ℕ) → Sound m → Sound (touch_all m p k)
unfolding touch_all
sound_all_touched m p zero s = s
sound_all_touched m p (suc k) s = sound_all_touched (touch_at m p).after (suc p) k (sound_touched m s p (words_at m p))

pub sound_written : (m : State) → Sound m → (i x : ℕ) (vs : List ℕ) (a b : Bool) → Sound (write_if m i x vs a b).after
sound_written m s i x vs true b = s
sound_written m s i x vs false true = s
sound_written m s i x vs false false = sound_stored (span_touched m i x (length vs)) (sound_all_touched m _ (span_pages m.sizes x (length vs)) s) _

-- no touch changes the sizes
pub touch_sizes : (m : State) (p w : ℕ) (x : Page) → (touch_page m p w x).after.sizes ≡ m.sizes
touch_sizes m p w outside = refl
touch_sizes m p w (unmapped a) = go m.pool
  where
    go : (pool : List ℕ) → (touch_new m a p w pool).after.sizes ≡ m.sizes
    go [] = refl
    go (f ∷ rest) = refl
touch_sizes m p w (mapped a f) = refl

all_touched_sizes : (m : State) (p k : ℕ) → (touch_all m p k).sizes ≡ m.sizes
unfolding touch_all
all_touched_sizes m p zero = refl
all_touched_sizes m p (suc k) = all_touched_sizes (touch_at m p).after (suc p) k ∙ touch_sizes m p (words_at m p) (page_of m p)

pub write_sizes : (m : State) (i x : ℕ) (vs : List ℕ) (a b : Bool) → (write_if m i x vs a b).after.sizes ≡ m.sizes
write_sizes m i x vs true b = refl
write_sizes m i x vs false true = refl
write_sizes m i x vs false false = all_touched_sizes m _ (span_pages m.sizes x (length vs))

-- a page that passed the checks has a place
pub page_place : (z : Sizes) (i b : ℕ) (one : Bool) → first_refusal one (ltb i z.spaces) (ltb b z.pages) ≡ 0 → place_of z i b < places z
page_place z i b one e =
    let h = passed one (ltb i z.spaces) (ltb b z.pages) e in
    place_below z i b (ltb-true _ _ h.second) (ltb-true _ _ h.third)
