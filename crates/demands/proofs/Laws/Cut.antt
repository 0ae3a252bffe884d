-- A machine whose RAM is cut to a front part of at least F x P bytes does the same, and the rest put back makes it the machine again.
use Rattle.std.specs.Prelude.{◌≡◌, Bool, true, false, length, take, drop}
use Rattle.std.proofs.Math.Path.{refl, sym, ap, fun_ext}
use Rattle.std.proofs.Common.{ap₂, ◌∙◌, arith, length-set, take-append-drop, length-take-le, get_or-take}
use Rattle.std.proofs.Math.Option.{Option, none, some}
use mathlib.Core.List.{List, [], ◌∷◌, ◌++◌, append-nil}
use Prim.Native.Nat.{ℕ, zero, suc, ◌+◌, ◌*◌, ◌≤◌, ◌<◌}
use Rattle.std.proofs.Math.Seq.{take-length, drop-length}
use Rattle.std.proofs.lemmas.List.{set-append_left}
use Rattle.sequence.specs.Lists.{tabulate}
use Rattle.sequence.specs.Sums.{hit_same}
use Rattle.machine.specs.declared.PageCall.TheVariants.{Touch}
use Rattle.machine.specs.Machine.{State, Lent, Page, outside, unmapped, mapped, place_of, page_of, words_at, page_of_address, span_pages, ram_at, Call, page}
use Rattle.machine.specs.Machine.{read, write, asked, Answer, bytes, Out, tell, with_pair, touch_new, touch_page, touch_at, touch_all, span_absence}
use Rattle.machine.specs.Machine.{byte_in, byte_at, read_if, stored_in, stored_at, stored, with_ram, store_all, span_outside, span_short, write_if, refusal}
use Rattle.machine.specs.Machine.{accepted, unless, step, answer, after}
use Rattle.machine.specs.Claims.{Sound, RamFits}
use Rattle.machine.proofs.Laws.Kept.{sound_stored}
use Rattle.machine.proofs.Laws.Steps.{sound_touched, sound_all_touched}
use Rattle.machine.proofs.Laws.Stays.{grown_fits, grown_touched, grown_all_touched}
use Rattle.machine.proofs.Laws.Holders.{ram_below}
use Rattle.machine.proofs.Laws.Unseen.{absence_any, outside_any, absent_any}
use Rattle.machine.proofs.Laws.Zeroed.{zeroed_front}
use Rattle.pool.specs.Pool.{free_below}

-- the machine with its RAM cut after n bytes, and with bytes put behind its RAM
abbrev pub cut : ℕ → State → State
cut n m = with_ram m (take n m.ram)

abbrev pub mended : State → List ℕ → State
mended m rest = with_ram m (m.ram ++ rest)

-- what the cut machine did, and what the machine did
pub record SameOut (n : ℕ) (m : State) (o o' : Out) : Type 0 where
  pub answers : o.answer ≡ o'.answer
  pub mends : mended o.after (drop n m.ram) ≡ o'.after

abbrev pub SameCut : ℕ → State → Call → Type 0
SameCut n m c = SameOut n m (step (cut n m) c) (step m c)

-- nothing cut
pub same_whole : (n : ℕ) (m : State) (c : Call) → n ≡ length m.ram → SameCut n m c
same_whole n m c e =
    let whole : cut n m ≡ m = ap (with_ram m) (ap (λ (i : ℕ). take i m.ram) e ∙ take-length m.ram) in
    let rest : drop n m.ram ≡ [] = ap (λ (i : ℕ). drop i m.ram) e ∙ drop-length m.ram in
    record {
      answers = ap (λ (x : State). answer x c) whole;
      mends = ap₂ (λ (x : State) (r : List ℕ). mended (after x c) r) whole rest ∙ ap (with_ram (after m c)) (append-nil (after m c).ram);
    }

-- ---- what looks at the RAM

module _ (m : State) (s : Sound m) where
  byte_front : (n : ℕ) → m.sizes.frames * m.sizes.page ≤ n → (i x : ℕ) → byte_at (cut n m) i x ≡ byte_at m i x
  byte_front n h i x = go (ram_at m i x) refl
    where
      go : (o : Option ℕ) → ram_at m i x ≡ o → byte_in (take n m.ram) o ≡ byte_in m.ram o
      go none e = refl
      go (some p) e = get_or-take n m.ram p 0 (omega (arith, ram_below m s i x p e))

  store_front : (i x v : ℕ) (part rest : List ℕ) → m.sizes.frames * m.sizes.page ≤ length part
      → (stored_in (part ++ rest) (ram_at m i x) v ≡ stored_in part (ram_at m i x) v ++ rest) × (length (stored_in part (ram_at m i x) v) ≡ length part)
  store_front i x v part rest h = go (ram_at m i x) refl
    where
      go : (o : Option ℕ) → ram_at m i x ≡ o → (stored_in (part ++ rest) o v ≡ stored_in part o v ++ rest) × (length (stored_in part o v) ≡ length part)
      go none e = (refl, refl)
      go (some p) e = (set-append_left part rest p v (omega (arith, ram_below m s i x p e)), length-set part p v)

  stored_front : (i x : ℕ) (vs part rest : List ℕ) → m.sizes.frames * m.sizes.page ≤ length part
      → stored m i x vs (part ++ rest) ≡ stored m i x vs part ++ rest
  unfolding stored_at
  stored_front i x [] part rest h = refl
  stored_front i x (v ∷ vs) part rest h =
      let f = store_front i x v part rest h in
      ap (stored m i (suc x) vs) f.0 ∙ stored_front i (suc x) vs (stored_in part (ram_at m i x) v) rest (omega (arith, f.1))

-- ---- touches, with bytes put behind the RAM

module _ (rest : List ℕ) where
  touch_mended : (m : State) → Sound m → RamFits m → (p w : ℕ) (g : Page)
      → (touch_page (mended m rest) p w g).after ≡ mended (touch_page m p w g).after rest
  touch_mended m s room p w outside = refl
  touch_mended m s room p w (mapped a f) = refl
  touch_mended m s room p w (unmapped a) = go m.pool refl
    where
      go : (pool : List ℕ) → m.pool ≡ pool → (touch_new (mended m rest) a p w pool).after ≡ mended (touch_new m a p w pool).after rest
      go [] e = refl
      go (f ∷ fs) e = ap (with_ram (with_pair m a p f fs)) (zeroed_front m.sizes f m.ram rest (first_below e) room)
        where
          first_below : m.pool ≡ f ∷ fs → f < m.sizes.frames
          first_below e = free_below m s f (rw e (omega (arith, hit_same f f refl)))

  all_touched_mended : (m : State) → Sound m → RamFits m → (p k : ℕ)
      → touch_all (mended m rest) p k ≡ mended (touch_all m p k) rest
  unfolding touch_all
  all_touched_mended m s room p zero = refl
  all_touched_mended m s room p (suc k) =
      let w = words_at m p in
      ap (λ (x : State). touch_all x (suc p) k) (touch_mended m s room p w (page_of m p))
      ∙ all_touched_mended (touch_at m p).after (sound_touched m s p w) (grown_fits (grown_touched m s p w) room) (suc p) k

-- the answer doesn't look at the RAM
touch_told : (m : State) (ram : List ℕ) (p w : ℕ) (g : Page) → (touch_page (with_ram m ram) p w g).answer ≡ (touch_page m p w g).answer
touch_told m ram p w outside = refl
touch_told m ram p w (mapped a f) = refl
touch_told m ram p w (unmapped a) = go m.pool
  where
    go : (pool : List ℕ) → (touch_new (with_ram m ram) a p w pool).answer ≡ (touch_new m a p w pool).answer
    go [] = refl
    go (f ∷ fs) = refl

-- ---- touch, read and write, the calls that are lent the RAM

module _ (m : State) (s : Sound m) (n : ℕ) (enough : m.sizes.frames * m.sizes.page ≤ n) where
  whole : mended (cut n m) (drop n m.ram) ≡ m
  whole = ap (with_ram m) (take-append-drop n m.ram)

  told : (a a' : Answer) → a ≡ a' → SameOut n m (tell (cut n m) a) (tell m a')
  told a a' e = record { answers = e; mends = whole }

  -- the checks don't look at the RAM
  same_checked : (c : Call) → SameOut n m (accepted (cut n m) c) (accepted m c) → SameCut n m c
  unfolding step
  same_checked c h = go (asked m.sizes c)
    where
      go : (k : ℕ) → SameOut n m (unless (refusal c) k (cut n m) (accepted (cut n m) c)) (unless (refusal c) k m (accepted m c))
      go zero = h
      go (suc k) = told _ _ refl

  module _ (i x : ℕ) where
    read_front : (count k : ℕ) → read_if (cut n m) i x count k ≡ read_if m i x count k
    read_front count zero = ap (λ (g : ℕ → ℕ). bytes (tabulate g count)) (fun_ext (λ k. byte_front m s n enough i (x + k)))
    read_front count (suc k) = refl

    pub same_read : (count : ℕ) (l : Lent) → SameCut n m (read i x count l)
    unfolding accepted
    same_read count l =
        same_checked (read i x count l)
        (told _ _ (ap (read_if (cut n m) i x count) (absence_any (take n m.ram) m _ (span_pages m.sizes x count)) ∙ read_front count
        (span_absence m i x count)))

  module _ (fits : n ≤ length m.ram) where
    sound_cut : Sound (cut n m)
    sound_cut = sound_stored m s (take n m.ram)

    cut_room : RamFits (cut n m)
    cut_room = omega (arith, enough, length-take-le n m.ram fits)

    pub same_touch : (i b : ℕ) (l : Lent) → SameCut n m (page Touch i b l)
    unfolding accepted
    same_touch i b l =
        let p = place_of m.sizes i b in
        let w = words_at m p in
        same_checked (page Touch i b l)
        (record {
          answers = touch_told m (take n m.ram) p w (page_of m p);
          mends =
              sym (touch_mended (drop n m.ram) (cut n m) sound_cut cut_room p w (page_of m p))
              ∙ ap (λ (y : State). (touch_page y p w (page_of m p)).after) whole;
        })

    module _ (i x : ℕ) (vs : List ℕ) where
      written_front : (a b : Bool) → SameOut n m (write_if (cut n m) i x vs a b) (write_if m i x vs a b)
      written_front true b = told _ _ refl
      written_front false true = told _ _ refl
      written_front false false =
          let p = page_of_address m.sizes i x in
          let k = span_pages m.sizes x (length vs) in
          let c = touch_all (cut n m) p k in
          let rest = drop n m.ram in
          let g = grown_all_touched (cut n m) p k sound_cut in
          record {
            answers = refl;
            mends =
                ap (with_ram c)
                (sym (stored_front c (sound_all_touched (cut n m) p k sound_cut) i x vs c.ram rest (grown_fits g cut_room)))
                ∙ ap (λ (y : State). store_all y i x vs)
                (sym (all_touched_mended rest (cut n m) sound_cut cut_room p k) ∙ ap (λ (y : State). touch_all y p k) whole);
          }

      pub same_write : (l : Lent) → SameCut n m (write i x vs l)
      unfolding accepted
      same_write l =
          same_checked (write i x vs l)
          (rw (
            outside_any (take n m.ram) m (page_of_address m.sizes i x) (span_pages m.sizes x (length vs)),
            absent_any (take n m.ram) m (page_of_address m.sizes i x) (span_pages m.sizes x (length vs)),
          )
          (written_front (span_outside m i x (length vs)) (span_short m i x (length vs))))
