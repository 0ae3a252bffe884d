-- An accepted write stores its bytes, and what an address shows is read there.
use Rattle.std.specs.Prelude.{◌≡◌, refl, Bool, true, false, cond, ◌&&◌, List, [], ◌∷◌, ℕ, zero, suc, ◌+◌, ◌-◌, ◌≤◌, ◌<◌, leb, ltb, length, get_or}
use Rattle.std.proofs.Common.{sym, ap, ◌∙◌, subst, add-zero, arith, ltb-true, leb-true, eq-eqb, le-leb, lt-ltb}
use Rattle.std.proofs.Math.Option.{Option, none, some}
use Rattle.std.proofs.Math.Nat.{sub_self}
use Rattle.sequence.specs.Lists.{tabulate, get_or_tabulate}
use Rattle.machine.specs.Machine.{Sizes, space_bytes, page_of_address, span_pages, sizes_ok, enough, uses, refusal, State, Lent, mapped, page_of, ram_at}
use Rattle.machine.specs.Machine.{translate, read, write, asked, done, at, bytes, refused, tell, first_absence, span_absence, byte_at, byte_in, read_if}
use Rattle.machine.specs.Machine.{translate_page, span_touched, span_outside, span_short, store_all, write_if, accepted, unless, step, answer, after, Call}
use Rattle.machine.specs.Machine.{after_all}
use Rattle.machine.specs.Claims.{Sound, Address, RamFits, Spared, shown_at, shows, or_zero, in_run, in_span, ReadThere}
use Rattle.machine.proofs.Laws.Sizes.{passed}
use Rattle.machine.proofs.Laws.Holders.{Backed, backed}
use Rattle.machine.proofs.Laws.Shows.{written_shows}
use Rattle.machine.proofs.Laws.Calls.{RoomFor, step_sound, step_fits, history_leaves, may_change}

-- ---- an accepted write stores its bytes

pub record Wrote (m : State) (j y : ℕ) (vs : List ℕ) (l : Lent) (m' : State) : Type 0 where
  pub passes : asked m.sizes (write j y vs l) ≡ 0
  pub space : j < m.sizes.spaces
  pub fits : y + length vs ≤ space_bytes m.sizes
  pub inside : span_outside m j y (length vs) ≡ false
  pub enough_frames : span_short m j y (length vs) ≡ false
  pub is : m' ≡ store_all (span_touched m j y (length vs)) j y vs

wrote : (m : State) (j y : ℕ) (vs : List ℕ) (l : Lent) → answer m (write j y vs l) ≡ done → Wrote m j y vs l (after m (write j y vs l))
unfolding step asked accepted
wrote m j y vs l = go (asked m.sizes (write j y vs l)) refl
  where
    chosen : (a b : Bool) → span_outside m j y (length vs) ≡ a → span_short m j y (length vs) ≡ b → asked m.sizes (write j y vs l) ≡ 0
        → (write_if m j y vs a b).answer ≡ done → Wrote m j y vs l (write_if m j y vs a b).after
    chosen true b ea eb e d = absurd (let z : ◌≡◌ {A = ℕ} 0 1 = cc in omega arith)
    chosen false true ea eb e d = absurd (let z : ◌≡◌ {A = ℕ} 0 1 = cc in omega arith)
    chosen false false ea eb e d =
        let q = passed (sizes_ok m.sizes && enough (uses (write j y vs l)) m.sizes l) (ltb j m.sizes.spaces)
        (leb (y + length vs) (space_bytes m.sizes)) e in
        record { passes = e; space = ltb-true _ _ q.second; fits = leb-true _ _ q.third; inside = ea; enough_frames = eb; is = refl }

    go : (k : ℕ) → asked m.sizes (write j y vs l) ≡ k → (unless (refusal (write j y vs l)) k m (accepted m (write j y vs l))).answer ≡ done
        → Wrote m j y vs l (unless (refusal (write j y vs l)) k m (accepted m (write j y vs l))).after
    go zero e d = chosen (span_outside m j y (length vs)) (span_short m j y (length vs)) refl refl e d
    go (suc k) e d = absurd (let z : ◌≡◌ {A = ℕ} 0 1 = cc in omega arith)

write_stores : (m : State) (j y : ℕ) (vs : List ℕ) (l : Lent) (m' : State) (x : ℕ) → Sound m → RamFits m
    → Wrote m j y vs l m' → y ≤ x → x < y + length vs → shows m' j x ≡ some (get_or vs (x - y) 0)
write_stores m j y vs l m' x s room w low high =
    let in-it : in_span j x j y (length vs) ≡ true = rw (eq-eqb j j refl, le-leb y x low, lt-ltb x (y + length vs) high) in
    ap (λ (u : State). shows u j x) w.is
    ∙ written_shows m s j x j y vs (record { space = w.space; inside = omega (arith, w.fits) }) w.space w.fits (λ _. room) false false
    w.inside w.enough_frames refl
    ∙ ap (λ (t : Bool). shows_if t) in-it
  where
    shows_if : Bool → Option ℕ
    shows_if t =
        cond t (some (get_or vs (x - y) 0))
        (or_zero (in_run (page_of_address m.sizes j y) (span_pages m.sizes y (length vs)) (page_of_address m.sizes j x)) (shows m j x))

-- and calls that spare the address leave it there
pub written_stays : (m : State) (j y : ℕ) (vs : List ℕ) (l : Lent) (x : ℕ) (later : List Call) → Sound m
    → RoomFor m (write j y vs l) → answer m (write j y vs l) ≡ done → y ≤ x → x < y + length vs → Spared (after m (write j y vs l)) j x later
    → let m' = after_all (after m (write j y vs l)) later in
    Address m'.sizes j x × (shows m' j x ≡ some (get_or vs (x - y) 0))
written_stays m j y vs l x later s room_for ok low high spared =
    let c = write j y vs l in
    let w = wrote m j y vs l ok in
    let room = room_for w.passes refl in
    let same = (may_change m c s).sizes in
    let here = subst (λ (z : Sizes). Address z j x) (sym same) (record { space = w.space; inside = omega (arith, w.fits) }) in
    let r = history_leaves (after m c) later j x _ (step_sound m c s) (step_fits m c s same room) here (write_stores m j y vs l _ x s room w low high) spared in
    (subst (λ (z : Sizes). Address z j x) (sym r.1) here, r.0)

-- ---- a byte that is stored is read

-- where the byte stands that an address shows
pub record Stored (m : State) (i x v : ℕ) : Type 0 where
  pub place : ℕ
  pub is_at : ram_at m i x ≡ some place
  pub is : get_or m.ram place 0 ≡ v

pub stored_there : (m : State) (i x v : ℕ) → shows m i x ≡ some v → Stored m i x v
stored_there m i x v = go (ram_at m i x) refl
  where
    go : (o : Option ℕ) → ram_at m i x ≡ o → shown_at m.ram o ≡ some v → Stored m i x v
    go none e h = absurd (let w : ◌≡◌ {A = ℕ} 0 1 = cc in omega arith)
    go (some p) e h = record { place = p; is_at = e; is = let same : get_or m.ram p 0 ≡ v = cc in same }

byte_is : (m : State) (i x v : ℕ) → Stored m i x v → byte_at m i x ≡ v
byte_is m i x v h = ap (byte_in m.ram) h.is_at ∙ h.is

-- a read of one byte looks up one page
one_page : (z : Sizes) (x : ℕ) → span_pages z x 1 ≡ 1
one_page z x = rw (add-zero x, sub_self)

backed_page : (m : State) (i x v : ℕ) → (h : Stored m i x v) → Backed m i x h.place
backed_page m i x v h = backed m i x h.place h.is_at

one_found : (m : State) (p a f : ℕ) → page_of m p ≡ mapped a f → first_absence m p 1 ≡ 0
unfolding first_absence
one_found m p a f e = rw e

bytes_are : (vs ws : List ℕ) → bytes vs ≡ bytes ws → vs ≡ ws
bytes_are vs ws e = cc

accepted_read : (m : State) (i y n : ℕ) (l : Lent) (vs : List ℕ) → answer m (read i y n l) ≡ bytes vs → vs ≡ tabulate (λ k. byte_at m i (y + k)) n
unfolding step accepted
accepted_read m i y n l vs = go (asked m.sizes (read i y n l)) (span_absence m i y n)
  where
    go : (k a : ℕ) → (unless refused k m (tell m (read_if m i y n a))).answer ≡ bytes vs → vs ≡ tabulate (λ k. byte_at m i (y + k)) n
    go zero zero e = sym (bytes_are _ _ e)
    go zero (suc a) e = absurd (let z : ◌≡◌ {A = ℕ} 0 1 = cc in omega arith)
    go (suc k) a e = absurd (let z : ◌≡◌ {A = ℕ} 0 1 = cc in omega arith)

read_one : (m : State) (i x v : ℕ) (l : Lent) → Stored m i x v → asked m.sizes (read i x 1 l) ≡ 0 → answer m (read i x 1 l) ≡ bytes (v ∷ [])
unfolding step accepted tabulate
read_one m i x v l h e =
    let b = backed_page m i x v h in
    let none-absent : span_absence m i x 1 ≡ 0 = ap (first_absence m (page_of_address m.sizes i x)) (one_page m.sizes x) ∙ one_found m _ b.start
    b.frame b.is_mapped in
    ap (λ (k : ℕ). (unless refused k m (tell m (read_if m i x 1 (span_absence m i x 1)))).answer) e
    ∙ ap (read_if m i x 1) none-absent
    ∙ ap (λ (w : ℕ). bytes (w ∷ [])) (ap (byte_at m i) (add-zero x) ∙ byte_is m i x v h)

points_there : (m : State) (i x v : ℕ) (l : Lent) → (h : Stored m i x v) → asked m.sizes (translate i x l) ≡ 0 → answer m (translate i x l) ≡ at h.place
unfolding step accepted
points_there m i x v l h e =
    let b = backed_page m i x v h in
    ap (λ (k : ℕ). (unless refused k m (tell m (translate_page m.sizes x (page_of m (page_of_address m.sizes i x))))).answer) e
    ∙ ap (translate_page m.sizes x) b.is_mapped
    ∙ ap at (sym b.place_is)

pub read_there : (m : State) (i x v : ℕ) → shows m i x ≡ some v → ReadThere m i x v
read_there m i x v shown =
    let h = stored_there m i x v shown in
    record {
      one = λ l e. read_one m i x v l h e;
      over = λ y n l vs e low high.
          ap (λ (ws : List ℕ). get_or ws (x - y) 0) (accepted_read m i y n l vs e)
          ∙ get_or_tabulate (λ k. byte_at m i (y + k)) n (x - y) 0 (omega arith)
          ∙ ap (byte_at m i) (let back : y + (x - y) ≡ x = omega arith in back)
          ∙ byte_is m i x v h;
      points = λ l e. (h.place, points_there m i x v l h e, h.is);
    }
