-- What each call keeps, one entry a call; from it what any call keeps, and any history.
use Rattle.std.specs.Prelude.{◌≡◌, Bool, true, false, cond, not, ◌&&◌, ◌||◌, ℕ, zero, suc, ◌+◌, ◌*◌, ◌≤◌, ltb, leb}
use Rattle.std.proofs.Math.Path.{refl}
use Rattle.std.proofs.Common.{sym, ap, ap₂, ◌∙◌, subst, arith}
use Rattle.std.proofs.lemmas.Bool.{false≢true}
use Rattle.std.proofs.Math.Option.{Option, none, some, none-ne-some}
use mathlib.Core.List.{List, [], ◌∷◌}
use borrow.Author.Tests.{ltb-true, leb-true}
use Rattle.std.proofs.Math.ListN.{length}
use Rattle.machine.specs.declared.PageCall.{PageCall}
use Rattle.machine.specs.declared.PageCall.TheVariants.{Mark, Drop, Touch, Look, Release, GiveBack}
use Rattle.machine.specs.Machine.{Sizes, place_of, sizes_ok, space_bytes, State, Lent, is_start, start_of, words_at, page_of, enough}
use Rattle.machine.specs.Machine.{Call, start, page, free, translate, read, write, list, write_map, read_map, uses, facts, page_facts, tables_and_ram}
use Rattle.machine.specs.Machine.{every_buffer, lends}
use Rattle.machine.specs.Machine.{lent_ok, refusal, sizes_by, sizes_for, sizes_after, asked, Effect, unchanged, prepared, refilled, start_put, page_mapped}
use Rattle.machine.specs.Machine.{region_emptied, page_given_back, span_stored, given_back}
use Rattle.machine.specs.Machine.{Kind, ended, touched, looked, released, counted, translated, copied, listed, map_written, refusal_of, Answer, done}
use Rattle.machine.specs.Machine.{Out, tell}
use Rattle.machine.specs.Machine.{with_ram, mark_at, drop_at, span_outside, span_short, restored_if, accepted, unless, step, answer, after, after_all}
use Rattle.machine.specs.Claims.{Sound, Address, RamFits, is_refused, shows, is_beginning, aims_at, aims, ends, shows_from}
use Rattle.machine.specs.Claims.{shows_after, Spared, MayChangeBy, MayChange}
use Rattle.machine.proofs.Laws.Sizes.{both, passed, file_passed}
use Rattle.words.specs.Words.{words_in}
use Rattle.machine.specs.Map.{state_in}
use Rattle.machine.specs.MapRules.{contents_ok, file_ok, described}
use Rattle.machine.proofs.MapTheorems.{described_sound}
use Rattle.machine.proofs.Laws.Kept.{sound_begun, sound_stored}
use Rattle.machine.proofs.Laws.Steps.{sound_marked_or_not, sound_dropped_or_not, sound_touched, sound_released_or_not, sound_written, touch_sizes}
use Rattle.machine.proofs.Laws.Steps.{write_sizes, page_place}
use Rattle.machine.proofs.Laws.Handed.{sound_given}
use Rattle.machine.proofs.Laws.Changes.{KeptIfRefused, mark_kept, drop_kept, touch_kept, release_kept, give_kept, write_kept, mark_start, drop_start}
use Rattle.machine.proofs.Laws.Changes.{touch_region, release_region, give_region, write_span, may_stay}
use Rattle.machine.proofs.Laws.Shows.{shows_started, touched_shows, released_shows, given_shows, written_shows}
use Rattle.machine.proofs.Laws.Spared.{spared_shows}
use Rattle.machine.proofs.Laws.Unseen.{Alike, same_answer, told_alike, mark_alike, drop_alike, touch_alike, release_alike, read_alike, write_alike}
use Rattle.machine.proofs.Laws.Unseen.{give_alike, list_alike, map_alike}

-- the RAM is long enough for the sizes after the call
abbrev RamRoom : State → Call → Type 0
RamRoom m c = let z = sizes_after m.sizes c in z.frames * z.page ≤ length m.ram

pub record Lawful (m : State) (c : Call) : Type 0 where
  pub sound : Sound m → Sound (accepted m c).after
  pub keeps : KeptIfRefused m (accepted m c)
  pub sizes : (accepted m c).after.sizes ≡ sizes_after m.sizes c
  pub changes : Sound m → MayChangeBy m (facts c).change (accepted m c).after
  -- what each address shows, if the call isn't refused
  pub shown : Sound m → ((uses c).ram ≡ true → RamRoom m c)
      → (i x : ℕ) → Address (sizes_after m.sizes c) i x
      → is_refused (accepted m c).answer ≡ false → shows (accepted m c).after i x ≡ shows_after m i x c
  -- with another RAM
  pub alike : (ram : List ℕ) → Alike (with_ram m ram) m (accepted (with_ram m ram) c) (accepted m c)

-- the sizes of a start that passed
start_sizes : (m : State) (z : Sizes) (l : Lent) → asked m.sizes (start z l) ≡ 0 → sizes_ok z ≡ true
unfolding asked
start_sizes m z l e = (both (sizes_ok z) _ (passed (sizes_ok z && enough (uses (start z l)) z l) true true e).first).0

module _ (m : State) where
  -- what only asks
  tells : (c : Call) (a : Answer) → accepted m c ≡ tell m a → (facts c).begins ≡ none → (facts c).change ≡ unchanged
      → ((ram : List ℕ) → Alike (with_ram m ram) m (accepted (with_ram m ram) c) (accepted m c)) → Lawful m c
  tells c a e begins change alike =
      record {
        sound = λ s. subst (λ (o : Out). Sound o.after) (sym e) s;
        keeps = λ _. ap (λ (o : Out). o.after) e;
        sizes = ap (λ (o : Out). o.after.sizes) e ∙ sym (ap (sizes_by m.sizes) begins);
        changes = λ _. subst (λ (o : Out). MayChangeBy m (facts c).change o.after) (sym e) (may_stay m (facts c).change);
        shown = λ s room i x here n.
            ap (λ (o : Out). shows o.after i x) e ∙ sym (ap₂ (λ (f : Effect) (o : Option State). shows_from m i x f o) change begins);
        alike = alike;
      }

  page_lawful : (p : PageCall) (i b : ℕ) (l : Lent) → asked m.sizes (page p i b l) ≡ 0 → Lawful m (page p i b l)
  unfolding asked accepted
  page_lawful Mark i b l e =
      let p = place_of m.sizes i b in
      let low = page_place m.sizes i b (lent_ok m.sizes (lends (page_facts Mark).uses l)) e in
      let one = mark_start m p (start_of m p) (is_start m p) in
      let sound : Sound m → Sound (mark_at m p (start_of m p) (is_start m p)).after = λ s. sound_marked_or_not m s p low (start_of m p) refl (is_start m p) in
      record {
        sound = sound;
        keeps = mark_kept m p (start_of m p) (is_start m p);
        sizes = one.sizes;
        changes = λ _. one;
        shown = λ s room j x here n. shows_started m s j x _ (sound s) one;
        alike = λ ram. mark_alike m ram p (start_of m p) (is_start m p);
      }
  page_lawful Drop i b l e =
      let p = place_of m.sizes i b in
      let low = page_place m.sizes i b (lent_ok m.sizes (lends (page_facts Drop).uses l)) e in
      let one = drop_start m p (is_start m p) in
      let sound : Sound m → Sound (drop_at m p (is_start m p)).after = λ s. sound_dropped_or_not m s p low (is_start m p) in
      record {
        sound = sound;
        keeps = drop_kept m p (is_start m p);
        sizes = one.sizes;
        changes = λ _. one;
        shown = λ s room j x here n. shows_started m s j x _ (sound s) one;
        alike = λ ram. drop_alike m ram p (is_start m p);
      }
  page_lawful Touch i b l e =
      let p = place_of m.sizes i b in
      record {
        sound = λ s. sound_touched m s p (words_at m p);
        keeps = touch_kept m p (words_at m p) (page_of m p);
        sizes = touch_sizes m p (words_at m p) (page_of m p);
        changes = λ s. touch_region m s p (words_at m p) (page_of m p);
        shown = λ s room j x here n. touched_shows m s j x p (words_at m p) n;
        alike = λ ram. touch_alike m ram p (words_at m p) (page_of m p);
      }
  page_lawful Look i b l e = tells (page Look i b l) _ refl refl refl (λ ram. told_alike m ram _)
  page_lawful Release i b l e =
      let p = place_of m.sizes i b in
      record {
        sound = λ s. sound_released_or_not m s p (is_start m p) refl;
        keeps = release_kept m p (is_start m p);
        sizes = (release_region m p (is_start m p)).0.sizes;
        changes = λ _. release_region m p (is_start m p);
        shown = λ s room j x here n. released_shows m s j x p (is_start m p) refl n;
        alike = λ ram. release_alike m ram p (is_start m p);
      }
  page_lawful GiveBack i b l e =
      let p = place_of m.sizes i b in
      record {
        sound = λ s. sound_given m s p;
        keeps = give_kept m p (page_of m p);
        sizes = (give_region m p (page_of m p)).0.sizes;
        changes = λ _. give_region m p (page_of m p);
        shown = λ s room j x here n. given_shows m s j x p n;
        alike = λ ram. give_alike m ram p (page_of m p);
      }

  -- what a file describes is sound, and is begun with the RAM as it stands
  restored_lawful : (file : List ℕ) (l : Lent) (o : Option State) → described [] file ≡ o → Lawful m (read_map file l)
  unfolding accepted
  restored_lawful file l none is =
      record {
        sound = λ s. rw is s;
        keeps = λ n. rw is;
        sizes = rw is;
        changes = λ _. rw is;
        shown = λ s room i x here n. absurd (false≢true (sym n ∙ rw is));
        alike = λ ram. rw is (told_alike m ram _);
      }
  restored_lawful file l (some s) is =
      record {
        sound = λ _. rw is (sound_stored s (described_sound [] file s is) m.ram);
        keeps = λ n. absurd (false≢true (sym (rw is) ∙ n));
        sizes = rw is;
        changes = λ _. rw is;
        shown = λ _ room i x here n. rw is;
        alike = λ ram. rw is (record { answers = same_answer; states = refl });
      }

  lawful : (c : Call) → asked m.sizes c ≡ 0 → Lawful m c
  unfolding asked accepted
  lawful (start z l) e =
      record {
        sound = λ _. sound_begun z m.ram (start_sizes m z l e);
        keeps = λ n. absurd (false≢true n);
        sizes = refl;
        changes = λ _. refl;
        shown = λ s room i x here n. refl;
        alike = λ ram. record { answers = same_answer; states = refl };
      }
  lawful (page p i b l) e = page_lawful p i b l e
  lawful free e = tells free _ refl refl refl (λ ram. told_alike m ram _)
  lawful (translate i x l) e = tells (translate i x l) _ refl refl refl (λ ram. told_alike m ram _)
  lawful (read i x n l) e =
      let q = passed (lent_ok m.sizes (lends tables_and_ram l)) (ltb i m.sizes.spaces) (leb (x + n) (space_bytes m.sizes)) e in
      let in_space = ltb-true i m.sizes.spaces q.second in
      let fits = leb-true (x + n) (space_bytes m.sizes) q.third in
      tells (read i x n l) _ refl refl refl (λ ram. read_alike m ram i x n (λ k h. record { space = in_space; inside = omega (arith, fits) }))
  lawful (write i x vs l) e =
      let q = passed (lent_ok m.sizes (lends every_buffer l)) (ltb i m.sizes.spaces) (leb (x + length vs) (space_bytes m.sizes)) e in
      let out = span_outside m i x (length vs) in
      let short = span_short m i x (length vs) in
      record {
        sound = λ s. sound_written m s i x vs out short;
        keeps = write_kept m i x vs out short;
        sizes = write_sizes m i x vs out short;
        changes = λ s. write_span m s i x vs out short;
        shown = λ s room j y here n.
            written_shows m s j y i x vs here (ltb-true _ _ q.second) (leb-true _ _ q.third) (λ _. room refl) out short refl refl n;
        alike = λ ram. write_alike m ram i x vs;
      }
  lawful (list i room l) e = tells (list i room l) _ refl refl refl (λ ram. list_alike m ram i room)
  lawful (write_map room l) e = tells (write_map room l) _ refl refl refl (λ ram. map_alike m ram room)
  lawful (read_map file l) e = restored_lawful file l (described [] file) refl

-- ---- any call, in any state

pub is_refusal : (d : Kind) (n : ℕ) → is_refused (refusal_of d n) ≡ true
is_refusal ended n = refl
is_refusal touched n = refl
is_refusal looked n = refl
is_refusal released n = refl
is_refusal counted n = refl
is_refusal translated n = refl
is_refusal copied n = refl
is_refusal listed n = refl
is_refusal map_written n = refl
is_refusal given_back n = refl

-- a claim about a call holds if it holds where the checks pass and where the state stays
by_check : (P : Out → Type 0) (m : State) (c : Call) → (asked m.sizes c ≡ 0 → P (accepted m c)) → ((a : Answer) → P (tell m a)) → P (step m c)
unfolding step
by_check P m c passes stays = go (asked m.sizes c) refl
  where
    go : (k : ℕ) → asked m.sizes c ≡ k → P (unless (refusal c) k m (accepted m c))
    go zero e = passes e
    go (suc k) e = stays (refusal c (suc k))

pub step_sound : (m : State) (c : Call) → Sound m → Sound (after m c)
step_sound m c s = by_check (λ o. Sound o.after) m c (λ e. (lawful m c e).sound s) (λ a. s)

-- what begins no state keeps the sizes
pub sizes_kept : (m : State) (c : Call) → (facts c).begins ≡ none → (after m c).sizes ≡ m.sizes
sizes_kept m c is = by_check (λ o. o.after.sizes ≡ m.sizes) m c (λ e. (lawful m c e).sizes ∙ ap (sizes_by m.sizes) is) (λ a. refl)

pub refusal_keeps : (m : State) (c : Call) → is_refused (answer m c) ≡ true → after m c ≡ m
refusal_keeps m c = by_check (KeptIfRefused m) m c (λ e. (lawful m c e).keeps) (λ a _. refl)

pub may_change : (m : State) (c : Call) → Sound m → MayChange m c (after m c)
may_change m c s = by_check (λ o. MayChange m c o.after) m c (λ e. (lawful m c e).changes s) (λ a. may_stay m (facts c).change)

-- a call that passed and is lent the RAM has room in it
abbrev pub RoomFor : State → Call → Type 0
RoomFor m c = asked m.sizes c ≡ 0 → (uses c).ram ≡ true → RamRoom m c

-- the sizes, and what each address shows, after a call that isn't refused
pub step_shown : (m : State) (c : Call) → Sound m → RoomFor m c → is_refused (answer m c) ≡ false
    → ((after m c).sizes ≡ sizes_after m.sizes c)
    × ((i x : ℕ) → Address (sizes_after m.sizes c) i x → shows (after m c) i x ≡ shows_after m i x c)
unfolding step
step_shown m c s room = go (asked m.sizes c) refl
  where
    go : (k : ℕ) → asked m.sizes c ≡ k → is_refused (unless (refusal c) k m (accepted m c)).answer ≡ false
        → ((unless (refusal c) k m (accepted m c)).after.sizes ≡ sizes_after m.sizes c)
        × ((i x : ℕ) → Address (sizes_after m.sizes c) i x → shows (unless (refusal c) k m (accepted m c)).after i x ≡ shows_after m i x c)
    go zero e n = let l = lawful m c e in (l.sizes, λ i x here. l.shown s (room e) i x here n)
    go (suc k) e n = absurd (false≢true (sym n ∙ is_refusal (facts c).kind (suc k)))

step_leaves : (m : State) (c : Call) (i x v : ℕ) → Sound m → RamFits m → Address m.sizes i x
    → shows m i x ≡ some v → ends m i x c ≡ false
    → (shows (after m c) i x ≡ some v) × ((after m c).sizes ≡ m.sizes)
step_leaves m c i x v s room here h = go (is_refused (answer m c)) refl
  where
    by_begins : (o : Option State) → (facts c).begins ≡ o → is_refused (answer m c) ≡ false → (is_beginning o || aims_at m i x (facts c).change) ≡ false
        → (shows (after m c) i x ≡ some v) × ((after m c).sizes ≡ m.sizes)
    by_begins (some t) b n spared = absurd (false≢true (sym spared))
    by_begins none b n spared =
        let same = ap (sizes_by m.sizes) b in
        let t = step_shown m c s (λ _ _. omega (arith, room, ap (λ (z : Sizes). z.frames * z.page) same)) n in (
          t.1 i x (subst (λ (z : Sizes). Address z i x) (sym same) here)
              ∙ ap (shows_from m i x (facts c).change) b
              ∙ spared_shows m i x v (facts c).change spared h,
          t.0 ∙ same,
        )

    go : (r : Bool) → is_refused (answer m c) ≡ r → (not r && aims m i x c) ≡ false → (shows (after m c) i x ≡ some v) × ((after m c).sizes ≡ m.sizes)
    go true r e = let k = refusal_keeps m c r in (ap (λ (u : State). shows u i x) k ∙ h, ap (λ (u : State). u.sizes) k)
    go false r e = by_begins (facts c).begins refl r e

pub alike : (m : State) (ram : List ℕ) (c : Call) → Alike (with_ram m ram) m (step (with_ram m ram) c) (step m c)
unfolding step
alike m ram c = go (asked m.sizes c) refl
  where
    go : (k : ℕ) → asked m.sizes c ≡ k
        → Alike (with_ram m ram) m (unless (refusal c) k (with_ram m ram) (accepted (with_ram m ram) c)) (unless (refusal c) k m (accepted m c))
    go zero e = (lawful m c e).alike ram
    go (suc k) e = told_alike m ram _

-- ---- beginnings and histories

-- what begins a state leaves it, with the RAM as it stood
pub begins_so : (m s : State) (c : Call) → (facts c).begins ≡ some s → accepted m c ≡ record { answer = done; after = with_ram s m.ram }
unfolding accepted
begins_so m s (start z l) e = ap (restored_if m) e
begins_so m s (page p i b l) e = absurd (none-ne-some s e)
begins_so m s free e = absurd (none-ne-some s e)
begins_so m s (translate i x l) e = absurd (none-ne-some s e)
begins_so m s (read i x n l) e = absurd (none-ne-some s e)
begins_so m s (write i x vs l) e = absurd (none-ne-some s e)
begins_so m s (list i room l) e = absurd (none-ne-some s e)
begins_so m s (write_map room l) e = absurd (none-ne-some s e)
begins_so m s (read_map file l) e = ap (restored_if m) e

-- and, unless it is refused, tells so
pub begun_done : (m s : State) (c : Call) → (facts c).begins ≡ some s → is_refused (answer m c) ≡ false → answer m c ≡ done
unfolding step
begun_done m s c is = go (asked m.sizes c)
  where
    go : (k : ℕ) → is_refused (unless (refusal c) k m (accepted m c)).answer ≡ false → (unless (refusal c) k m (accepted m c)).answer ≡ done
    go zero n = ap (λ (o : Out). o.answer) (begins_so m s c is)
    go (suc k) n = absurd (false≢true (sym n ∙ is_refusal (facts c).kind (suc k)))

-- a map that passed the checks describes a state
pub map_described : (z : Sizes) (file : List ℕ) (l : Lent) → asked z (read_map file l) ≡ 0 → described [] file ≡ some (state_in [] (words_in file))
unfolding asked
map_described z file l e = ap (λ (b : Bool). cond b (some (state_in [] (words_in file))) none) (file_passed (contents_ok file) (file_ok file) _ e).1

-- what passed the checks was lent enough for the sizes after it
pub sizes_named_lem : (z : Sizes) (c : Call) → asked z c ≡ 0 → sizes_for z c ≡ sizes_after z c
sizes_named_lem z (start y l) e = refl
sizes_named_lem z (page p i b l) e = refl
sizes_named_lem z free e = refl
sizes_named_lem z (translate i x l) e = refl
sizes_named_lem z (read i x n l) e = refl
sizes_named_lem z (write i x vs l) e = refl
sizes_named_lem z (list i room l) e = refl
sizes_named_lem z (write_map room l) e = refl
sizes_named_lem z (read_map file l) e = sym (ap (sizes_by z) (map_described z file l e))

-- an accepted start makes any state sound
pub start_sound : (m : State) (z : Sizes) (l : Lent) → answer m (start z l) ≡ done → Sound (after m (start z l))
unfolding step accepted
start_sound m z l e = go (asked m.sizes (start z l)) refl e
  where
    go : (k : ℕ) → asked m.sizes (start z l) ≡ k → (unless (refusal (start z l)) k m (accepted m (start z l))).answer ≡ done
        → Sound (unless (refusal (start z l)) k m (accepted m (start z l))).after
    go zero q e = sound_begun z m.ram (start_sizes m z l q)
    go (suc k) q e = absurd (let w : ◌≡◌ {A = ℕ} 0 1 = cc in omega arith)

pub history_sound : (m : State) (cs : List Call) → Sound m → Sound (after_all m cs)
unfolding after_all
history_sound m [] s = s
history_sound m (c ∷ cs) s = history_sound (after m c) cs (step_sound m c s)

-- no call changes how long the RAM is
ram_long : (m m' : State) (e : Effect) → MayChangeBy m e m' → length m'.ram ≡ length m.ram
ram_long m m' unchanged c = ap (λ (u : State). length u.ram) c
ram_long m m' (prepared z) c = ap length c
ram_long m m' (refilled z) c = ap length c
ram_long m m' (start_put i b) c = ap length c.ram
ram_long m m' (page_mapped i b) c = c.1.ram_size
ram_long m m' (region_emptied i b) c = ap length c.1
ram_long m m' (page_given_back i b) c = ap length c.1
ram_long m m' (span_stored i x vs) c = c.taken.ram_size

pub step_fits : (m : State) (c : Call) → Sound m → (after m c).sizes ≡ m.sizes → RamFits m → RamFits (after m c)
step_fits m c s same room =
    omega (arith, room, ram_long m (after m c) (facts c).change (may_change m c s), ap (λ (z : Sizes). z.frames * z.page) same)

-- a byte that no call of the history ends
pub history_leaves : (m : State) (cs : List Call) (i x v : ℕ) → Sound m → RamFits m → Address m.sizes i x
    → shows m i x ≡ some v → Spared m i x cs → (shows (after_all m cs) i x ≡ some v) × ((after_all m cs).sizes ≡ m.sizes)
unfolding Spared after_all
history_leaves m [] i x v s room here h p = (h, refl)
history_leaves m (c ∷ cs) i x v s room here h p =
    let l = step_leaves m c i x v s room here h p.0 in
    let still = subst (λ (z : Sizes). Address z i x) (sym l.1) here in
    let r = history_leaves (after m c) cs i x v (step_sound m c s) (step_fits m c s l.1 room) still l.0 p.1 in
    (r.0, r.1 ∙ l.1)
