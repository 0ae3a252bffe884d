-- W-201: "no answer since a start depends on the RAM's starting contents". Two machines that differ in their RAMs alone, and these not at a byte that an
-- address shows, give the same answers to the same calls and stay so.
use Rattle.std.specs.Prelude.{◌≡◌, refl, Bool, true, false, List, [], ◌∷◌, ℕ, ◌+◌, ◌<◌, length}
use Rattle.std.proofs.Common.{sym, ap, ap₂, ◌∙◌, subst, not-suc-le-zero}
use Rattle.std.proofs.Math.Option.{Option, none, some}
use Rattle.sequence.specs.Lists.{tabulate_same, get_or_same}
use Rattle.machine.specs.Machine.{Sizes, places, sizes_by, State, begun, ram_at}
use Rattle.machine.specs.Machine.{Call, facts}
use Rattle.machine.specs.Machine.{Answer, bytes, byte_in, byte_at, with_ram, answer, after, answers}
use Rattle.machine.specs.Claims.{Sound, Bare, BeginsBare, Address, is_refused, shown_at, shows, shows_from}
use Rattle.machine.proofs.Laws.Kept.{sound_stored}
use Rattle.machine.proofs.Laws.Pairs.{shows_none}
use Rattle.machine.proofs.Laws.ShownSame.{shown_same}
use Rattle.machine.proofs.Laws.Unseen.{Likewise, same_answer, same_addresses}
use Rattle.machine.proofs.Laws.Calls.{RoomFor, step_sound, step_shown, refusal_keeps, alike}

-- with the RAM r every address shows the same
abbrev pub SameShown : State → List ℕ → Type 0
SameShown m r = (i x : ℕ) → Address m.sizes i x → shows (with_ram m r) i x ≡ shows m i x

-- ---- answers

-- the byte that a read brings of what an address shows
abbrev shown_byte : Option ℕ → ℕ
shown_byte none = 0
shown_byte (some v) = v

byte_shown : (m : State) (i x : ℕ) → byte_at m i x ≡ shown_byte (shows m i x)
byte_shown m i x = go (ram_at m i x)
  where
    go : (o : Option ℕ) → byte_in m.ram o ≡ shown_byte (shown_at m.ram o)
    go none = refl
    go (some p) = refl

same_told : (m : State) (r : List ℕ) {a a' : Answer} → SameShown m r → Likewise (with_ram m r) m a a' → a ≡ a'
same_told m r same same_answer = refl
same_told m r same (same_addresses i x n inside) =
    ap bytes
    (tabulate_same (λ k. byte_at (with_ram m r) i (x + k)) (λ k. byte_at m i (x + k)) n
    (λ k l. byte_shown (with_ram m r) i (x + k) ∙ ap shown_byte (same i (x + k) (inside k l)) ∙ sym (byte_shown m i (x + k))))

-- ---- a call

-- a state in which no page is resident shows nothing, whatever its RAM
bare_shows : (m : State) → Bare m → (i x : ℕ) → shows m i x ≡ none
bare_shows m bare i x =
    shows_none m i x
    (λ f h. not-suc-le-zero (subst (λ xs. h.entry.at < length xs) (bare h.start) h.entry.inside))

-- a start begins such a state
pub start_bare : (z : Sizes) (ram : List ℕ) → Bare (begun z ram)
start_bare z ram a = get_or_same (places z) a []

record SameStep (m : State) (r : List ℕ) (c : Call) : Type 0 where
  pub answer_same : answer (with_ram m r) c ≡ answer m c
  pub after_same : after (with_ram m r) c ≡ with_ram (after m c) (after (with_ram m r) c).ram
  pub shown : SameShown (after m c) (after (with_ram m r) c).ram

module _ (m : State) (r : List ℕ) (c : Call) (s : Sound m) (same : SameShown m r) (room : RoomFor m c) (room' : RoomFor (with_ram m r) c)
    (hides : BeginsBare m c) where
  abbrev m' : State
  m' = with_ram m r

  told : answer m' c ≡ answer m c
  told = same_told m r same (alike m r c).answers

  by_begins : (o : Option State) → (facts c).begins ≡ o → is_refused (answer m c) ≡ false → (i x : ℕ) → Address (sizes_by m.sizes o) i x
      → shows_from m' i x (facts c).change o ≡ shows_from m i x (facts c).change o
  by_begins none b n i x here = shown_same m r i x (same i x here) (facts c).change
  by_begins (some t) b n i x here =
      let bare = hides t b n in
      bare_shows (with_ram t r) bare i x ∙ sym (bare_shows (with_ram t m.ram) bare i x)

  shown_after : (t : Bool) → is_refused (answer m c) ≡ t → (i x : ℕ) → Address (after m c).sizes i x → shows (after m' c) i x ≡ shows (after m c) i x
  shown_after true t i x here =
      let k = refusal_keeps m c t in
      let k' = refusal_keeps m' c (ap is_refused told ∙ t) in
      ap (λ (u : State). shows u i x) k' ∙ same i x (subst (λ (u : State). Address u.sizes i x) k here) ∙ sym (ap (λ (u : State). shows u i x) k)
  shown_after false t i x here =
      let d = step_shown m c s room t in
      let d' = step_shown m' c (sound_stored m s r) room' (ap is_refused told ∙ t) in
      let there = subst (λ (z : Sizes). Address z i x) d.0 here in
      d'.1 i x there ∙ by_begins (facts c).begins refl t i x there ∙ sym (d.1 i x there)

  same_step : SameStep m r c
  same_step =
      let states = (alike m r c).states in
      record {
        answer_same = told;
        after_same = states;
        shown = λ i x here. ap (λ (u : State). shows u i x) (sym states) ∙ shown_after (is_refused (answer m c)) refl i x here;
      }

-- ---- any history

-- no page is resident in a state that a call among them begins: starts, but not the reading of a map with resident pages
unfoldable pub AllBare : State → List Call → Type 0
AllBare m [] = Unit {0}
AllBare m (c ∷ cs) = BeginsBare m c × AllBare (after m c) cs

-- each call that is lent the RAM has room in it
unfoldable pub AllRoom : State → List Call → Type 0
AllRoom m [] = Unit {0}
AllRoom m (c ∷ cs) = RoomFor m c × AllRoom (after m c) cs

answers_same : (m : State) (r : List ℕ) (cs : List Call) → Sound m → SameShown m r → AllRoom m cs → AllRoom (with_ram m r) cs → AllBare m cs
    → answers (with_ram m r) cs ≡ answers m cs
unfolding answers AllRoom AllBare
answers_same m r [] s same room room' bare = refl
answers_same m r (c ∷ cs) s same room room' bare =
    let t = same_step m r c s same room.0 room'.0 bare.0 in
    let r₁ = (after (with_ram m r) c).ram in
    ap₂ ◌∷◌ t.answer_same
    (ap (λ (u : State). answers u cs) t.after_same
    ∙ answers_same (after m c) r₁ cs (step_sound m c s) t.shown room.1 (subst (λ (u : State). AllRoom u cs) t.after_same room'.1) bare.1)

-- from a state in which no page is resident, as a start begins one: two RAMs, the same calls, the same answers
pub ram_unseen : (m : State) → Sound m → Bare m → (r : List ℕ) (cs : List Call) → AllRoom m cs → AllRoom (with_ram m r) cs → AllBare m cs
    → answers (with_ram m r) cs ≡ answers m cs
ram_unseen m s bare r cs = answers_same m r cs s (λ i x here. bare_shows (with_ram m r) bare i x ∙ sym (bare_shows m bare i x))
