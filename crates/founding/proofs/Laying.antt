-- Frames linked behind those before them: a list of words, a part, a body, all bodies.
use mathlib.Core.Path.{◌≡◌, refl, sym, ap, ◌∙◌, subst}
use mathlib.Core.Bool.{true}
use mathlib.Core.List.{List, [], ◌∷◌, ◌++◌, map-append, append-nil, append_assoc}
use Prim.Native.Nat.{ℕ, zero, suc, ◌+◌, ◌-◌, ◌*◌, ◌≤◌, ◌<◌}
use native.Mathlib.Omega.{arith}
use lib.ListN.{length, get_or, set, length-set}
use lib.Seq.{slice}
use Rattle.sequence.specs.Lists.{Each, each_one, each_append, each_left, each_right}
use Rattle.machine.specs.Map.{Entry, Block, blocks_in, part_in, whole_from}
use Rattle.machine.specs.MapRules.{entry_frames, entries_of, held_frames}
use Rattle.distinct.specs.Distinct.{picked, Reach}
use Rattle.distinct.specs.Laws.{picked_first, picked_slice}
use Rattle.walking.specs.Laws.{frames_picked}
use Rattle.walking.specs.Regions.{Walked, walked_none, walked_all, here, split_here, walked_fits, walked_more}
use Rattle.founding.specs.Chain.{laid, last_of}
use Rattle.founding.specs.Laws.{length_laid}
use Rattle.founding.specs.declared.Laid.{Laid}
use Rattle.founding.specs.Founding.{LaidIs, LastWithin, Lays}
use Rattle.std.specs.Prelude.{Option, Some, None}

-- every frame has a link
abbrev pub Low : List ℕ → List ℕ → Type 0
Low link xs = Each 0 (λ f. f < length link) xs

pub tail_low : (link : List ℕ) (x : ℕ) (xs : List ℕ) → Low link (x ∷ xs) → Low link xs
tail_low link x xs h = each_right 0 (λ f. f < length link) (x ∷ []) xs h

pub cons_low : (link : List ℕ) (x : ℕ) (xs : List ℕ) → x < length link → Low link xs → Low link (x ∷ xs)
cons_low link x xs h t = each_append 0 (λ f. f < length link) (x ∷ []) xs (each_one 0 (λ f. f < length link) x h) t

-- ---- the loop over words: what is linked so far, and the frames that are left

pub record Linking (xs : List ℕ) (last : ℕ) (link₀ link rest : List ℕ) (end : ℕ) : Type 0 where
  pub size : length link ≡ length link₀
  pub links : laid link₀ last xs ≡ laid link end rest
  pub ends : last_of last xs ≡ last_of end rest
  pub inside : Low link₀ (end ∷ rest)

module _ {xs : List ℕ} {last : ℕ} {link₀ link rest : List ℕ} {end : ℕ} (so_far : Linking xs last link₀ link rest end) where
  pub end_inside : end < length link
  end_inside = omega (arith, so_far.inside 0 (omega arith), so_far.size)

  pub all_linked : rest ≡ [] → (end ≡ last_of last xs) × (link ≡ laid link₀ last xs)
  unfolding laid last_of
  all_linked none = (sym (so_far.ends ∙ ap (last_of end) none), sym (so_far.links ∙ ap (laid link end) none))

  pub one_linked : (w : ℕ) (later : List ℕ) → rest ≡ (w ∷ []) ++ later → Linking xs last link₀ (set link end w) later w
  unfolding laid last_of
  one_linked w later more =
      record {
        size = length-set link end w ∙ so_far.size;
        links = so_far.links ∙ ap (laid link end) more;
        ends = so_far.ends ∙ ap (last_of end) more;
        inside = subst (Low link₀) more (tail_low link₀ end rest so_far.inside);
      }

-- ---- a part behind those before it

laid_more : (link : List ℕ) (x : ℕ) (xs ys : List ℕ) → laid link x (xs ++ ys) ≡ laid (laid link x xs) (last_of x xs) ys
unfolding laid last_of
laid_more link x [] ys = refl
laid_more link x (y ∷ xs) ys = laid_more (set link x y) y xs ys

last_more : (x : ℕ) (xs ys : List ℕ) → last_of x (xs ++ ys) ≡ last_of (last_of x xs) ys
unfolding last_of
last_more x [] ys = refl
last_more x (y ∷ xs) ys = last_more y xs ys

last_each : (P : ℕ → Type 0) (x : ℕ) (xs : List ℕ) → Each 0 P (x ∷ xs) → P (last_of x xs)
unfolding last_of
last_each P x [] h = h 0 (omega arith)
last_each P x (y ∷ xs) h = last_each P y xs (each_right 0 P (x ∷ []) (y ∷ xs) h)

lays_none : (r : Option Laid) (link : List ℕ) → LastWithin r (length link) → Lays r link [] r link
lays_none r link h = record { size = refl; low = h; is = λ link₀ ys i. rw (append-nil ys) i }

-- behind others
pub lays_behind : (l : Laid) (link xs : List ℕ) → Low link (l.last ∷ xs) → (last : ℕ) (link' : List ℕ) → last ≡ last_of l.last xs
    → link' ≡ laid link l.last xs → Lays (Some l) link xs (Some (record { first = l.first; last = last })) link'
lays_behind l link xs low last link' last_is link_is =
    record {
      size = ap length link_is ∙ length_laid link l.last xs;
      low = rw (link_is, length_laid link l.last xs, last_is) (last_each (λ f. f < length link) l.last xs low);
      is = go;
    }
  where
    go : (link₀ ys : List ℕ) → LaidIs link₀ ys (Some l) link → LaidIs link₀ (ys ++ xs) (Some (record { first = l.first; last = last })) link'
    go link₀ [] (a, b) = absurd (cc)
    go link₀ (y ∷ ys) (a, b) =
        let f : l.first ≡ y = cc in
        let c : l.last ≡ last_of y ys = cc in
        let e : last ≡ last_of y (ys ++ xs) = last_is ∙ ap (λ (z : ℕ). last_of z xs) c ∙ sym (last_more y ys xs) in (
          cc,
          link_is ∙ ap (λ (z : ℕ). laid link z xs) c ∙ ap (λ (k : List ℕ). laid k (last_of y ys) xs) b ∙ sym (laid_more link₀ y ys xs),
        )

-- the first
lays_first : (link : List ℕ) (x : ℕ) (xs : List ℕ) → Low link (x ∷ xs) → (last : ℕ) (link' : List ℕ)
    → last ≡ last_of x xs → link' ≡ laid link x xs → Lays None link (x ∷ xs) (Some (record { first = x; last = last })) link'
lays_first link x xs low last link' last_is link_is =
    record {
      size = ap length link_is ∙ length_laid link x xs;
      low = rw (link_is, length_laid link x xs, last_is) (last_each (λ f. f < length link) x xs low);
      is = go;
    }
  where
    go : (link₀ ys : List ℕ) → LaidIs link₀ ys None link → LaidIs link₀ (ys ++ (x ∷ xs)) (Some (record { first = x; last = last })) link'
    go link₀ [] (a, b) = (cc, link_is ∙ ap (λ (k : List ℕ). laid k x xs) b)
    go link₀ (y ∷ ys) (a, b) = absurd (cc)

pub lays_more : {r r₁ r₂ : Option Laid} {link link₁ link₂ : List ℕ} (xs ys : List ℕ) → Lays r link xs r₁ link₁ → Lays r₁ link₁ ys r₂ link₂
    → Lays r link (xs ++ ys) r₂ link₂
lays_more {r} {r₁} {r₂} {link} {link₁} {link₂} xs ys a b =
    record {
      size = b.size ∙ a.size;
      low = b.low;
      is = λ link₀ zs i. subst (λ (us : List ℕ). LaidIs link₀ us r₂ link₂) (append_assoc zs xs ys) (b.is link₀ (zs ++ xs) (a.is link₀ zs i));
    }

pub lays_zero : (r : Option Laid) (link ws : List ℕ) (from step n : ℕ) → n ≡ 0 → LastWithin r (length link) → Lays r link (picked ws from step n) r link
unfolding picked
lays_zero r link ws from step n e h = rw e (lays_none r link h)

module _ (ws : List ℕ) (from step n x : ℕ) (some : 0 < n) (x-is : x ≡ get_or ws from 0) (link : List ℕ) (low : Low link (picked ws from step n)) where
  abbrev later : List ℕ
  later = picked ws (from + step) step (n - 1)

  first_picked : picked ws from step n ≡ x ∷ later
  first_picked = picked_first ws from step n x some x-is

  pub first_low : Low link (x ∷ later)
  first_low = subst (Low link) first_picked low

  pub lays_picked : (last : ℕ) (link' : List ℕ) → last ≡ last_of x later → link' ≡ laid link x later
      → Lays None link (picked ws from step n) (Some (record { first = x; last = last })) link'
  lays_picked last link' last_is link_is =
      subst (λ (xs : List ℕ). Lays None link xs (Some (record { first = x; last = last })) link') (sym first_picked)
      (lays_first link x later first_low last link' last_is link_is)

-- ---- the frames of blocks

frames_more : (bs cs : List Block) → entry_frames (entries_of (bs ++ cs)) ≡ entry_frames (entries_of bs) ++ entry_frames (entries_of cs)
unfolding entries_of
frames_more [] cs = refl
frames_more (b ∷ bs) cs =
    map-append (λ (x : Entry). x.frame) b.entries (entries_of (bs ++ cs))
    ∙ ap (λ (xs : List ℕ). entry_frames b.entries ++ xs) (frames_more bs cs)
    ∙ sym (append_assoc (entry_frames b.entries) (entry_frames (entries_of bs)) (entry_frames (entries_of cs)))
    ∙ ap (λ (xs : List ℕ). xs ++ entry_frames (entries_of cs)) (sym (map-append (λ (x : Entry). x.frame) b.entries (entries_of bs)))

frames_first : (b : Block) (bs : List Block) → entry_frames (entries_of (b ∷ bs)) ≡ entry_frames b.entries ++ entry_frames (entries_of bs)
unfolding entries_of
frames_first b bs = map-append (λ (x : Entry). x.frame) b.entries (entries_of bs)

frames_one : (b : Block) → entry_frames (entries_of (b ∷ [])) ≡ entry_frames b.entries
unfolding entries_of
frames_one b = ap entry_frames (append-nil b.entries)

-- ---- the loop over a body's regions

pub record Framing (r : Option Laid) (ws : List ℕ) (first to : ℕ) (link₀ : List ℕ) (after : Option Laid) (at : ℕ) (link : List ℕ) : Type 0 where
  pub walked : Walked ws first to at
  pub lays : Lays r link₀ (entry_frames (entries_of walked.done)) after link

pub begin_framing : (r : Option Laid) (ws : List ℕ) (first to : ℕ) (link : List ℕ) → first ≤ to → whole_from 0 (slice first to ws) ≡ true
    → LastWithin r (length link) → Framing r ws first to link r first link
unfolding entries_of
begin_framing r ws first to link le w h = record { walked = walked_none ws first to le w; lays = lays_none r link h }

module _ {r : Option Laid} {ws : List ℕ} {first to : ℕ} {link₀ : List ℕ} {after : Option Laid} {at : ℕ} {link : List ℕ}
    (x : Framing r ws first to link₀ after at link) where
  pub body_laid : to ≤ at → Lays r link₀ (entry_frames (entries_of (blocks_in (slice first to ws)))) after link
  body_laid h = subst (λ (bs : List Block). Lays r link₀ (entry_frames (entries_of bs)) after link) (sym (walked_all x.walked h)) x.lays

  module _ (long : to ≤ length ws) (some : at < to) (n : ℕ) (n_is : n ≡ get_or ws (at + 2) 0) where
    abbrev b : Block
    b = here ws x.walked long some

    frames_here : entry_frames b.entries ≡ picked ws (at + 4) 2 n
    frames_here =
        let four : at + 3 + 1 ≡ at + 4 = omega arith in
        frames_picked ws (at + 3) (get_or ws (at + 2) 0)
        ∙ ap (λ (i : ℕ). picked ws i 2 (get_or ws (at + 2) 0)) four
        ∙ ap (picked ws (at + 4) 2) (sym n_is)

    pub region_low : Low link₀ (entry_frames (entries_of (blocks_in (slice first to ws)))) → Low link (picked ws (at + 4) 2 n)
    region_low all =
        let rest = blocks_in (slice (at + (3 + 2 * get_or ws (at + 2) 0)) to ws) in
        let cut : entry_frames (entries_of (blocks_in (slice first to ws)))
        ≡ entry_frames (entries_of x.walked.done) ++ (entry_frames b.entries ++ entry_frames (entries_of rest)) =
        ap (λ (bs : List Block). entry_frames (entries_of bs)) (split_here ws x.walked long some)
        ∙ frames_more x.walked.done (b ∷ rest)
        ∙ ap (λ (ys : List ℕ). entry_frames (entries_of x.walked.done) ++ ys) (frames_first b rest) in
        let P : ℕ → Type 0 = λ f. f < length link₀ in
        let own =
        each_left 0 P (entry_frames b.entries) (entry_frames (entries_of rest))
        (each_right 0 P (entry_frames (entries_of x.walked.done)) _ (subst (Low link₀) cut all)) in
        λ k q. rw x.lays.size (subst (Low link₀) frames_here own k q)

    pub region_reach : (bytes : ℕ) → 4 * to ≤ bytes → Reach bytes (at + 4) 2 n
    region_reach bytes h k q = omega (arith, walked_fits ws x.walked long some)

    pub region_laid : {after' : Option Laid} {link' : List ℕ} → Lays after link (picked ws (at + 4) 2 n) after' link'
        → Framing r ws first to link₀ after' (at + (3 + 2 * n)) link'
    region_laid {after'} {link'} y =
        let done = entry_frames (entries_of x.walked.done) in
        record {
          walked = walked_more ws x.walked long some n n_is;
          lays =
              subst (λ (ys : List ℕ). Lays r link₀ ys after' link')
              (sym (frames_more x.walked.done (b ∷ [])
              ∙ ap (λ (ys : List ℕ). entry_frames (entries_of x.walked.done) ++ ys) (frames_one b ∙ frames_here)))
              (lays_more done (picked ws (at + 4) 2 n) x.lays y);
        }

-- ---- all bodies

module _ (ws : List ℕ) where
  abbrev frames_in : ℕ → List ℕ
  frames_in i = entry_frames (entries_of (blocks_in (part_in ws i)))

  held_last : (j n : ℕ) → held_frames ws j (suc n) ≡ held_frames ws j n ++ frames_in (j + n)
  unfolding held_frames
  held_last j zero = let same : j ≡ j + 0 = omega arith in append-nil (frames_in j) ∙ ap frames_in same
  held_last j (suc n) =
      let same : suc j + n ≡ j + suc n = omega arith in
      ap (λ (xs : List ℕ). frames_in j ++ xs) (held_last (suc j) n ∙ ap (λ (i : ℕ). held_frames ws (suc j) n ++ frames_in i) same)
      ∙ sym (append_assoc (frames_in j) (held_frames ws (suc j) n) (frames_in (j + suc n)))

  held_next : (i : ℕ) → held_frames ws 0 (i + 1) ≡ held_frames ws 0 i ++ frames_in i
  held_next i =
      let one : i + 1 ≡ suc i = omega arith in
      let same : 0 + i ≡ i = omega arith in
      ap (held_frames ws 0) one ∙ held_last 0 i ∙ ap (λ (j : ℕ). held_frames ws 0 i ++ frames_in j) same

  -- no space yet, and a space more
  pub no_space_laid : (link : List ℕ) → Lays None link (held_frames ws 0 0) None link
  unfolding held_frames
  no_space_laid link = lays_none None link tt

  pub space_laid : {r r₁ r₂ : Option Laid} {link link₁ link₂ : List ℕ} (i : ℕ) → Lays r link (held_frames ws 0 i) r₁ link₁
      → Lays r₁ link₁ (entry_frames (entries_of (blocks_in (part_in ws i)))) r₂ link₂ → Lays r link (held_frames ws 0 (i + 1)) r₂ link₂
  space_laid {r} {r₁} {r₂} {link} {link₁} {link₂} i a b =
      subst (λ (xs : List ℕ). Lays r link xs r₂ link₂) (sym (held_next i)) (lays_more (held_frames ws 0 i) (frames_in i) a b)

  -- the words of the pool's body, one after another
  pub pool_picked : (i first to : ℕ) → first ≤ to → to ≤ length ws → slice first to ws ≡ part_in ws i → picked ws first 1 (to - first) ≡ part_in ws i
  pool_picked i first to low long part =
      let end : first + (to - first) ≡ to = omega arith in
      picked_slice ws first (to - first) (omega arith) ∙ ap (λ (e : ℕ). slice first e ws) end ∙ part
