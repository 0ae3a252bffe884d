-- Memory just started, with the file's starts marked and its frames linked, stands for the state before the first pair; past the sizes nothing changed.
use mathlib.Core.Path.{◌≡◌, refl, sym, ap, ap₂, ◌∙◌, subst}
use mathlib.Core.Bool.{Bool, true, false}
use mathlib.Core.List.{List, [], ◌∷◌, ◌++◌}
use Prim.Native.Nat.{ℕ, zero, suc, ◌+◌, ◌≤◌, ◌<◌}
use native.Mathlib.Decide.{ℕ_discrete}
use native.Mathlib.Nat.{not-suc-le-zero}
use native.Mathlib.Omega.{arith}
use lib.ListN.{length, drop, replicate}
use Rattle.sequence.specs.Lists.{tabulate, Each, each_one, each_append, each_left, each_right, get_or_same}
use Rattle.sequence.specs.Sums.{sum}
use Rattle.places.specs.Places.{put, all_new, size}
use Rattle.places.specs.Distinct.{new_parts, new_once}
use Rattle.index.specs.Words.{IndexOf}
use Rattle.machine.specs.Machine.{places, State, is_start, region, begun, every_table, Lent}
use Rattle.machine.specs.Claims.{Sound}
use Rattle.machine.specs.Map.{file_words, map_words, blocks_in, part_in}
use Rattle.machine.specs.MapRules.{entry_frames, entries_of, held_frames, all_frames}
use Rattle.machine.proofs.Laws.Sizes.{fit}
use Rattle.machine.proofs.Laws.Map.Frames.{frames_whole, frames_new, frames_many}
use Rattle.memory.specs.Memory.{Memory, memory, lengths, sizes_of}
use Rattle.memory.specs.declared.Head.{Head}
use Rattle.promise.specs.Holds.{Pooled, Holds}
use Rattle.promise.specs.Within.{Within}
use Rattle.laws.specs.Refusals.{Long}
use Rattle.founding.specs.Laws.{Once, length_laid, excess_laid, pooled_laid}
use Rattle.founding.specs.declared.Laid.{Laid}
use Rattle.std.specs.Prelude.{Option, IfSome}
use Rattle.founding.specs.Founding.{LaidIs, LowFrames}
use Rattle.filling.specs.Partial.{partial}
use Rattle.filling.specs.Stands.{Stands}
use Rattle.filling.specs.Laws.{none_done}
use Rattle.filling.specs.Order.{file_order}

-- ---- the frames of the file

new_low : (f : ℕ) (u : ℕ → Bool) (xs : List ℕ) → all_new f u xs ≡ true → Each 0 (λ x. x < f) xs
new_low f u [] h = λ k l. absurd (omega arith)
new_low f u (x ∷ xs) h =
    let (a, b, c) = new_parts f u x xs h in
    each_append 0 (λ y. y < f) (x ∷ []) xs (each_one 0 (λ y. y < f) x a) (new_low f (put u x true) xs c)

-- a fact of the frames of all bodies is one of each body's
held_each : (P : ℕ → Type 0) (ws : List ℕ) (n j : ℕ) → Each 0 P (held_frames ws j n) → (i : ℕ) → j ≤ i → i < j + n
    → Each 0 P (entry_frames (entries_of (blocks_in (part_in ws i))))
unfolding held_frames
held_each P ws zero j h i l m = absurd (omega arith)
held_each P ws (suc n) j h i l m =
    let here = entry_frames (entries_of (blocks_in (part_in ws j))) in
    elim (ℕ_discrete j i) [
      | yes e ↦
          subst (λ (k : ℕ). Each 0 P (entry_frames (entries_of (blocks_in (part_in ws k))))) e (each_left 0 P here (held_frames ws (suc j) n) h)
      | no d ↦ held_each P ws n (suc j) (each_right 0 P here (held_frames ws (suc j) n) h) i (omega arith) (omega arith)
    ]

module _ (m : State) (s : Sound m) where
  frames_low : Each 0 (λ f. f < m.sizes.frames) (all_frames (map_words m))
  frames_low = new_low m.sizes.frames (λ _. false) (all_frames (map_words m)) (frames_new m s)

  frames_once : Once (all_frames (map_words m))
  frames_once q = omega (arith, new_once m.sizes.frames (λ _. false) (all_frames (map_words m)) (frames_new m s) q)

  pub low_frames : (n : ℕ) → m.sizes.frames ≤ n → LowFrames n (map_words m) m.sizes.spaces
  unfolding file_words
  low_frames n h =
      let ws = map_words m in
      let held = held_frames ws 0 m.sizes.spaces in
      let P : ℕ → Type 0 = λ f. f < n in
      let all : Each 0 P (held ++ part_in ws m.sizes.spaces) = λ k l. omega (arith, frames_low k l) in
      record {
        held = λ i l.
            held_each P ws m.sizes.spaces 0 (each_left 0 P held (part_in ws m.sizes.spaces) all) i (omega arith) (omega arith);
        pool = each_right 0 P held (part_in ws m.sizes.spaces) all;
      }

  -- ---- before the first pair

  module _ (h h' : Head) (index count table helper stack cache link index' link' : List ℕ)
      (H : Holds (begun m.sizes m.ram) (memory h index count table helper stack cache link m.ram))
      (lent : Long every_table m.sizes (lengths (memory h index count table helper stack cache link m.ram)))
      (sizes : sizes_of h' ≡ m.sizes) (marked : IndexOf (places m.sizes) (is_start m) index') (long : length index' ≡ length index)
      (excess : drop (size (places m.sizes)) index' ≡ drop (size (places m.sizes)) index) where
    abbrev before : Memory
    before = memory h index count table helper stack cache link m.ram

    abbrev after : Memory
    after = memory h' index' count table helper stack cache link' m.ram

    -- no pair yet
    abbrev base : List ℕ → State
    base pool = record { sizes = m.sizes; starts = m.starts; held = replicate (places m.sizes) []; pool = pool; ram = m.ram }

    none_held : (pool : List ℕ) (a : ℕ) → region (base pool) a ≡ []
    none_held pool a = get_or_same (places m.sizes) a []

    base_holds : (pool : List ℕ) → ((g : ℕ → ℕ) → sum g pool ≡ sum g (tabulate (λ f. f) m.sizes.frames)) → Pooled h' link' pool
        → Holds (base pool) after
    base_holds pool whole pooled =
        record {
          sound =
              record {
                sizes_ok_lem = s.sizes_ok_lem;
                starts_are = s.starts_are;
                held_are = H.sound.held_are;
                whole = λ g. omega (arith, H.sound.whole g, whole g);
                own = λ a j l. absurd (not-suc-le-zero (rw (none_held pool a) at l));
                once = H.sound.once;
              };
          sizes_are = sizes;
          index_long = omega (arith, H.index_long);
          count_long = H.count_long;
          index_is = marked;
          counts = H.counts;
          entries = λ a j l. absurd (not-suc-le-zero (rw (none_held pool a) at l));
          links = λ a. rw (none_held pool a) (record { from = 0; to = 0; chain = refl });
          pooled = pooled;
          ram_is = refl;
        }

    pub first_fills : (r : Option Laid) → LaidIs link (all_frames (map_words m)) r link' → IfSome r (λ l. h'.first ≡ l.first) → h'.many ≡ m.sizes.frames → h'.fresh ≡ h'.frames
        → Stands (partial m 0 0) (memory h' index' count table helper stack cache link' m.ram)
        × Within m.sizes (memory h index count table helper stack cache link m.ram) (memory h' index' count table helper stack cache link' m.ram)
    first_fills r l first many fresh = go (all_frames (map_words m)) refl l
      where
        some_frames : 0 < m.sizes.frames
        some_frames = (fit m.sizes s.sizes_ok_lem).some_frames

        go : (xs : List ℕ) → all_frames (map_words m) ≡ xs → LaidIs link xs r link' → Stands (partial m 0 0) after × Within m.sizes before after
        go [] e k = absurd (omega (arith, some_frames, frames_many m s, ap length e))
        go (x ∷ xs) e (a, d) =
            let b : h'.first ≡ x = subst (λ (o : Option Laid). IfSome o (λ l. h'.first ≡ l.first)) a first in
            let low = subst (λ (ys : List ℕ). Each 0 (λ f. f < m.sizes.frames) ys) e frames_low in
            let inside : Each 0 (λ f. f < length link) (x ∷ xs) = λ j q. omega (arith, low j q, lent.link refl) in
            let once : Once (x ∷ xs) = subst Once e frames_once in
            let whole : (g : ℕ → ℕ) → sum g (x ∷ xs) ≡ sum g (tabulate (λ f. f) m.sizes.frames) = λ g. sym (ap (sum g) e) ∙ frames_whole m s g in
            let count_is : h'.many ≡ suc (length xs) = many ∙ sym (frames_many m s) ∙ ap length e in
            let pooled : Pooled h' link' (x ∷ xs) =
            subst (λ (y : List ℕ). Pooled h' y (x ∷ xs)) (sym d) (pooled_laid h' link x xs b count_is fresh once inside) in
            let is : partial m 0 0 ≡ base (x ∷ xs) = none_done m s ∙ ap base (sym (file_order m s) ∙ e) in
            let same : lengths after ≡ lengths before =
            ap₂ (λ (i l : ℕ).
            record {
              index = i;
              count = length count;
              table = length table;
              helper = length helper;
              stack = length stack;
              cache = length cache;
              link = l;
              ram = length m.ram;
            }) long (ap length d ∙ length_laid link x xs) in (
              record {
                holds = subst (λ (n : State). Holds n after) (sym is) (base_holds (x ∷ xs) whole pooled);
                lent = subst (λ (z : Lent). Long every_table m.sizes z) (sym same) lent;
              },
              record {
                long = same;
                index = excess;
                count = refl;
                table = refl;
                helper = refl;
                stack = refl;
                cache = refl;
                link = ap (drop m.sizes.frames) d ∙ excess_laid m.sizes.frames link x xs low;
              },
            )
