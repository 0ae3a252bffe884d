-- The three steps together, for any state that the file describes.
use mathlib.Core.Path.{◌≡◌, refl, sym, ap, ◌∙◌, subst}
use mathlib.Core.List.{List, [], ◌++◌}
use Prim.Native.Nat.{ℕ, ◌*◌, ◌≤◌}
use lib.ListN.{length}
use Rattle.words.specs.Words.{words_in}
use Rattle.machine.specs.Machine.{Sizes, places, State}
use Rattle.machine.specs.Map.{file_words, map_words, part_in}
use Rattle.machine.specs.MapRules.{held_frames, all_frames}
use Rattle.machine.proofs.Laws.Sizes.{fit}
use Rattle.memory.specs.Memory.{Memory, memory}
use Rattle.memory.specs.declared.Head.{Head}
use Rattle.promise.specs.Holds.{Holds}
use Rattle.std.specs.Prelude.{Option, IfSome}
use Rattle.promise.specs.Within.{Within}
use Rattle.laws.specs.Refusals.{check_size_passes}
use Rattle.walking.specs.Rows.{Bodied}
use Rattle.founding.specs.declared.Laid.{Laid}
use Rattle.founding.specs.Founding.{starts_in, Marked, LaidIs, LowFrames}
use Rattle.filling.specs.Partial.{partial}
use Rattle.filling.specs.Stands.{Stands, within_more}
use Rattle.filling.specs.Filling.{map_spaces, CanSpaces}
use Rattle.filling.specs.Honest.{file_fill}
use Rattle.restoring.specs.Founded.{Founded, AllLinked}
use Rattle.restoring.proofs.Marks.{marks_done}
use Rattle.restoring.proofs.Bare.{can_spaces}
use Rattle.restoring.proofs.First.{low_frames, first_fills}

frames_are : (m : State) → held_frames (map_words m) 0 m.sizes.spaces ++ part_in (map_words m) m.sizes.spaces ≡ all_frames (map_words m)
unfolding file_words
frames_are m = refl

-- a file of so many spaces and pages, as the head says
pub record Reads (m : State) (file : List ℕ) (h : Head) (index count table helper stack cache link : List ℕ) (S P : ℕ) : Type 0 where
  pub founded : Founded m file (memory h index count table helper stack cache link m.ram)
  pub spaces_are : S ≡ h.spaces
  pub pages_are : P ≡ h.pages

-- its starts marked and its frames linked: index, links and head after that
pub record Begun (file : List ℕ) (h : Head) (index link : List ℕ) (S P : ℕ) (index' link' : List ℕ) (r : Option Laid) (f : ℕ) (h' : Head) : Type 0 where
  pub marked : Marked (S * P) (starts_in P (words_in file) 0 S) index index'
  pub laid : LaidIs link (held_frames (words_in file) 0 S ++ part_in (words_in file) S) r link'
  pub first : IfSome r (λ l. f ≡ l.first)
  pub linked : AllLinked h f h'

module _ {m : State} {file : List ℕ} {h : Head} {index count table helper stack cache link : List ℕ} {S P : ℕ}
    (x : Reads m file h index count table helper stack cache link S P) where
  S-is : S ≡ m.sizes.spaces
  S-is = x.spaces_are ∙ ap (λ (z : Sizes). z.spaces) x.founded.started.sizes_are

  P-is : P ≡ m.sizes.pages
  P-is = x.pages_are ∙ ap (λ (z : Sizes). z.pages) x.founded.started.sizes_are

  pub few : S * P ≤ 262144
  few = rw (S-is, P-is) (fit m.sizes x.founded.sound.sizes_ok_lem).few_places

  pub rows : Bodied (length file) (words_in file) S
  rows = rw S-is x.founded.bodied

  pub low : LowFrames (length link) (words_in file) S
  low = rw (S-is, x.founded.words_are) (low_frames m x.founded.sound (length link) (x.founded.lent.link refl))

  module _ {index' link' : List ℕ} {r : Option Laid} {f : ℕ} {h' : Head} (y : Begun file h index link S P index' link' r f h') where
    abbrev before : Memory
    before = memory h index count table helper stack cache link m.ram

    abbrev after : Memory
    after = memory h' index' count table helper stack cache link' m.ram

    marked_so : Marked (places m.sizes) (starts_in m.sizes.pages (map_words m) 0 m.sizes.spaces) index index'
    marked_so = rw (S-is, P-is, x.founded.words_are) at y.marked

    laid_so : LaidIs link (all_frames (map_words m)) r link'
    laid_so =
        subst (λ (xs : List ℕ). LaidIs link xs r link')
        (ap (λ (n : ℕ). held_frames (words_in file) 0 n ++ part_in (words_in file) n) S-is
        ∙ ap (λ (ws : List ℕ). held_frames ws 0 m.sizes.spaces ++ part_in ws m.sizes.spaces) x.founded.words_are
        ∙ frames_are m)
        y.laid

    first : Stands (partial m 0 0) after × Within m.sizes before after
    first =
        let F = x.founded in
        let H = F.started in
        let room = check_size_passes m.sizes F.sound.sizes_ok_lem (length index) H.index_long in
        let frames : h.frames ≡ m.sizes.frames = ap (λ (z : Sizes). z.frames) H.sizes_are in
        first_fills m F.sound h h' index count table helper stack cache link index' link' H F.lent (y.linked.sizes ∙ H.sizes_are)
        (marks_done m F.sound m.ram index index' room H.index_is marked_so) y.marked.size marked_so.excess
        r laid_so (rw y.linked.first y.first) (y.linked.many ∙ frames) y.linked.fresh

    pub can : CanSpaces (memory h' [] count table helper stack cache link' []) P (words_in file) 0 S
    can =
        rw (S-is, P-is, x.founded.words_are)
        (can_spaces after m.sizes.pages (map_words m) m.sizes.spaces 0 (file_fill m x.founded.sound after first.0).can)

    pub restored : (k : Memory) → k ≡ map_spaces (memory h' index' count table helper stack cache link' m.ram) P (words_in file) 0 S
        → Holds m k × Within m.sizes (memory h index count table helper stack cache link m.ram) k
    restored k e =
        let so : k ≡ map_spaces after m.sizes.pages (map_words m) 0 m.sizes.spaces =
        e
        ∙ ap (λ (n : ℕ). map_spaces after P (words_in file) 0 n) S-is
        ∙ ap (λ (n : ℕ). map_spaces after n (words_in file) 0 m.sizes.spaces) P-is
        ∙ ap (λ (ws : List ℕ). map_spaces after m.sizes.pages ws 0 m.sizes.spaces) x.founded.words_are in
        let filled = file_fill m x.founded.sound after first.0 in
        subst (λ (y : Memory). Holds m y × Within m.sizes before y) (sym so) (filled.stands.holds, within_more first.1 filled.within)
