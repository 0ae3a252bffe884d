-- A judged file's state begun and filled: what each step gives the next, and what both leave.
use mathlib.Core.Path.{◌≡◌, refl, sym, ap, ◌∙◌, subst}
use mathlib.Core.Bool.{Bool, true, false, false≢true}
use mathlib.Core.List.{List, [], ◌++◌}
use Prim.Native.Nat.{ℕ, ◌≤◌, ◌%◌}
use native.Mathlib.Omega.{arith}
use lib.Dec.{eqb}
use lib.ListN.{length, drop as dropped, replicate, length-append, length-drop, length-replicate}
use lib.Seq.{drop_at}
use Rattle.places.specs.Places.{size}
use Rattle.index.specs.Words.{index_of}
use Rattle.index.specs.Laws.{length_index}
use Rattle.words.specs.Words.{words_in}
use Rattle.machine.specs.Machine.{Sizes, places, sizes_ok, State, begun, Lent, every_table, read_map, Answer, done, refused}
use Rattle.machine.specs.Map.{sizes_in, state_in}
use Rattle.machine.specs.MapRules.{file_ok}
use Rattle.machine.proofs.MapTheorems.{file_contents}
use Rattle.machine.proofs.Laws.Sizes.{both}
use Rattle.memory.specs.Memory.{Memory, memory, sizes_of, lengths}
use Rattle.memory.specs.declared.Head.{Head}
use Rattle.promise.specs.Holds.{Holds}
use Rattle.promise.specs.Within.{Within}
use Rattle.promise.specs.Did.{Did}
use Rattle.laws.specs.Models.{check_of, table_lengths}
use Rattle.laws.specs.Refusals.{Long}
use Rattle.laws.specs.Checking.{ready}
use Rattle.starting.specs.Steps.{Beginnable, BeginsAs}
use Rattle.starting.proofs.Starting.{Begun, begun_as}
use Rattle.starting.proofs.Stands.{begun_stands}
use Rattle.judging.specs.Bodied.{file_bodied}
use Rattle.judging.specs.Contents.{ContentsAre}
use Rattle.std.specs.Prelude.{Option, Some, None}
use Rattle.restoring.specs.Founded.{Founded}
use Rattle.restoring.specs.Laws.{rules_founded}
use Rattle.loading.specs.Loading.{Fronted, fronted_words, bad_contents, too_short, not_a_map, restored_did}
use Rattle.loading.specs.Steps.{Loadable, Loads}

-- words put in place of as many at the front
front_put : (n : ℕ) (front ws : List ℕ) → length front ≡ n → n ≤ length ws → Fronted n ws (front ++ dropped n ws)
front_put n front ws e l =
    record { long = omega (arith, length-append front (dropped n ws), length-drop n ws); excess = drop_at front (dropped n ws) n e }

fronted_then : {n : ℕ} {ws vs us : List ℕ} → Fronted n ws vs → length us ≡ length vs → dropped n us ≡ dropped n vs → Fronted n ws us
fronted_then f long excess = record { long = long ∙ f.long; excess = excess ∙ f.excess }

same_front : (n : ℕ) (ws : List ℕ) → Fronted n ws ws
same_front n ws = record { long = refl; excess = refl }

module _ (file : List ℕ) (h : Head) (index count table helper stack cache link : List ℕ) (l : Loadable file h index count table helper stack cache link) where
  abbrev z : Sizes
  z = sizes_in (words_in file)

  head_ok_lem : sizes_ok (sizes_of h) ≡ true
  head_ok_lem = subst (λ (y : Sizes). sizes_ok y ≡ true) (sym l.sizes) (both (sizes_ok z) _ (file_contents file l.whole)).0

  pub can_begin : Beginnable h count
  can_begin = record { sizes_ok_lem = head_ok_lem; count_long = l.lent.count refl }

  module _ (h' : Head) (a : Answer) (index' count' : List ℕ) (d : BeginsAs h index count h' a index' count') where
    begun_so : Begun h index count h' index' count'
    begun_so = begun_as h head_ok_lem index count (l.lent.index refl) h' a index' count' d

    abbrev started : List ℕ → Memory
    started ram = memory h' index' count' table helper stack cache link ram

    index_put : Fronted (size (places z)) index index'
    index_put =
        subst (λ (y : Sizes). Fronted (size (places y)) index index') l.sizes
        (rw begun_so.index_is (front_put _ (index_of (places (sizes_of h)) _) index (length_index (places (sizes_of h)) _) (l.lent.index refl)))

    count_put : Fronted (places z) count count'
    count_put =
        subst (λ (y : Sizes). Fronted (places y) count count') l.sizes
        (rw begun_so.count_is (front_put _ (replicate (places (sizes_of h)) 0) count (length-replicate (places (sizes_of h)) 0) (l.lent.count refl)))

    long : Long every_table z (lengths (started []))
    long =
        let t = subst (λ (y : Sizes). Long every_table y (lengths (memory h index count table helper stack cache link []))) l.sizes l.lent in
        record {
          index = λ e. rw index_put.long (t.index e);
          count = λ e. rw count_put.long (t.count e);
          table = t.table;
          helper = t.helper;
          stack = t.stack;
          cache = t.cache;
          link = t.link;
          ram = t.ram;
        }

    long_any : (ram : List ℕ) → Long every_table z (lengths (started ram))
    long_any ram =
        record {
          index = long.index;
          count = long.count;
          table = long.table;
          helper = long.helper;
          stack = long.stack;
          cache = long.cache;
          link = long.link;
          ram = λ e. absurd (false≢true e);
        }

    pub founded : (ram : List ℕ) → Founded (state_in ram (words_in file)) file (started ram)
    founded ram =
        rules_founded ram file (started ram) (both (eqb (length file % 4) 0) _ l.whole).1 (file_bodied file l.whole)
        (subst (λ (y : Sizes). Holds (begun y ram) (started ram)) l.sizes
        (begun_stands h l.unused head_ok_lem index count h' index' count' begun_so table helper stack cache link ram))
        (long_any ram)

    pub loaded : (k'' : List ℕ → Memory)
        → ((m : State) → Founded m file (started m.ram) → Holds m (k'' m.ram) × Within m.sizes (started m.ram) (k'' m.ram))
        → (ram : List ℕ) → (k'' ram).ram ≡ ram → Loads file (memory h index count table helper stack cache link ram) (k'' ram)
    loaded k'' restored ram same =
        let (H, w) = restored (state_in ram (words_in file)) (founded ram) in
        record {
          bounds = record {
            index = fronted_words (fronted_then index_put (ap (λ (x : Lent). x.index) w.long) w.index);
            count = fronted_words (fronted_then count_put (ap (λ (x : Lent). x.count) w.long) w.count);
            table = fronted_words (fronted_then (same_front _ table) (ap (λ (x : Lent). x.table) w.long) w.table);
            helper = fronted_words (fronted_then (same_front _ helper) (ap (λ (x : Lent). x.helper) w.long) w.helper);
            stack = fronted_words (fronted_then (same_front _ stack) (ap (λ (x : Lent). x.stack) w.long) w.stack);
            cache = fronted_words (fronted_then (same_front _ cache) (ap (λ (x : Lent). x.cache) w.long) w.cache);
            link = fronted_words (fronted_then (same_front _ link) (ap (λ (x : Lent). x.link) w.long) w.link);
            ram = same;
          };
          holds = H;
        }

-- ---- the whole call

module _ (file : List ℕ) (head : Head) (index count table helper stack cache link : List ℕ) (r : Option Head) (told : ContentsAre file r) where
  abbrev before : List ℕ → Memory
  before ram = memory head index count table helper stack cache link ram

  -- whatever RAM there is
  abbrev DidRead : Head → Answer → Type 0
  DidRead h' a = (ram : List ℕ) → Did (read_map file) (before ram) a (memory h' index count table helper stack cache link ram)

  refused_as : (n : ℕ) → ((ram : List ℕ) → Did (read_map file) (before ram) (refused n) (before ram))
      → (h' : Head) (a : Answer) → (h' ≡ head) × (a ≡ refused n) → DidRead h' a
  refused_as n d h' a out ram = rw (out.0, out.1) (d ram)

  pub bad_read : r ≡ None → (h' : Head) (a : Answer) → (h' ≡ head) × (a ≡ refused 12) → DidRead h' a
  bad_read is = refused_as 12 (λ ram. bad_contents file (before ram) (subst (ContentsAre file) is told))

  module _ (next : Head) (is : r ≡ Some next) (number : ℕ) (checked : number ≡ check_of next (table_lengths (before [])) 0 true) where
    sized : ContentsAre file (Some next)
    sized = subst (ContentsAre file) is told

    pub short_read : (number ≡ 0 → ⊥) → (h' : Head) (a : Answer) → (h' ≡ head) × (a ≡ refused number) → DidRead h' a
    short_read fails = refused_as number (λ ram. too_short file (before ram) next sized.0 sized.1 number checked fails)

    module _ (none : number ≡ 0) (fine : Bool) (judged : fine ≡ file_ok file) where
      pub other_read : fine ≡ false → (h' : Head) (a : Answer) → (h' ≡ head) × (a ≡ refused 12) → DidRead h' a
      other_read bad = refused_as 12 (λ ram. not_a_map file (before ram) next sized.0 sized.1 number checked none (sym judged ∙ bad))

      pub can_load : fine ≡ true → Loadable file next index count table helper stack cache link
      can_load ok =
          let t = (ready next (table_lengths (before [])) 0 true (sym checked ∙ none)).lent in
          record {
            whole = sym judged ∙ ok;
            sizes = sized.1;
            unused = record { first = sized.2; many = sized.3; fresh = sized.4 };
            lent = record {
              index = t.index;
              count = t.count;
              table = t.table;
              helper = t.helper;
              stack = t.stack;
              cache = t.cache;
              link = t.link;
              ram = λ e. absurd (false≢true e);
            };
          }

      pub map_read : fine ≡ true → (k' : List ℕ → Memory)
          → ((ram : List ℕ) → Loads file (memory next index count table helper stack cache link ram) (k' ram))
          → (ram : List ℕ) → Did (read_map file) (before ram) done (k' ram)
      map_read ok k' loads ram =
          let l = loads ram in
          restored_did file (before ram) next sized.0 sized.1 number checked none (sym judged ∙ ok) (k' ram)
          (record {
            index = l.bounds.index;
            count = l.bounds.count;
            table = l.bounds.table;
            helper = l.bounds.helper;
            stack = l.bounds.stack;
            cache = l.bounds.cache;
            link = l.bounds.link;
            ram = l.bounds.ram;
          })
          l.holds
