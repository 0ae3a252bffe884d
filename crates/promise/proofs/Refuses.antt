-- Wrong behaviours that the promise refuses, on any memory. A promise that allows one of them breaks a law here.
use Rattle.std.specs.Prelude.{◌≡◌, refl, Bool, true, false, ◌≢◌, ◌⊎◌, ℕ, zero, suc, ◌+◌, ◌*◌, ◌/◌, ◌≤◌, ◌<◌, length, get_or, drop as dropped}
use Rattle.std.proofs.Common.{sym, ap, ◌∙◌, subst, inl, inr, arith}
use mathlib.Core.List.{List, [], ◌∷◌, Memᴰ}
use Rattle.sequence.specs.Lists.{Each, Changed}
use Rattle.sequence.specs.Changes.{changed_zero, changed_then, changed_more}
use Rattle.machine.specs.Machine.{Sizes, place_of, State, begun, span_pages, Lent, Call, start, mark, touch, look, release, write, facts, asked, answer, after}
use Rattle.machine.specs.Machine.{refusal}
use Rattle.machine.specs.Machine.{Kind, ended, touched, looked, released, counted, translated, copied, listed, refusal_of, Answer, done, old, new, resident}
use Rattle.machine.specs.Machine.{absent, pages, frames, at, bytes, regions, refused, refused_after, Effect, unchanged, prepared, refilled, start_put}
use Rattle.machine.specs.Machine.{places, write_map, read_map, lends, every_table, lent_ok, first_refusal, file_first}
use Rattle.machine.specs.Machine.{page_mapped, map_written, map_file, region_emptied, page_given_back, span_stored, zeroed, give_back, handed, given_back}
use Rattle.words.specs.Words.{words_in}
use Rattle.machine.specs.Map.{sizes_in}
use Rattle.machine.specs.MapRules.{contents_ok, file_ok}
use Rattle.machine.proofs.Laws.Zeroed.{length_zeroed, zeroed_beyond}
use Rattle.machine.specs.Claims.{PlaceOf}
use Rattle.memory.specs.Memory.{Memory, memory, with_bytes, sizes_of, place_by, lengths}
use Rattle.promise.specs.Holds.{Holds}
use Rattle.promise.specs.Shown.{Shown, AllShown}
use Rattle.promise.specs.Did.{Among, Later, Exactly, still, Words, frames_left, Maps, zeroed_all, FrameOf, Fills, BoundsBy, Did, Writes}

-- the number that document 01's checks for 1 to 3 ask for
abbrev check : (Lent → Call) → Memory → ℕ
check c k = asked (sizes_of k.head) (c (lengths k))

-- of the RAM, the bytes past the frames
abbrev beyond : Memory → List ℕ → List ℕ
beyond k ram = dropped ((sizes_of k.head).frames * (sizes_of k.head).page) ram

-- ---- the answer

-- what a call of kind q may answer, of any number: an answer of its kind, about frames and bytes that there are
abbrev pub Own : Sizes → Kind → Answer → Type 0
Own z q done = q ≡ ended
Own z q (old f) = (q ≡ touched) × (f < z.frames)
Own z q (new f w) = (q ≡ touched) × (f < z.frames)
Own z q (resident f) = (q ≡ looked) × (f < z.frames)
Own z q (absent w) = q ≡ looked
Own z q (pages n) = q ≡ released
Own z q (frames n) = (q ≡ counted) × (n ≤ z.frames)
Own z q (at p) = (q ≡ translated) × (p < z.frames * z.page)
Own z q (bytes vs) = q ≡ copied
Own z q (regions rs) = q ≡ listed
Own z q (map_file vs) = q ≡ map_written
Own z q handed = q ≡ given_back
Own z q (refused n) = refusal_of q n ≡ refused n
Own z q (refused_after n w) = refusal_of q n ≡ refused_after n 0

own_refusal : (z : Sizes) (q : Kind) (n : ℕ) → Own z q (refusal_of q n) × (still (refusal_of q n) ≡ true)
own_refusal z ended n = (refl, refl)
own_refusal z touched n = (refl, refl)
own_refusal z looked n = (refl, refl)
own_refusal z released n = (refl, refl)
own_refusal z counted n = (refl, refl)
own_refusal z translated n = (refl, refl)
own_refusal z copied n = (refl, refl)
own_refusal z listed n = (refl, refl)
own_refusal z map_written n = (refl, refl)
own_refusal z given_back n = (refl, refl)

own_later : (z : Sizes) (c : Call) (a : Answer) → Later z c a → Own z (facts c).kind a
own_later z c done l = l
own_later z c (old f) l = l
own_later z c (new f w) l = l
own_later z c (resident f) l = l
own_later z c (absent w) l = l
own_later z c (pages n) l = l
own_later z c (frames n) l = l
own_later z c (at p) l = l
own_later z c (bytes vs) l = l
own_later z c (regions rs) l = l
own_later z c (map_file vs) l = l
own_later z c handed l = l
own_later z c (refused n) l = l.1
own_later z c (refused_after n w) l = l.1

own_exactly : (n : ℕ) (z : Sizes) (c : Call) (a : Answer) → Exactly n z c a → Own z (facts c).kind a
own_exactly zero z c a x = own_later z c a x
own_exactly (suc n) z c a x = subst (Own z (facts c).kind) (sym x) (own_refusal z (facts c).kind (suc n)).0

member : (ns : List ℕ) (n : ℕ) → Among ns n → Memᴰ n ns
member [] n x = absurd x
member (m ∷ ns) n (inl e) = Memᴰ.head e
member (m ∷ ns) n (inr x) = Memᴰ.tail (member ns n x)

-- ---- the memory

-- k' where a call may change it, and else k
abbrev pub within : Effect → Memory → Memory → Memory
within unchanged k k' = k
within (prepared z) k k' = memory k'.head k'.index k'.count k.table k.helper k.stack k.cache k.link k.ram
within (refilled z) k k' = memory k'.head k'.index k'.count k'.table k'.helper k'.stack k'.cache k'.link k.ram
within (start_put i b) k k' = memory k.head k'.index k.count k.table k.helper k.stack k.cache k.link k.ram
within (page_mapped i b) k k' = memory k'.head k.index k'.count k'.table k'.helper k'.stack k'.cache k'.link k'.ram
within (region_emptied i b) k k' = memory k'.head k.index k'.count k.table k.helper k.stack k.cache k'.link k.ram
within (page_given_back i b) k k' = memory k'.head k.index k'.count k.table k'.helper k'.stack k.cache k'.link k.ram
within (span_stored i x vs) k k' = memory k'.head k.index k'.count k'.table k'.helper k'.stack k'.cache k'.link k'.ram

-- 0 words that changed are none
pub words_same : {n t : ℕ} {ws ws' : List ℕ} → n ≡ 0 → Words n t ws ws' → ws' ≡ ws
words_same {n} {t} {ws} {ws'} e w = changed_zero (subst (λ m. Changed m ws ws') e w.few)

-- one change after another
pub words_then : {a b n : ℕ} {ws vs us : List ℕ} → Words a n ws vs → Words b n vs us → Words (a + b) n ws us
words_then w v = record { few = changed_then w.few v.few; excess = v.excess ∙ w.excess }

within_by : (e : Effect) (n : ℕ) (k k' : Memory) → BoundsBy e n k k' → k' ≡ within e k k'
within_by unchanged n k k' b = b
within_by (prepared z) n k k' b = λ j. memory k'.head k'.index k'.count (b.table j) (b.helper j) (b.stack j) (b.cache j) (b.link j) (b.ram j)
within_by (refilled z) n k k' b = λ j.
    memory k'.head k'.index k'.count k'.table k'.helper k'.stack k'.cache k'.link (b.ram j)
within_by (start_put i p) n k k' b = let w = b.words in let e = refl in λ j.
    memory (b.head j) k'.index (words_same e w.count j) (words_same e w.table j) (words_same e w.helper j) (words_same e w.stack j)
    (words_same e w.cache j)
    (words_same e w.link j) (w.ram j)
within_by (page_mapped i p) n k k' b = λ j.
    memory k'.head (b.maps.index j) k'.count k'.table k'.helper k'.stack k'.cache k'.link k'.ram
within_by (region_emptied i p) n k k' b = let e = refl in λ j.
    memory k'.head (words_same e b.index j) k'.count (words_same e b.table j) (words_same e b.helper j) (words_same e b.stack j)
    (words_same e b.cache j) k'.link
    (b.ram j)
within_by (page_given_back i p) n k k' b = let w = b.words in let e = refl in λ j.
    memory k'.head (words_same e w.index j) k'.count (words_same e w.table j) k'.helper k'.stack (words_same e w.cache j) k'.link
    (w.ram j)
within_by (span_stored i x vs) n k k' b = λ j.
    memory k'.head (b.maps.index j) k'.count k'.table k'.helper k'.stack k'.cache k'.link k'.ram

-- ---- frames cleared

pub zeroed_all_long : (z : Sizes) (fs ram : List ℕ) → length (zeroed_all z fs ram) ≡ length ram
zeroed_all_long z [] ram = refl
zeroed_all_long z (f ∷ fs) ram = zeroed_all_long z fs (zeroed z f ram) ∙ length_zeroed z f ram

-- of no pages none
none_filled : {z : Sizes} {c n : ℕ} {F P : ℕ → Type 0} {ram ram' : List ℕ} → (w : Fills z c n F P ram ram') → c ≡ 0
    → Words n (z.frames * z.page) ram ram'
none_filled {z} {c} {n} {F} {P} {ram} {ram'} w e = go w.frames (w.one_each ∙ e) w.stored
  where
    go : (fs : List ℕ) → length fs ≡ 0 → Words n (z.frames * z.page) (zeroed_all z fs ram) ram' → Words n (z.frames * z.page) ram ram'
    go [] l s = s
    go (f ∷ fs) l s = absurd (omega arith)

-- the bytes past the frames stay
zeroed_all_beyond : (z : Sizes) (fs ram : List ℕ) → Each 0 (λ f. f < z.frames) fs
    → dropped (z.frames * z.page) (zeroed_all z fs ram) ≡ dropped (z.frames * z.page) ram
zeroed_all_beyond z [] ram below = refl
zeroed_all_beyond z (f ∷ fs) ram below =
    zeroed_all_beyond z fs (zeroed z f ram) (λ j l. below (suc j) (omega arith)) ∙ zeroed_beyond z f ram (below 0 (omega arith))

fills_beyond : {z : Sizes} {c n : ℕ} {F P : ℕ → Type 0} {ram ram' : List ℕ} → Fills z c n F P ram ram'
    → dropped (z.frames * z.page) ram' ≡ dropped (z.frames * z.page) ram
fills_beyond {z} {c} {n} {F} {P} {ram} w = w.stored.excess ∙ zeroed_all_beyond z w.frames ram w.below

-- where no page is mapped only the RAM changes
only_ram : (z : Sizes) (i b n : ℕ) (k k' : Memory) (w : Maps z i b n k k') → w.mapped ≡ 0 → k' ≡ with_bytes k k'.ram
only_ram z i b n k k' w e = λ j.
    memory (w.none e j) (w.index j) (words_same e w.count j) (words_same e w.table j) (words_same e w.helper j) (words_same e w.stack j)
    (words_same e w.cache j)
    (words_same e w.link j) k'.ram

-- and where no byte is stored either nothing
none_written : {z : Sizes} {i b c : ℕ} {P : ℕ → Type 0} {k k' : Memory} → (w : Writes z i b c 0 P k k') → w.maps.mapped ≡ 0 → k' ≡ k
none_written {z} {i} {b} {c} {P} {k} {k'} w e = only_ram z i b c k k' w.maps e ∙ ap (with_bytes k) (words_same refl (none_filled w.fills e))

-- ---- any call

module _ (c : Lent → Call) (k : Memory) (a : Answer) (k' : Memory) (d : Did c k a k') where
  -- no call answers as another kind does, names a frame or a place that there isn't, or tells index words with a refusal that has none
  pub own_answer : Own (sizes_of k.head) (facts (c (lengths k))).kind a
  own_answer = own_exactly (check c k) _ _ a d.asks

  -- what the check refuses, a start too, is refused with that number and no words, and changes nothing
  pub refused_early : (n : ℕ) → check c k ≡ suc n → (a ≡ refusal (c (lengths k)) (suc n)) × (k' ≡ k)
  refused_early n e =
      let x : a ≡ refusal (c (lengths k)) (suc n) = subst (λ m. Exactly m (sizes_of k.head) (c (lengths k)) a) e d.asks in
      (x, d.stays (ap still x ∙ (own_refusal (sizes_of k.head) (facts (c (lengths k))).kind (suc n)).1))

  -- no buffer changes but those of the table "What a call may change": none where it only asks, and the RAM under touch and write alone
  pub others_keep : k' ≡ within (facts (c (lengths k))).change k k'
  others_keep = within_by (facts (c (lengths k))).change (check c k) k k' d.bounds

  -- on memory that stands for a machine no answer but the machine's, and no memory after but one that stands for the machine's
  pub follows : (m : State) → Holds m k → (a ≡ answer m (c (lengths k))) × Holds (after m (c (lengths k))) k'
  follows m h = ((d.honest m h).answer_is, (d.honest m h).holds)

module _ (c : Lent → Call) (k k' : Memory) where
  -- a call that passes the check is refused with none but its own numbers
  pub refused_number : (n : ℕ) → check c k ≡ 0 → Did c k (refused n) k' → Memᴰ n (facts (c (lengths k))).refusals
  refused_number n e d = member _ n (subst (λ m. Exactly m (sizes_of k.head) (c (lengths k)) (refused n)) e d.asks).0

  pub refused_after_number : (n w : ℕ) → check c k ≡ 0 → Did c k (refused_after n w) k' → Memᴰ n (facts (c (lengths k))).refusals
  refused_after_number n w e d = member _ n (subst (λ m. Exactly m (sizes_of k.head) (c (lengths k)) (refused_after n w)) e d.asks).0

  -- refusals change nothing, nor does a touch of a resident page or a release of an empty region
  pub refused_keeps : (n : ℕ) → Did c k (refused n) k' → k' ≡ k
  refused_keeps n d = d.stays refl

  pub refused_after_keeps : (n w : ℕ) → Did c k (refused_after n w) k' → k' ≡ k
  refused_after_keeps n w d = d.stays refl

  pub old_keeps : (f : ℕ) → Did c k (old f) k' → k' ≡ k
  old_keeps f d = d.stays refl

  pub none_released_keeps : Did c k (pages 0) k' → k' ≡ k
  none_released_keeps d = d.stays refl

-- ---- one call

-- a start that passes the check is done, and the memory stands for the state begun
pub start_begins : (z : Sizes) (k : Memory) (a : Answer) (k' : Memory) → check (start z) k ≡ 0 → Did (start z) k a k'
    → (a ≡ done) × Holds (begun z k.ram) k'
start_begins z k a k' e d = d.begins e

module _ (i b : ℕ) (k : Memory) (a : Answer) (k' : Memory) where
  -- a look doesn't answer like a translate, a touch fills no buffer
  pub look_no_place : (p : ℕ) → Did (look i b) k (at p) k' → ⊥
  look_no_place p d = let e = (own_answer (look i b) k (at p) k' d).0 in let z : ◌≡◌ {A = ℕ} 0 1 = cc in omega arith

  pub touch_no_bytes : (vs : List ℕ) → Did (touch i b) k (bytes vs) k' → ⊥
  touch_no_bytes vs d = let e = own_answer (touch i b) k (bytes vs) k' d in let z : ◌≡◌ {A = ℕ} 0 1 = cc in omega arith

  -- "three index words"; "two table words (a resident count, a frame link)"
  pub mark_few : Did (mark i b) k a k' → Changed 3 k.index k'.index
  mark_few d = d.bounds.words.index.few

  pub release_few : Did (release i b) k a k' → Changed 1 k.count k'.count × Changed 1 k.link k'.link
  release_few d = (d.bounds.count.few, d.bounds.link.few)

  -- W-205: "At most six table words and the head change"; no frame is lost, and one more at most is free
  pub give_few : Did (give_back i b) k a k'
      → Changed 1 k.count k'.count × Changed 1 k.helper k'.helper × Changed 1 k.stack k'.stack × Changed 3 k.link k'.link
  give_few d =
      let g = d.bounds in
      let w = g.words in
      let few = g.few in (
        changed_more few w.count.few,
        changed_more few w.helper.few,
        changed_more few w.stack.few,
        changed_more (omega (arith, few)) w.link.few,
      )

  pub give_told : Did (give_back i b) k handed k' → frames_left k'.head ≡ frames_left k.head + 1
  give_told d = d.gives refl

  pub give_one : Did (give_back i b) k a k' → (n : ℕ) × (n ≤ 1) × (frames_left k'.head ≡ frames_left k.head + n)
  give_one d = (d.bounds.given, d.bounds.few, d.bounds.back)

  -- the page table changes at the page's own place only
  pub touch_table : Did (touch i b) k a k' → (p : ℕ) → p ≢ place_of (sizes_of k.head) i b → get_or k'.table p 0 ≡ get_or k.table p 0
  touch_table d p other = d.bounds.maps.others p (λ j l e. other (omega arith))

  -- it clears the frame that it takes, which the page table then has for the page, and no other byte changes
  pub touch_clears : Did (touch i b) k a k' → (fs : List ℕ) × (length fs ≤ 1) × (frames_left k.head ≡ frames_left k'.head + length fs)
      × Each 0 (FrameOf (sizes_of k.head) i b 1 k'.table) fs × (k'.ram ≡ zeroed_all (sizes_of k.head) fs k.ram)
  touch_clears d =
      let w = d.bounds in
      let e = w.fills.one_each in
      (w.fills.frames, omega (arith, w.maps.few), omega (arith, w.maps.taken), w.fills.own, words_same refl w.fills.stored)

  -- a page that is told to be new has the frame that is told, cleared
  pub touch_new_lem : (f w : ℕ) → Did (touch i b) k (new f w) k'
      → (frames_left k.head ≡ frames_left k'.head + 1) × (get_or k'.table (place_of (sizes_of k.head) i b) 0 ≡ f)
      × (k'.ram ≡ zeroed (sizes_of k.head) f k.ram)
  touch_new_lem f w d = d.tells f w refl

  -- a touch takes one frame at most and gives none, and where the tables show the page all stays
  pub touch_takes_one : Did (touch i b) k a k' → (n : ℕ) × (n ≤ 1) × (frames_left k.head ≡ frames_left k'.head + n)
  touch_takes_one d = let (fs, few, taken, _, _) = touch_clears d in (length fs, few, taken)

  pub touch_shown : Shown k i b → Did (touch i b) k a k' → k' ≡ k
  touch_shown s d = none_written d.bounds (d.bounds.maps.shown (λ j l. subst (Shown k i) (omega arith) s))

module _ (i x : ℕ) (k : Memory) (a : Answer) (k' : Memory) where
  -- a write clears a frame for each that it takes, stores no more than its bytes, none past the frames; each frame and each place is the span's by the
  -- page table that it leaves
  pub write_few : (vs : List ℕ) → Did (write i x vs) k a k'
      → (fs : List ℕ) × (frames_left k.head ≡ frames_left k'.head + length fs)
      × Changed (length vs) (zeroed_all (sizes_of k.head) fs k.ram) k'.ram × (beyond k k'.ram ≡ beyond k k.ram)
      × Each 0 (FrameOf (sizes_of k.head) i (x / (sizes_of k.head).page) (span_pages (sizes_of k.head) x (length vs)) k'.table) fs
      × ((p : ℕ) → (PlaceOf (place_by k'.head i k'.table) x (length vs) p → ⊥) → get_or k'.ram p 0 ≡ get_or (zeroed_all (sizes_of k.head) fs k.ram) p 0)
  write_few vs d =
      let w = d.bounds in
      let f = w.fills in
      (f.frames, omega (arith, w.maps.taken, f.one_each), f.stored.few, fills_beyond f, f.own, f.others)

  -- where the tables show every page of the span it changes the RAM alone, of that its bytes
  pub write_shown : (vs : List ℕ) → AllShown k i (x / (sizes_of k.head).page) (span_pages (sizes_of k.head) x (length vs)) → Did (write i x vs) k a k'
      → (k' ≡ with_bytes k k'.ram) × Changed (length vs) k.ram k'.ram
  write_shown vs s d = let w = d.bounds.maps in (only_ram _ i _ _ k k' w (w.shown s), (none_filled d.bounds.fills (w.shown s)).few)

  -- an empty one changes nothing
  pub write_empty : Did (write i x []) k a k' → k' ≡ k
  write_empty d = none_written d.bounds (omega (arith, d.bounds.maps.few))

-- ---- W-202

module _ (k : Memory) (a : Answer) (k' : Memory) where
  -- writing a map changes nothing of the memory
  pub map_keeps : (room : ℕ) → Did (write_map room) k a k' → k' ≡ k
  map_keeps room d = d.bounds

  module _ (file : List ℕ) (d : Did (read_map file) k a k') where
    -- reading one leaves the RAM, and of the tables what lies past the file's sizes
    pub reading_keeps_ram : k'.ram ≡ k.ram
    reading_keeps_ram = d.bounds.ram

    pub reading_keeps_excess : let z = sizes_in (words_in file) in
        (dropped (places z) k'.table ≡ dropped (places z) k.table) × (dropped z.frames k'.link ≡ dropped z.frames k.link)
    reading_keeps_excess = (d.bounds.table.excess, d.bounds.link.excess)

    -- a file that is no map is refused with 12, or before that with 1, and changes nothing
    pub no_map_refused : file_ok file ≡ false → ((a ≡ refused 12) ⊎ (a ≡ refused 1)) × (k' ≡ k)
    unfolding asked
    no_map_refused bad = go (contents_ok file) (lent_ok (sizes_in (words_in file)) (lends every_table (lengths k))) (rw bad at d.asks)
      where
        stays : (n : ℕ) → a ≡ refused n → k' ≡ k
        stays n e = d.stays (ap still e)

        go : (c b : Bool) → Exactly (file_first c false (first_refusal b true true)) (sizes_of k.head) (read_map file (lengths k)) a
            → ((a ≡ refused 12) ⊎ (a ≡ refused 1)) × (k' ≡ k)
        go false b x = (inl x, stays 12 x)
        go true false x = (inr x, stays 1 x)
        go true true x = (inl x, stays 12 x)
