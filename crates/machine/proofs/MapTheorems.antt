-- What a reader takes of the map file: reading accepts exactly the words of sound states, and tells each file's one state; and what its contents tell alone.
use Rattle.std.specs.Prelude.{◌≡◌, refl, Bool, true, false, cond, ◌&&◌, List, ◌++◌, ℕ, ◌*◌, ◌/◌, ◌%◌, ◌≤◌, ◌<◌, eqb, length, take}
use Rattle.std.proofs.Common.{sym, ap, ap₂, ◌∙◌, subst, arith, eq-eqb, eqb-true, le-leb}
use Rattle.std.proofs.Math.Option.{none, some, none-ne-some, some-injective}
use Rattle.sequence.specs.Lists.{Each}
use Rattle.words.specs.Words.{bytes_of, words_in}
use Rattle.words.specs.Laws.{words_bytes, bytes_words, length_bytes, length_words}
use Rattle.machine.specs.State.{State, with_ram}
use Rattle.machine.specs.Machine.{pages}
use Rattle.machine.specs.Claims.{Sound, Described, resident_in}
use Rattle.machine.specs.Map.{space_part, pool_part, map_words, map_of, sizes_in, part_in, blocks_in, state_in}
use Rattle.machine.specs.MapRules.{entries_of, space_in, pool_in, parts_in, rules_ok, restored, contents_words, contents_whole, contents_ok, file_ok, described}
use Rattle.machine.specs.Fullness.{fullness_of}
use Rattle.machine.proofs.Laws.Sizes.{both}
use Rattle.machine.proofs.Laws.Records.{listed_in}
use Rattle.machine.proofs.Laws.Map.Contents.{parts_many, contents_fit}
use Rattle.machine.proofs.Laws.Map.Rules.{rules_of}
use Rattle.machine.proofs.Laws.Map.Back.{state_back}
use Rattle.machine.proofs.Laws.Map.Keeps.{sound_rules}
use Rattle.machine.proofs.Laws.Map.Exact.{read_write}
use Rattle.machine.proofs.Laws.Map.Sounds.{rules_sound}
use Rattle.machine.proofs.Laws.Map.Length.{part_listed}
use Rattle.machine.proofs.Laws.Map.Fullness.{space_told, rest_unread, cut_unread}

-- ---- words

-- the words ws describe the state m
pub record Describes (ram ws : List ℕ) (m : State) : Type 0 where
  pub sound : Sound m
  pub ram_is : m.ram ≡ ram
  pub words_are : map_words m ≡ ws

-- what is accepted keeps the rules, and is the state that the words tell of
accepted : (ram ws : List ℕ) (m : State) → restored ram ws ≡ some m → (rules_ok ws ≡ true) × (state_in ram ws ≡ m)
accepted ram ws m e = go (rules_ok ws) refl e
  where
    go : (t : Bool) → rules_ok ws ≡ t → cond t (some (state_in ram ws)) none ≡ some m → (rules_ok ws ≡ true) × (state_in ram ws ≡ m)
    go true h f = (h, some-injective (state_in ram ws) m f)
    go false h f = absurd (none-ne-some m f)

module _ (ram ws : List ℕ) where
  -- what is read is described: "every rule of the plain machine holds, each frame stands once and no page twice"
  pub reads_described : (m : State) → restored ram ws ≡ some m → Describes ram ws m
  reads_described m e =
      let (h, is) = accepted ram ws m e in
      let r = rules_of ws h in
      subst (λ (x : State). Describes ram ws x) is (record { sound = rules_sound ram ws r; ram_is = refl; words_are = read_write ram ws r })

  -- what is described is read, also of a state that no calls lead to
  pub described_reads : (m : State) → Describes ram ws m → restored ram ws ≡ some m
  described_reads m d =
      ap₂ restored (sym d.ram_is) (sym d.words_are)
      ∙ ap (λ (t : Bool). cond t (some (state_in m.ram (map_words m))) none) (sound_rules m d.sound)
      ∙ ap some (state_back m d.sound)

  -- words describe one state at most
  pub described_once : (m m' : State) → Describes ram ws m → Describes ram ws m' → m ≡ m'
  described_once m m' d d' = some-injective m m' (sym (described_reads m d) ∙ described_reads m' d')

pub write_read : (m : State) → Sound m → restored m.ram (map_words m) ≡ some m
write_read m s = described_reads m.ram (map_words m) m (record { sound = s; ram_is = refl; words_are = refl })

-- ---- bytes

by_words : (ram file : List ℕ) → described ram file ≡ cond (eqb (length file % 4) 0) (restored ram (words_in file)) none
by_words ram file = go (eqb (length file % 4) 0) (rules_ok (words_in file))
  where
    go : (t u : Bool) → cond (t && u) (some (state_in ram (words_in file))) none ≡ cond t (cond u (some (state_in ram (words_in file))) none) none
    go true u = refl
    go false u = refl

-- a file that is accepted has whole words, and they are accepted
whole_words : (ram file : List ℕ) (m : State) → described ram file ≡ some m → (length file % 4 ≡ 0) × (restored ram (words_in file) ≡ some m)
whole_words ram file m e = go (eqb (length file % 4) 0) refl (sym (by_words ram file) ∙ e)
  where
    go : (t : Bool) → eqb (length file % 4) 0 ≡ t → cond t (restored ram (words_in file)) none ≡ some m
        → (length file % 4 ≡ 0) × (restored ram (words_in file) ≡ some m)
    go true h f = (eqb-true (length file % 4) 0 h, f)
    go false h f = absurd (none-ne-some m f)

module _ (ram file : List ℕ) where
  pub file_described : (m : State) → Each 0 (λ b. b < 256) file → described ram file ≡ some m → Described file ram m
  file_described m bytes e =
      let (whole, f) = whole_words ram file m e in
      let d = reads_described ram (words_in file) m f in
      record { sound = d.sound; ram_is = d.ram_is; file_is = ap bytes_of d.words_are ∙ bytes_words file whole bytes }

  pub described_file : (m : State) → Described file ram m → described ram file ≡ some m
  described_file m d =
      let long : length (map_of m) % 4 ≡ 0 = omega (arith, length_bytes (map_words m)) in
      ap (described ram) (sym d.file_is)
      ∙ by_words ram (map_of m)
      ∙ ap (λ (t : Bool). cond t (restored ram (words_in (map_of m))) none) (eq-eqb (length (map_of m) % 4) 0 long)
      ∙ ap (restored ram) (words_bytes (map_words m))
      ∙ described_reads ram (map_words m) m (record { sound = d.sound; ram_is = d.ram_is; words_are = refl })

  -- a file describes one state at most
  pub file_once : (m m' : State) → Described file ram m → Described file ram m' → m ≡ m'
  file_once m m' d d' = some-injective m m' (sym (described_file m d) ∙ described_file m' d')

  -- "read then write the same bytes"
  pub read_then_write : (m : State) → Each 0 (λ b. b < 256) file → described ram file ≡ some m → map_of m ≡ file
  read_then_write m bytes e = (file_described m bytes e).file_is

  -- whatever the bytes, what is accepted is sound
  pub described_sound : (m : State) → described ram file ≡ some m → Sound m
  described_sound m e = (reads_described ram (words_in file) m (whole_words ram file m e).1).sound

  pub described_sizes : (m : State) → described ram file ≡ some m → m.sizes ≡ sizes_in (words_in file)
  described_sizes m e = sym (ap (λ (x : State). x.sizes) (accepted ram (words_in file) m (whole_words ram file m e).1).1)

  -- ---- the RAM doesn't matter to what is accepted

  module _ (ram' : List ℕ) where
    pub described_ram : (m : State) → described ram file ≡ some m → described ram' file ≡ some (with_ram m ram')
    described_ram m e =
        let (whole, f) = whole_words ram file m e in
        let (h, is) = accepted ram (words_in file) m f in
        by_words ram' file
        ∙ ap (λ (t : Bool). cond t (restored ram' (words_in file)) none) (eq-eqb (length file % 4) 0 whole)
        ∙ ap (λ (t : Bool). cond t (some (state_in ram' (words_in file))) none) h
        ∙ ap (λ (x : State). some (with_ram x ram')) is

    pub refused_ram : described ram file ≡ none → described ram' file ≡ none
    refused_ram e = go (file_ok file) e
      where
        go : (t : Bool) → cond t (some (state_in ram (words_in file))) none ≡ none → cond t (some (state_in ram' (words_in file))) none ≡ none
        go true f = absurd (none-ne-some (state_in ram (words_in file)) (sym f))
        go false f = refl

-- "Write then read gives the same state"
pub write_then_read : (m : State) → Sound m → described m.ram (map_of m) ≡ some m
write_then_read m s = described_file m.ram (map_of m) m (record { sound = s; ram_is = refl; file_is = refl })

-- ---- how long a file is

-- words that keep the rules have all of the contents
pub contents_needed : (file : List ℕ) → rules_ok (words_in file) ≡ true → 4 * contents_words (words_in file) ≤ length file
contents_needed file h =
    let ws = words_in file in
    let fits = contents_fit (sizes_in ws) (parts_in ws) (parts_many (space_in ws) (sizes_in ws).spaces (pool_in ws)) in
    omega (arith, fits, ap (λ (xs : List ℕ). length xs) (rules_of ws h).contents, length_words (length file / 4) file refl)

-- a map has sound contents
pub file_contents : (file : List ℕ) → file_ok file ≡ true → contents_ok file ≡ true
file_contents file h =
    let rules = (both (eqb (length file % 4) 0) _ h).1 in
    rw ((rules_of (words_in file) rules).sizes_ok_lem, le-leb _ (length file) (contents_needed file rules))

-- a file that is accepted is a map
pub described_ok : (ram file : List ℕ) (m : State) → described ram file ≡ some m → file_ok file ≡ true
described_ok ram file m e = go (file_ok file) refl e
  where
    go : (t : Bool) → file_ok file ≡ t → cond t (some (state_in ram (words_in file))) none ≡ some m → file_ok file ≡ true
    go true h f = h
    go false h f = absurd (none-ne-some m f)

-- ---- W-203: how full a space is, from the contents alone

-- "for any file W-202's reading accepts, the number of pairs in that space's body"
pub fullness_pairs : (file : List ℕ) → file_ok file ≡ true → (i : ℕ) → i < (sizes_in (words_in file)).spaces
    → fullness_of file i ≡ pages (length (entries_of (blocks_in (part_in (words_in file) i))))
fullness_pairs file h i below =
    let ws = words_in file in
    let r = rules_of ws (both (eqb (length file % 4) 0) _ h).1 in
    space_told file (sizes_in ws) (space_in ws) (pool_in ws) r.sizes_ok_lem (sym r.contents) i below

-- the resident pages of the space in the state whose map it is
pub fullness_resident : (file ram : List ℕ) (m : State) → Described file ram m → (i : ℕ) → i < m.sizes.spaces
    → fullness_of file i ≡ pages (resident_in m i)
fullness_resident file ram m d i below =
    let words : words_in file ≡ map_words m = ap words_in (sym d.file_is) ∙ words_bytes (map_words m) in
    space_told file m.sizes (space_part m) (pool_part m) d.sound.sizes_ok_lem words i below
    ∙ ap pages (part_listed m i ∙ listed_in m d.sound i)

-- "From them alone": whatever follows whole contents, and if nothing does
pub fullness_alone : (contents rest : List ℕ) → contents_whole contents ≡ true → (i : ℕ) → fullness_of (contents ++ rest) i ≡ fullness_of contents i
fullness_alone = rest_unread

-- and a file cut behind its contents tells the same
pub fullness_cut : (file : List ℕ) → contents_whole file ≡ true → (n : ℕ) → 4 * contents_words (words_in file) ≤ n → (i : ℕ)
    → fullness_of (take n file) i ≡ fullness_of file i
fullness_cut = cut_unread
