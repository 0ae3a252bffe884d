-- A page's part of a span copied out of the page's frame: these are the span's bytes on honest memory.
use Rattle.std.specs.Prelude.{◌≡◌, refl, List, ℕ, ◌+◌, ◌*◌, ◌/◌, ◌%◌, ◌≤◌, ◌<◌, take, drop, Result, Ok}
use Rattle.std.proofs.Common.{sym, ap, ◌∙◌, subst, add-zero, arith}
use Rattle.std.proofs.Math.Option.{some}
use Rattle.machine.specs.Machine.{Sizes, page_of_address, State, Page, outside, unmapped, mapped, page_of, ram_at, look, asked, absence}
use Rattle.machine.proofs.Laws.Lookup.{is_mapped}
use Rattle.machine.proofs.Laws.Holders.{ram_mapped}
use Rattle.machine.specs.Answers.{looked_says}
use Rattle.machine.specs.declared.Looked.{Looked}
use Rattle.machine.specs.declared.Looked.TheVariants.{Resident}
use Rattle.machine.specs.declared.RefusedAfter.{RefusedAfter}
use Rattle.memory.specs.Memory.{Memory, memory, at, sizes_of, lengths, place_in}
use Rattle.memory.specs.declared.Head.{Head}
use Rattle.promise.specs.Holds.{Holds}
use Rattle.promise.specs.Did.{Later, Did}
use Rattle.laws.specs.Found.{Found, looked_later, address_found, residence}
use Rattle.laws.specs.Parts.{OnResident, CopiedOut, part_bytes}
use Rattle.lookup.specs.Lookup.{table_place}
use Rattle.spans.specs.Parts.{Part}
use Rattle.spans.specs.PartLaws.{part_ends}

-- these are the n bytes from address x of space i on, on every memory with this head, page table and RAM
abbrev pub CopiedBy : Head → List ℕ → List ℕ → ℕ → ℕ → ℕ → List ℕ → Type 0
CopiedBy h table ram i x n bytes =
    (index count helper stack cache link : List ℕ) → CopiedOut (memory h index count table helper stack cache link ram) i x n bytes

-- out of frame f, where the machine has the page in it
copied_from : (k : Memory) (i x n : ℕ) → Part k.head i x n k.ram → (f : ℕ) → f < k.head.frames
    → ((m : State) → Holds m k → OnResident m i x n → ram_at m i x ≡ some (place_in k.head f x)) → (dst : List ℕ)
    → dst ≡ take n (drop (place_in k.head f x) k.ram) → CopiedOut k i x n dst
copied_from k i x n pre f below there dst e m H on =
    e
    ∙ part_bytes m k H i x n (place_in k.head f x) (there m H on) (subst (λ (z : Sizes). x % z.page + n ≤ z.page) H.sizes_are pre.fits)
    (part_ends k.head i x n k.ram pre (place_in k.head f x) (record { frame = f; below = below; is = refl }))

-- a page that isn't absent
found_mapped : (g : Page) → absence g ≡ 0 → (a : ℕ) × (f : ℕ) × (g ≡ mapped a f)
found_mapped outside e = absurd (omega arith)
found_mapped (unmapped a) e = absurd (omega arith)
found_mapped (mapped a f) e = (a, f, refl)

module _ (h : Head) (i x n : ℕ) (table ram : List ℕ) (pre : Part h i x n ram) where
  -- where the part's first byte is on honest memory
  placed : (index count helper stack cache link : List ℕ) (m : State) → Holds m (memory h index count table helper stack cache link ram) → OnResident m i x n
      → let g = at table (page_of_address (sizes_of h) i x) in
      (g < h.frames) × (ram_at m i x ≡ some (place_in h g x))
  placed index count helper stack cache link m H on =
      let here = subst (λ (y : ℕ). absence (page_of m (page_of_address m.sizes i y)) ≡ 0) (add-zero x) (on 0 pre.some_bytes) in
      let (a, f, is) = found_mapped (page_of m (page_of_address m.sizes i x)) here in
      table_place m (memory h index count table helper stack cache link ram) H i x a f (is_mapped m _ a f is)

  -- a frame beyond the last doesn't occur there
  pub none_copied : h.frames ≤ at table (page_of_address (sizes_of h) i x) → (dst : List ℕ) → CopiedBy h table ram i x n dst
  none_copied high dst index count helper stack cache link m H on = absurd (omega (arith, (placed index count helper stack cache link m H on).0))

  pub frame_copied : (f : ℕ) → f ≡ at table (page_of_address (sizes_of h) i x) → f < h.frames → (dst : List ℕ) → dst ≡ take n (drop (place_in h f x) ram)
      → CopiedBy h table ram i x n dst
  frame_copied f is below dst e index count helper stack cache link =
      copied_from (memory h index count table helper stack cache link ram) i x n pre f below
      (λ m H on. (placed index count helper stack cache link m H on).1 ∙ ap (λ (g : ℕ). some (place_in h g x)) (sym is)) dst e

-- out of the frame that a look answered
module _ (k : Memory) (i x n : ℕ) (pre : Part k.head i x n k.ram) (b f : ℕ) (page_is : b ≡ x / (sizes_of k.head).page) (found : Result Looked RefusedAfter)
    (resident : found ≡ Ok (Resident f)) (passes : asked (sizes_of k.head) (look i b (lengths k)) ≡ 0) (looked : Did (look i b) k (looked_says found) k) where
  pub looked_low : f < k.head.frames
  looked_low =
      let later : Later (sizes_of k.head) (look i b (lengths k)) (looked_says (Ok (Resident f))) = rw resident at (looked_later i b k _ passes looked) in
      later.1

  pub looked_copied : (dst : List ℕ) → dst ≡ take n (drop (place_in k.head f x) k.ram) → CopiedOut k i x n dst
  looked_copied = copied_from k i x n pre f looked_low (λ m H _. at_frame m H)
    where
      at_frame : (m : State) → Holds m k → ram_at m i x ≡ some (place_in k.head f x)
      at_frame m H =
          let there : Found m (page_of_address m.sizes i x) (Ok (Resident f)) =
          rw resident at (address_found m k H i x (rw page_is at passes) found (rw page_is at looked)) in
          let r = residence m (page_of_address m.sizes i x) f there in
          ram_mapped m i x r.start f (is_mapped m (page_of_address m.sizes i x) r.start f r.is)
          ∙ ap (λ (z : Sizes). some (f * z.page + x % z.page)) (sym H.sizes_are)
