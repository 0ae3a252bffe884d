-- A look keeps the promise.
use Rattle.std.specs.Prelude.{◌≡◌, refl, Bool, true, false, List, ℕ, ◌<◌, leb, ltb, Option, Some, None}
use Rattle.std.proofs.Common.{inl, inr, arith, ltb-true}
use Rattle.layer.specs.declared.Greatest.{Greatest}
use Rattle.machine.specs.Machine.{places, place_of, State, Lent, words_at, page_of, look, look_page}
use Rattle.memory.specs.Memory.{Memory, at, sizes_of}
use Rattle.lookup.specs.declared.Sight.{Sight}
use Rattle.lookup.specs.declared.Sight.TheVariants as sight_is
use Rattle.promise.specs.Shown.{resident_ok}
use Rattle.promise.specs.Did.{Later}
use Rattle.lookup.specs.Models.{sight_mapped, sight_in, sight_by, sight_found, SeenIf, Seen, SeenAt, look_says}
use Rattle.lookup.specs.Lookup.{SightIs}

-- no find shows a frame, and a frame in the table counts below F only
not_found : (lo f : ℕ) (r : Greatest) → sight_is.Mapped f ≡ sight_found lo r → ⊥
not_found lo f r e = by r.place e
  where
    go : (x : Bool) (a : ℕ) → sight_is.Mapped f ≡ sight_in x a r.words → ⊥
    go true a e = let z : ◌≡◌ {A = ℕ} 0 1 = cc in omega arith
    go false a e = let z : ◌≡◌ {A = ℕ} 0 1 = cc in omega arith

    by : (o : Option ℕ) → sight_is.Mapped f ≡ sight_by lo o r.words → ⊥
    by (Some a) e = go (leb lo a) a e
    by None e = let z : ◌≡◌ {A = ℕ} 0 1 = cc in omega arith

-- a page that is seen with a frame passed the test of a resident one, and the frame is the page table's
pub record SeenFrame (x : Bool) (f p : ℕ) (table : List ℕ) (g : ℕ) : Type 0 where
  pub resident : x ≡ true
  pub frame_is : g ≡ at table p
  pub below : g < f

frame_seen : (f t lo p : ℕ) (ws table : List ℕ) (x : Bool) (g : ℕ) → SeenIf x f t lo p ws table (sight_is.Mapped g) → SeenFrame x f p table g
frame_seen f t lo p ws table false g s = absurd (not_found lo g s.found s.seen)
frame_seen f t lo p ws table true g s = go (ltb (at table p) f) refl s
  where
    go : (x : Bool) → ltb (at table p) f ≡ x → sight_is.Mapped g ≡ sight_mapped (at table p) x → SeenFrame true f p table g
    go true l e =
        let same : g ≡ at table p = cc in
        record { resident = refl; frame_is = same; below = omega (arith, ltb-true (at table p) f l) }
    go false l e = absurd (let z : ◌≡◌ {A = ℕ} 0 1 = cc in omega arith)

pub seen_frame : (k : Memory) (i b f : ℕ) → SeenAt k i b (sight_is.Mapped f)
    → let z = sizes_of k.head in
    SeenFrame (resident_ok k.count k.helper k.stack k.cache (places z) (place_of z i b)) z.frames (place_of z i b) k.table f
unfolding Seen
seen_frame k i b f seen =
    let z = sizes_of k.head in
    let p = place_of z i b in
    frame_seen z.frames (places z) (place_of z i 0) p k.index k.table (resident_ok k.count k.helper k.stack k.cache (places z) p) f seen

pub seen_below : (k : Memory) (i b f : ℕ) → SeenAt k i b (sight_is.Mapped f) → f < k.head.frames
seen_below k i b f seen = (seen_frame k i b f seen).below

pub look_later : (k : Memory) (i b : ℕ) (l : Lent) (s : Sight) → SeenAt k i b s → Later (sizes_of k.head) (look i b l) (look_says s)
look_later k i b l (sight_is.Mapped f) seen = (refl, seen_below k i b f seen)
look_later k i b l (sight_is.Unmapped a c) seen = refl
look_later k i b l (sight_is.Outside c) seen = (inl refl, refl)
look_later k i b l sight_is.Broken seen = (inr (inl refl), refl)

-- what is seen is what the machine says
pub look_says_lem : (m : State) (p : ℕ) (s : Sight) → SightIs m p s → look_says s ≡ look_page (words_at m p) (page_of m p)
look_says_lem m p (sight_is.Mapped f) (a, e) = rw e
look_says_lem m p (sight_is.Unmapped a c) (e, w) = rw (e, w)
look_says_lem m p (sight_is.Outside c) (e, w) = rw (e, w)
look_says_lem m p sight_is.Broken bad = absurd bad
