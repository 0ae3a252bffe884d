-- A translate keeps the promise: one that its check refuses, and one that builds on a look.
use Rattle.std.specs.Prelude.{Result, Ok, Err}
use Rattle.refusals.specs.Refusals.{number, refusal}
use Rattle.refusals.specs.declared.Refusal.{Refusal}
use Rattle.spans.specs.Spans.{frame_seen}
use Rattle.machine.specs.declared.RefusedAfter.{RefusedAfter}
use Rattle.std.specs.Prelude.{◌≡◌, refl, ℕ, ◌+◌, ◌*◌, ◌/◌, ◌%◌, ◌≤◌, ◌<◌}
use Rattle.std.proofs.Common.{sym, ◌∙◌, subst, arith}
use Rattle.std.proofs.Math.Path.{ap}
use Rattle.std.proofs.Math.Nat.{mod-lt, mul-le-mul_right}
use borrow.Author.Tests.{ltb-true, lt-ltb}
use Rattle.machine.specs.Machine.{Sizes, sizes_ok, space_bytes, page_of_address, State, Page, outside, unmapped, mapped, page_of, uses, look, translate, asked, at}
use Rattle.machine.specs.Machine.{refused, tell, absence, translate_page, accepted}
use Rattle.machine.specs.Answers.{looked_says}
use Rattle.machine.specs.declared.Looked.{Looked}
use Rattle.machine.specs.declared.Looked.TheVariants.{Resident, Absent}
use Rattle.machine.proofs.Laws.Sizes.{both, fit, some_bytes, page_below}
use Rattle.memory.specs.Memory.{Memory, sizes_of, lengths}
use Rattle.promise.specs.Holds.{Holds}
use Rattle.promise.specs.Did.{Later, Did}
use Rattle.laws.specs.Models.{check_of, look_lengths}
use Rattle.laws.specs.Checking.{ready}
use Rattle.laws.specs.Passing.{long_enough_lem}
use Rattle.laws.specs.Told.{from_four, early_refused, told_did}
use Rattle.laws.specs.Spans.{address_inside}
use Rattle.laws.specs.SpanChecks.{translate_check}
use Rattle.laws.specs.Found.{looked_later, Found, address_found, residence, RefusedAs, refused_later, refused_is}
use Rattle.lookup.specs.Ready.{Ready}
use Rattle.lookup.proofs.Sights.{not_lent, lookable, ready_long, look_asked}
use Rattle.translating.specs.Ready.{Translatable}

-- the page of a refusal
translate_absent : (z : Sizes) (x : ℕ) (g : Page) (n : ℕ) → 4 ≤ n → absence g ≡ n → translate_page z x g ≡ refused n
translate_absent z x outside n l e = ap refused e
translate_absent z x (unmapped a) n l e = ap refused e
translate_absent z x (mapped a f) n l e = absurd (omega arith)

-- ---- what `frame_seen` makes of a look's answer

pub seen_refused : (found : Result Looked RefusedAfter) (e : Refusal) → Err e ≡ frame_seen found → RefusedAs found (number e)
seen_refused (Ok (Resident f)) e is = absurd (let z : ◌≡◌ {A = ℕ} 0 1 = cc in omega arith)
seen_refused (Ok (Absent w)) e is = ap refusal is
seen_refused (Err x) e is = ap refusal is

pub seen_frame : (found : Result Looked RefusedAfter) (f : ℕ) → Ok f ≡ frame_seen found → found ≡ Ok (Resident f)
seen_frame (Ok (Resident g)) f is = let same : f ≡ g = cc in rw same
seen_frame (Ok (Absent w)) f is = absurd (let z : ◌≡◌ {A = ℕ} 0 1 = cc in omega arith)
seen_frame (Err x) f is = absurd (let z : ◌≡◌ {A = ℕ} 0 1 = cc in omega arith)

module _ (i x : ℕ) (k : Memory) where
  abbrev z : Sizes
  z = sizes_of k.head

  -- ---- the check

  module _ (r : ℕ) (checked : r ≡ check_of k.head (look_lengths k) i (address_inside k.head x)) where
    pub translate_early : (r ≡ 0 → ⊥) → Did (translate i x) k (refused r) k
    translate_early d = early_refused (translate i x) k r (checked ∙ translate_check k i x) d

    pub check_passed : r ≡ 0 → Translatable k.head i x k.index k.count k.table k.helper k.stack k.cache
    unfolding address_inside
    check_passed passed =
        let y = ready k.head (look_lengths k) i (address_inside k.head x) (sym checked ∙ passed) in
        record {
          sizes_ok_lem = y.sizes_ok_lem;
          here = record { space = y.space; inside = ltb-true x (space_bytes z) (both (sizes_ok z) _ y.is_inside).1 };
          pages = lookable k.head i k.index k.count k.table k.helper k.stack k.cache _ _ y.sizes_ok_lem y.space y.lent;
        }

  -- ---- the look

  module _ (pre : Translatable k.head i x k.index k.count k.table k.helper k.stack k.cache) where
    pub page_inside_lem : x / z.page < k.head.pages
    page_inside_lem = page_below z x (fit z pre.sizes_ok_lem) pre.here.inside

    page_ready : Ready k.head i (x / z.page) k.index k.count k.table k.helper k.stack k.cache
    page_ready = pre.pages _ page_inside_lem

    pub translate_passes : asked z (translate i x (lengths k)) ≡ 0
    unfolding asked
    translate_passes =
        rw (
          pre.sizes_ok_lem,
          long_enough_lem (uses (translate i x (lengths k))) z (lengths k)
              (ready_long k.head i _ k.index k.count k.table k.helper k.stack k.cache page_ready k.link k.ram _ not_lent not_lent),
          lt-ltb i z.spaces pre.here.space,
          lt-ltb x (space_bytes z) pre.here.inside,
        )

    module _ (b : ℕ) (page : b ≡ x / z.page) (found : Result Looked RefusedAfter) (looked : Did (look i b) k (looked_says found) k) where
      looked_there : Did (look i (x / z.page)) k (looked_says found) k
      looked_there = rw (← page) looked

      look_passes : asked z (look i (x / z.page) (lengths k)) ≡ 0
      look_passes = look_asked k.head i _ k.index k.count k.table k.helper k.stack k.cache page_ready k.link k.ram

      later : Later z (look i (x / z.page) (lengths k)) (looked_says found)
      later = looked_later i _ k _ look_passes looked_there

      honest : (m : State) → Holds m k → Found m (page_of_address m.sizes i x) found
      honest m h = address_found m k h i x look_passes found looked_there

      -- on any memory
      pub frame_below : (f : ℕ) → found ≡ Ok (Resident f) → f < z.frames
      frame_below f e = (subst (λ (r : Result Looked RefusedAfter). Later z (look i (x / z.page) (lengths k)) (looked_says r)) e later).1

      pub translate_refused : (n : ℕ) → RefusedAs found n → Did (translate i x) k (refused n) k
      unfolding accepted
      translate_refused n e =
          let given = refused_later z i (x / z.page) (lengths k) found n e later in
          told_did (translate i x) k (refused n) translate_passes (given, refl) (tt, tt)
          (λ m h. ap (tell m) (translate_absent m.sizes x (page_of m (page_of_address m.sizes i x)) n
          (from_four _ _ _ n (omega arith) (omega arith) (omega arith) given) (refused_is m _ found n e (honest m h)).0))

      pub translate_at : (f q : ℕ) → found ≡ Ok (Resident f) → q ≡ f * z.page + x % z.page → Did (translate i x) k (at q) k
      unfolding accepted
      translate_at f q e p =
          told_did (translate i x) k (at q) translate_passes (refl, place_low) (tt, tt)
          (λ m h.
          ap (λ g. tell m (translate_page m.sizes x g)) (residence m _ f (subst (Found m _) e (honest m h))).is
          ∙ ap (λ (o : ℕ). tell m (at o)) (sym (p ∙ ap (λ (z : Sizes). f * z.page + x % z.page) h.sizes_are)))
        where
          place_low : q < z.frames * z.page
          place_low = omega (arith, mul-le-mul_right z.page (frame_below f e), mod-lt x (some_bytes z (fit z pre.sizes_ok_lem)))
