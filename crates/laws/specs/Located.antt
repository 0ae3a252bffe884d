-- What a translate's promise says of its address where the memory stands for a machine: no more than the promise is used.
use Rattle.std.specs.Prelude.{◌≡◌, true, ◌&&◌, ℕ, zero, suc, ltb}
use Rattle.std.proofs.Math.Path.{refl, ap}
use Rattle.std.proofs.Common.{sym, ◌∙◌, arith}
use Rattle.std.proofs.Math.Option.{some}
use borrow.Author.Tests.{lt-ltb, ltb-true}
use Rattle.machine.specs.Machine.{Sizes, sizes_ok, space_bytes, page_of_address, State, Uses, uses, enough, Call, translate, asked, Page, outside, unmapped}
use Rattle.machine.specs.Machine.{mapped, page_of, ram_in, ram_at, translate_page, Answer, at, refused, Out, accepted, answer}
use Rattle.machine.specs.Claims.{Address}
use Rattle.machine.proofs.Laws.Sizes.{passed}
use Rattle.machine.proofs.Laws.Holders.{backed}
use Rattle.memory.specs.Memory.{Memory, lengths}
use Rattle.promise.specs.Holds.{Roomy, Holds}
use Rattle.promise.specs.Did.{Did}
use Rattle.laws.specs.Refusals.{passed_step, refused_step}
use Rattle.laws.specs.Passing.{long_enough_lem, roomy_long}

pub record Resident (m : State) (i x p : ℕ) : Type 0 where
  pub here : Address m.sizes i x
  pub is_at : ram_at m i x ≡ some p

place_in : (z : Sizes) (x p : ℕ) (g : Page) → translate_page z x g ≡ at p → ram_in z x g ≡ some p
place_in z x p outside e = absurd (let w : ◌≡◌ {A = ℕ} 0 1 = cc in omega arith)
place_in z x p (unmapped a) e = absurd (let w : ◌≡◌ {A = ℕ} 0 1 = cc in omega arith)
place_in z x p (mapped a f) e = ap some cc

module _ (m : State) (k : Memory) (H : Holds m k) where
  -- all of a memory that is long enough is enough for any call
  pub first_passes : Roomy m.sizes k → (u : Uses) → sizes_ok m.sizes && enough u m.sizes (lengths k) ≡ true
  first_passes r u = rw (H.sound.sizes_ok_lem, long_enough_lem u m.sizes (lengths k) (roomy_long u m.sizes k r))

  -- what a call that passes answers
  pub answers : (c : Call) → asked m.sizes c ≡ 0 → answer m c ≡ (accepted m c).answer
  answers c e = ap (λ (o : Out). o.answer) (passed_step m c e)

  pub translate_asks : Roomy m.sizes k → (i x : ℕ) → Address m.sizes i x → asked m.sizes (translate i x (lengths k)) ≡ 0
  unfolding asked
  translate_asks r i x a = rw (first_passes r _, lt-ltb i _ a.space, lt-ltb x _ a.inside)

  pub translate_next : (i x p : ℕ) → asked m.sizes (translate i x (lengths k)) ≡ 0 → ram_at m i x ≡ some p → (a : Answer) (k'' : Memory)
      → Did (translate i x) k a k'' → a ≡ at p
  unfolding accepted
  translate_next i x p passes e a k'' d =
      let b = backed m i x p e in
      (d.honest m H).answer_is
      ∙ answers (translate i x (lengths k)) passes
      ∙ ap (translate_page m.sizes x) b.is_mapped
      ∙ ap at (sym b.place_is)

  -- only a resident address has a place
  pub translate_resident : (i x p : ℕ) (k'' : Memory) → Did (translate i x) k (at p) k'' → Resident m i x p
  unfolding accepted asked
  translate_resident i x p k'' d = go (asked m.sizes c) refl
    where
      c : Call
      c = translate i x (lengths k)

      go : (j : ℕ) → asked m.sizes c ≡ j → Resident m i x p
      go zero e =
          let q = passed (sizes_ok m.sizes && enough (uses c) m.sizes (lengths k)) (ltb i m.sizes.spaces) (ltb x (space_bytes m.sizes)) e in
          record {
            here = record { space = ltb-true i _ q.second; inside = ltb-true x _ q.third };
            is_at = place_in m.sizes x p (page_of m (page_of_address m.sizes i x)) (sym (answers c e) ∙ sym (d.honest m H).answer_is);
          }
      go (suc j) e =
          absurd
          (let f : at p ≡ refused (suc j) = (d.honest m H).answer_is ∙ ap (λ (o : Out). o.answer) (refused_step m c j e) in
          let w : ◌≡◌ {A = ℕ} 0 1 = cc in
          omega arith)
