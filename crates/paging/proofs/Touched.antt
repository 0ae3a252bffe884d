-- What a touch did: the plan is carried out as the machine does it.
use Rattle.std.specs.Prelude.{Result}
use Rattle.machine.specs.declared.RefusedAfter.{RefusedAfter}
use Rattle.std.specs.Prelude.{◌≡◌, refl, ℕ, ◌<◌, length}
use Rattle.std.proofs.Common.{sym, ap, ◌∙◌, subst, arith}
use Rattle.machine.specs.declared.PageCall.TheVariants.{Touch}
use Rattle.machine.specs.Machine.{Sizes, places, place_of, State, words_at, Page, touch, asked, Answer, refused_after}
use Rattle.machine.specs.Machine.{Out, page_facts, touch_page, touch_at, accepted}
use Rattle.memory.specs.Memory.{Memory, sizes_of, lengths}
use Rattle.lookup.specs.declared.Sight.{Sight}
use Rattle.lookup.specs.declared.Sight.TheVariants as sight_is
use Rattle.planning.specs.declared.Plan.{Plan}
use Rattle.promise.specs.Holds.{Holds}
use Rattle.promise.specs.Did.{Follows, Did}
use Rattle.lookup.specs.Models.{SeenAt}
use Rattle.pool.specs.Models.{empty_pool}
use Rattle.planning.specs.Models.{fit_ok, plan_if, plan_for, plan_of}
use Rattle.planning.proofs.Planning.{new_hidden, plan_sane}
use Rattle.paging.specs.Models.{plan_says, plan_leaves, Touches, TouchDone}
use Rattle.laws.specs.Models.{every_length}
use Rattle.laws.specs.Refusals.{Long, passed_step, checked_did, admitted}
use Rattle.laws.specs.Checks.{page_check}
use Rattle.lookup.specs.Lookup.{SightIs, seen_honest}
use Rattle.paging.proofs.Touching.{plan_later, plan_still, plan_bounds, plan_tells, new_like}

module _ (m : State) (k : Memory) (h : Holds m k) (p : ℕ) (low : p < places m.sizes) (lent : Long (page_facts Touch).uses m.sizes (lengths k)) where
  abbrev Like : Result Plan RefusedAfter → Out → Type 0
  Like x o = (plan_says x k ≡ o.answer) × Holds o.after (plan_leaves x k p)

  touch_like : (s : Sight) → SightIs m p s → Like (plan_for k.head k.count k.stack (places m.sizes) s) (touch_at m p)
  touch_like (sight_is.Mapped f) (a, e) = rw e (refl, h)
  touch_like (sight_is.Outside c) (e, w) = rw e (ap (refused_after 4) w, h)
  touch_like (sight_is.Unmapped a c) (e, w) =
      subst (λ (g : Page). Like (plan_if (empty_pool k.head) (fit_ok k.head k.count k.stack (places m.sizes) a) a c)
      (touch_page m p (words_at m p) g)) (sym e)
      (new_like m k h p low lent a c e w (empty_pool k.head) (fit_ok k.head k.count k.stack (places m.sizes) a) refl refl m.pool refl)
  touch_like sight_is.Broken bad = absurd bad

touch_honest : (i b : ℕ) (k : Memory) → asked (sizes_of k.head) (touch i b (lengths k)) ≡ 0 → (s : Sight) → SeenAt k i b s → (m : State) → Holds m k
    → Follows m (touch i b (lengths k)) (plan_says (plan_of k s) k) (plan_leaves (plan_of k s) k (place_of (sizes_of k.head) i b))
unfolding accepted
touch_honest i b k passes s seen m h =
    let c = touch i b (lengths k) in
    let e : asked m.sizes c ≡ 0 = ap (λ z. asked z c) (sym h.sizes_are) ∙ passes in
    let g = admitted m.sizes Touch i b (lengths k) e in
    let p = place_of m.sizes i b in
    let left = plan_leaves (plan_of k s) k (place_of (sizes_of k.head) i b) in
    let o = passed_step m c e in
    let like = touch_like m k h p g.place g.lent s (seen_honest m k h i b g.space g.page s seen) in
    let same =
    subst (λ (z : Sizes). let x = plan_for k.head k.count k.stack (places z) s in (plan_says x k ≡ (touch_at m p).answer) × Holds (touch_at m p).after
    (plan_leaves x k (place_of z i b)))
    (sym h.sizes_are) like in
    record { answer_is = same.0 ∙ ap (λ r. r.answer) (sym o); holds = subst (λ (r : Out). Holds r.after left) (sym o) same.1 }

pub touch_did : (i b : ℕ) (k : Memory) (a : Answer) (k' : Memory) → TouchDone i b k a k' → Did (touch i b) k a k'
touch_did i b k a k' d =
    checked_did (touch i b) k _ (page_check k i b Touch (every_length k) refl) (Touches k i b) a k' d
    (λ e r.
    let p = place_of (sizes_of k.head) i b in
    let x = plan_of k r.sight in
    let g = plan_sane k i b e r.sight r.seen in
    let y = admitted (sizes_of k.head) Touch i b (lengths k) e in
    let long : p < length k.table = omega (arith, y.place, y.lent.table refl) in
    rw (r.answer_is, r.after_is)
    (record {
      asks = rw e (plan_later k p i b (lengths k) x g);
      stays = plan_still k p x;
      bounds = plan_bounds k p i b refl long x g (new_hidden k i b r.sight r.seen);
      tells = plan_tells k p i b refl long x g;
      gives = λ is. tt;
      honest = λ m h. touch_honest i b k e r.sight r.seen m h;
      begins = tt;
    }))
