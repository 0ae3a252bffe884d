-- A touch keeps the promise.
use Rattle.std.specs.Prelude.{Result, Ok, Err}
use Rattle.machine.specs.declared.RefusedAfter.{RefusedAfter}
use Rattle.std.specs.Prelude.{◌≡◌, refl, Bool, true, false, List, [], ◌∷◌, ℕ, ◌<◌, length}
use Rattle.std.proofs.Common.{sym, ap, ◌∙◌, subst, true≢false, arith}
use Rattle.machine.specs.declared.PageCall.TheVariants.{Touch}
use Rattle.machine.specs.Machine.{places, place_of, State, Lent, words_at, unmapped, page_of, touch, new, refused_after}
use Rattle.machine.specs.Machine.{Out, page_facts, page_mapped, touch_new}
use Rattle.memory.specs.Memory.{Memory, sizes_of, lengths}
use Rattle.planning.specs.declared.Plan.{Plan}
use Rattle.planning.specs.declared.Plan.TheVariants as plan_is
use Rattle.promise.specs.Holds.{Holds}
use Rattle.promise.specs.Did.{Later, still, Writes, NewPage}
use Rattle.promise.specs.Shown.{Shown}
use Rattle.pool.specs.Models.{empty_pool, taken}
use Rattle.planning.specs.Models.{fit_ok, plan_if}
use Rattle.planning.proofs.Planning.{Sane}
use Rattle.planning.proofs.Fitting.{fits_honest}
use Rattle.entries.specs.Models.{map_page}
use Rattle.entries.proofs.Bounds.{map_writes, map_tells}
use Rattle.entries.proofs.Mapping.{map_holds}
use Rattle.paging.specs.Models.{plan_says, plan_leaves}
use Rattle.laws.specs.Refusals.{Long, writes_none}
use Rattle.pool.specs.Pool.{pool_none, pool_some, taken_honest}

-- ---- on any memory: what a plan does

module _ (k : Memory) (p : ℕ) where
  pub plan_later : (i b : ℕ) (l : Lent) (x : Result Plan RefusedAfter) → Sane k p x → Later (sizes_of k.head) (touch i b l) (plan_says x k)
  plan_later i b l (Ok (plan_is.Old f)) g = (refl, g)
  plan_later i b l (Ok (plan_is.New a c)) g = (refl, g.frame)
  plan_later i b l (Err x) g = (g, refl)

  pub plan_still : (x : Result Plan RefusedAfter) → still (plan_says x k) ≡ true → plan_leaves x k p ≡ k
  plan_still (Ok (plan_is.Old f)) e = refl
  plan_still (Ok (plan_is.New a c)) e = absurd (true≢false (sym e))
  plan_still (Err x) e = refl

  pub plan_bounds : (i b : ℕ) → p ≡ place_of (sizes_of k.head) i b → p < length k.table → (x : Result Plan RefusedAfter) → Sane k p x
      → ((a c : ℕ) → x ≡ Ok (plan_is.New a c) → Shown k i b → ⊥) → Writes (sizes_of k.head) i b 1 0 (λ q. ⊥) k (plan_leaves x k p)
  plan_bounds i b is long (Ok (plan_is.Old f)) g hidden = writes_none _ _ _ _ _ _ k
  plan_bounds i b is long (Ok (plan_is.New a c)) g hidden = map_writes k i b p a is long (hidden a c refl) g
  plan_bounds i b is long (Err x) g hidden = writes_none _ _ _ _ _ _ k

  pub plan_tells : (i b : ℕ) → p ≡ place_of (sizes_of k.head) i b → p < length k.table → (x : Result Plan RefusedAfter) → Sane k p x → (f w : ℕ) → plan_says x k ≡ new f w
      → NewPage (page_mapped i b) f k (plan_leaves x k p)
  plan_tells i b is long (Ok (plan_is.Old g)) y f w e = absurd (let z : ◌≡◌ {A = ℕ} 0 1 = cc in omega arith)
  plan_tells i b is long (Ok (plan_is.New a c)) y f w e =
      let told : (taken k.link k.head).frame ≡ f = cc in
      subst (λ (g : ℕ). NewPage (page_mapped i b) g k (map_page k a p)) told (map_tells k i b p a is long y)
  plan_tells i b is long (Err x) y f w e = absurd (let z : ◌≡◌ {A = ℕ} 0 1 = cc in omega arith)

-- ---- on honest memory: what the machine does

module _ (m : State) (k : Memory) (h : Holds m k) (p : ℕ) (low : p < places m.sizes) (lent : Long (page_facts Touch).uses m.sizes (lengths k)) where
  abbrev Like : Result Plan RefusedAfter → Out → Type 0
  Like x o = (plan_says x k ≡ o.answer) × Holds o.after (plan_leaves x k p)

  -- from the pool: refused exactly if it is empty
  pub new_like : (a c : ℕ) → page_of m p ≡ unmapped a → c ≡ words_at m p → (empty fits : Bool) → empty_pool k.head ≡ empty
      → fit_ok k.head k.count k.stack (places m.sizes) a ≡ fits → (pool : List ℕ) → m.pool ≡ pool
      → Like (plan_if empty fits a c) (touch_new m a p (words_at m p) pool)
  new_like a c e w true fits l x [] is = (ap (refused_after 8) w, h)
  new_like a c e w false fits l x [] is = absurd (true≢false (sym (pool_none k.head k.link m.pool h.pooled is) ∙ l))
  new_like a c e w true fits l x (f ∷ rest) is = absurd (true≢false (sym l ∙ pool_some k.head k.link m.pool h.pooled f rest is))
  new_like a c e w false true l x (f ∷ rest) is = (rw ((taken_honest m k h f rest is).0, w), map_holds m k h p a low e lent f rest is)
  new_like a c e w false false l x (f ∷ rest) is = absurd (true≢false (sym (fits_honest m k h p a low e f rest is) ∙ x))
