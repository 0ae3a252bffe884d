-- Links so laid are a chain, and with them all of the frames are the pool; links past the frames stay.
use Rattle.std.specs.Prelude.{◌≡◌, refl, List, [], ◌∷◌, ◌++◌, ℕ, suc, ◌≤◌, ◌<◌, length, set, drop}
use Rattle.std.proofs.Common.{sym, ap, ◌∙◌, append-nil, arith, length-set, drop-set-lt}
use Rattle.std.proofs.Math.Seq.{append_snoc}
use Rattle.sequence.specs.Lists.{Each}
use Rattle.sequence.specs.Sums.{sum_append, hit, hit_same}
use Rattle.machine.specs.Claims.{times_in}
use Rattle.memory.specs.Memory.{at}
use Rattle.memory.specs.declared.Head.{Head}
use Rattle.promise.specs.Holds.{Chain, Pooled}
use Rattle.pool.specs.Chains.{chain_spliced}
use Rattle.pool.specs.Pool.{unused_none}
use Rattle.founding.specs.Chain.{laid}

pub length_laid : (link : List ℕ) (last : ℕ) (xs : List ℕ) → length (laid link last xs) ≡ length link
unfolding laid
length_laid link last [] = refl
length_laid link last (x ∷ xs) = length_laid (set link last x) x xs ∙ length-set link last x

-- links past n stay, if every frame is below n
pub excess_laid : (n : ℕ) (link : List ℕ) (last : ℕ) (xs : List ℕ) → Each 0 (λ f. f < n) (last ∷ xs) → drop n (laid link last xs) ≡ drop n link
unfolding laid
excess_laid n link last [] low = refl
excess_laid n link last (x ∷ xs) low =
    excess_laid n (set link last x) x xs (λ k h. low (suc k) (omega arith)) ∙ drop-set-lt n link last x (low 0 (omega arith))

-- every frame stands once at most
abbrev pub Once : List ℕ → Type 0
Once xs = (f : ℕ) → times_in f xs ≤ 1

laid_chain : (first : ℕ) (link : List ℕ) (last b : ℕ) (ys xs : List ℕ) → Chain link first (ys ++ (last ∷ [])) b → Once (ys ++ (last ∷ xs))
    → Each 0 (λ f. f < length link) (last ∷ xs) → (stop : ℕ) × Chain (laid link last xs) first (ys ++ (last ∷ xs)) stop
unfolding laid
laid_chain first link last b ys [] c o l = (b, c)
laid_chain first link last b ys (x ∷ xs) c o l =
    let two = o last in
    let ys-none : times_in last ys ≡ 0 = omega (arith, two, sum_append (hit last) ys (last ∷ x ∷ xs), hit_same last last refl) in
    let x-none : times_in last (x ∷ []) ≡ 0 = omega (arith, two, sum_append (hit last) ys (last ∷ x ∷ xs), hit_same last last refl) in
    let step = chain_spliced link last first b x (at link x) ys (x ∷ []) (l 0 (omega arith)) ys-none x-none c (refl, refl) in
    rw (← append_snoc ys last (x ∷ xs))
    (laid_chain first (set link last x) x (at link x) (ys ++ (last ∷ [])) xs step
    (λ f. rw append_snoc (o f))
    (λ k h. rw length-set (l (suc k) (omega arith))))

-- the pool of a head that has used every frame, from the frame x on
pub pooled_laid : (h : Head) (link : List ℕ) (x : ℕ) (xs : List ℕ) → h.first ≡ x → h.many ≡ suc (length xs) → h.fresh ≡ h.frames → Once (x ∷ xs)
    → Each 0 (λ f. f < length link) (x ∷ xs) → Pooled h (laid link x xs) (x ∷ xs)
pooled_laid h link x xs first_is many_is fresh-is once inside =
    let c = laid_chain x link x (at link x) [] xs (refl, refl) once inside in
    record {
      linked = x ∷ xs;
      stop = c.0;
      many_is = many_is;
      chain = rw first_is c.1;
      fresh_fits = omega arith;
      pool_is = sym (append-nil (x ∷ xs)) ∙ ap (λ (ys : List ℕ). (x ∷ xs) ++ ys) (sym (unused_none h.fresh h.frames (omega arith)));
    }
