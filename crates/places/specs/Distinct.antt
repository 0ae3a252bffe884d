-- Numbers that are all new to a set and below a bound: F of them, new to the empty set, have every measure of 0, 1, .., F-1; and the other way round.
use Rattle.std.specs.Prelude.{◌≡◌, refl, ◌≢◌, Bool, true, false, cond, not, ◌&&◌, List, [], ◌∷◌, ℕ, zero, suc, ◌+◌, ◌≤◌, ◌<◌, ltb, length}
use Rattle.std.proofs.Common.{sym, ap, ◌∙◌, arith, eq-eqb, ltb-true, lt-ltb}
use Rattle.std.proofs.lemmas.Bool.{false≢true}
use Rattle.std.proofs.Math.Decide.{ℕ_discrete, dec_lt}
use Rattle.sequence.specs.Lists.{tabulate, length_tabulate, get_or_tabulate}
use Rattle.sequence.specs.Sums.{sum, sum_one, sum_from, sum_by_place, hit, hit_same, hit_other, count_from, count_none, sum_from_same}
use Rattle.places.specs.Places.{put, adding, all_new}
use Rattle.places.specs.Sets.{put_here, put_other}

-- the first of numbers that are all new, and the others
pub new_parts : (f : ℕ) (s : ℕ → Bool) (x : ℕ) (xs : List ℕ) → all_new f s (x ∷ xs) ≡ true
    → (x < f) × (s x ≡ false) × (all_new f (put s x true) xs ≡ true)
unfolding all_new
new_parts f s x xs h = go (ltb x f) (s x) refl refl h
  where
    go : (a b : Bool) → ltb x f ≡ a → s x ≡ b → a && not b && all_new f (put s x true) xs ≡ true
        → (x < f) × (s x ≡ false) × (all_new f (put s x true) xs ≡ true)
    go true true p q e = absurd (false≢true e)
    go true false p q e = (ltb-true x f p, q, e)
    go false b p q e = absurd (false≢true e)

-- ---- sums over numbers from p on

-- h' is h but for one number, where it is a more
sum_from_more : (h h' : ℕ → ℕ) (f a p n : ℕ) → p ≤ f → f < p + n → h' f ≡ h f + a → ((q : ℕ) → q ≢ f → h' q ≡ h q)
    → sum_from h' p n ≡ sum_from h p n + a
sum_from_more h h' f a p zero l k e o = absurd (omega arith)
sum_from_more h h' f a p (suc n) l k e o = elim (ℕ_discrete p f) [
  | yes d ↦ omega (arith, ap h d, ap h' d, e, sum_from_same h' h (suc p) n (λ q x y. o q (λ c. omega arith)))
  | no d ↦ omega (arith, o p d, sum_from_more h h' f a (suc p) n (omega arith) (omega arith) e o)
]

-- ---- the measure of a set's members below F

abbrev weight : (ℕ → ℕ) → (ℕ → Bool) → ℕ → ℕ
weight g s q = cond (s q) (g q) 0

weight_put : (g : ℕ → ℕ) (s : ℕ → Bool) (x f : ℕ) → x < f → s x ≡ false → sum_from (weight g (put s x true)) 0 f ≡ sum_from (weight g s) 0 f + g x
weight_put g s x f l e =
    sum_from_more (weight g s) (weight g (put s x true)) x (g x) 0 f (omega arith) (omega arith)
    (rw (put_here s x true, e) (omega arith))
    (λ q d. ap (λ (t : Bool). cond t (g q) 0) (put_other s x true q d))

measured : (g : ℕ → ℕ) (f : ℕ) (s : ℕ → Bool) (xs : List ℕ) → all_new f s xs ≡ true
    → sum g xs + sum_from (weight g s) 0 f ≡ sum_from (weight g (adding s xs)) 0 f
unfolding all_new adding
measured g f s [] h = omega arith
measured g f s (x ∷ xs) h =
    let (a, b, c) = new_parts f s x xs h in
    omega (arith, weight_put g s x f a b, measured g f (put s x true) xs c)

-- ---- F members below F are all

few_members : (s : ℕ → Bool) (p n : ℕ) → sum_from (weight (λ _. 1) s) p n ≤ n
few_members s p zero = omega arith
few_members s p (suc n) = go (s p) (few_members s (suc p) n)
  where
    go : (t : Bool) → sum_from (weight (λ _. 1) s) (suc p) n ≤ n → cond t 1 0 + sum_from (weight (λ _. 1) s) (suc p) n ≤ suc n
    go true h = omega arith
    go false h = omega arith

all_members : (g : ℕ → ℕ) (s : ℕ → Bool) (p n : ℕ) → sum_from (weight (λ _. 1) s) p n ≡ n → sum_from (weight g s) p n ≡ sum_from g p n
all_members g s p zero h = refl
all_members g s p (suc n) h = go (s p) h (few_members s (suc p) n) (all_members g s (suc p) n)
  where
    go : (t : Bool) → cond t 1 0 + sum_from (weight (λ _. 1) s) (suc p) n ≡ suc n → sum_from (weight (λ _. 1) s) (suc p) n ≤ n
        → (sum_from (weight (λ _. 1) s) (suc p) n ≡ n → sum_from (weight g s) (suc p) n ≡ sum_from g (suc p) n)
        → cond t (g p) 0 + sum_from (weight g s) (suc p) n ≡ g p + sum_from g (suc p) n
    go true h few ih = omega (arith, ih (omega arith))
    go false h few ih = absurd (omega arith)

no_members : (g : ℕ → ℕ) (p n : ℕ) → sum_from (weight g (λ _. false)) p n ≡ 0
no_members g p zero = refl
no_members g p (suc n) = omega (arith, no_members g (suc p) n)

all_numbers : (g : ℕ → ℕ) (f : ℕ) → sum g (tabulate (λ k. k) f) ≡ sum_from g 0 f
all_numbers g f =
    let long = length_tabulate (λ (k : ℕ). k) f in
    sum_by_place 0 g (tabulate (λ k. k) f) g 0 (λ k l. ap g (omega (arith, get_or_tabulate (λ (k : ℕ). k) f k 0 (omega arith))))
    ∙ ap (sum_from g 0) long

-- F numbers, all new to the empty set, have every measure of 0, 1, .., F-1
pub new_whole : (f : ℕ) (xs : List ℕ) → all_new f (λ _. false) xs ≡ true → length xs ≡ f → (g : ℕ → ℕ) → sum g xs ≡ sum g (tabulate (λ k. k) f)
new_whole f xs h n g =
    let t = adding (λ _. false) xs in
    let one = measured (λ _. 1) f (λ _. false) xs h in
    let full : sum_from (weight (λ _. 1) t) 0 f ≡ f = omega (arith, one, no_members (λ _. 1) 0 f, sum_one xs) in
    omega (arith, measured g f (λ _. false) xs h, no_members g 0 f, all_members g t 0 f full, all_numbers g f)

-- ---- how often numbers that are all new stand in their list

abbrev pub one_if : Bool → ℕ
one_if t = cond t 1 0

one_most : (t : Bool) → one_if t ≤ 1
one_most true = omega arith
one_most false = omega arith

-- once at most, and not at all if the set has them
pub new_once : (f : ℕ) (s : ℕ → Bool) (xs : List ℕ) → all_new f s xs ≡ true → (q : ℕ) → sum (hit q) xs + one_if (s q) ≤ 1
unfolding all_new
new_once f s [] h q = omega (arith, one_most (s q))
new_once f s (x ∷ xs) h q =
    let (a, b, c) = new_parts f s x xs h in
    let ih = new_once f (put s x true) xs c q in
    elim (ℕ_discrete q x) [
      | yes d ↦ let e : s q ≡ false = ap s d ∙ b in rw e (omega (arith, rw (eq-eqb q x d) at ih, hit_same q x (sym d)))
      | no d ↦ omega (arith, rw (put_other s x true q d) at ih, hit_other q x (λ e. d (sym e)))
    ]

first_new : (t u : Bool) → suc (one_if u) ≤ one_if t → (t ≡ true) × (u ≡ false)
first_new true true h = absurd (omega arith)
first_new true false h = (refl, refl)
first_new false u h = absurd (omega arith)

-- and so, and none of F or above, they are all new
pub once_new : (f : ℕ) (s : ℕ → Bool) (xs : List ℕ) → ((q : ℕ) → sum (hit q) xs + one_if (s q) ≤ one_if (ltb q f)) → all_new f s xs ≡ true
unfolding all_new
once_new f s [] h = refl
once_new f s (x ∷ xs) h =
    let (a, b) = first_new (ltb x f) (s x) (omega (arith, h x, hit_same x x refl)) in
    rw (a, b) (once_new f (put s x true) xs later)
  where
    later : (q : ℕ) → sum (hit q) xs + one_if (put s x true q) ≤ one_if (ltb q f)
    later q = elim (ℕ_discrete q x) [
      | yes d ↦ rw (eq-eqb q x d) (omega (arith, h q, hit_same q x (sym d)))
      | no d ↦ rw (put_other s x true q d) (omega (arith, h q, hit_other q x (λ e. d (sym e))))
    ]

-- numbers that have every measure of 0, 1, .., F-1 are all new to the empty set
pub whole_new : (f : ℕ) (xs : List ℕ) → ((g : ℕ → ℕ) → sum g xs ≡ sum g (tabulate (λ k. k) f)) → all_new f (λ _. false) xs ≡ true
whole_new f xs h = once_new f (λ _. false) xs (λ q. elim (dec_lt q f) [
  | yes l ↦ rw (lt-ltb q f l) (omega (arith, h (hit q), count_from q 0 (λ k. k) f (λ k. omega arith) (omega arith) (omega arith)))
  | no l ↦ omega (arith, h (hit q), count_none q (λ k. k) f (λ k m. omega arith))
])
