-- One pair more of a described state, from region to region, and the two ends: no pair yet, and the state itself.
use Rattle.std.specs.Prelude.{◌≡◌, refl, Bool, true, false, cond, eqb, length, get_or, set, take, replicate}
use Rattle.std.proofs.Math.Path.{sym}
use Rattle.std.proofs.Common.{ap, ap₂, ◌∙◌, subst, not-suc-le-zero, eq-eqb, ne_eqb, lt-ltb, le-ltb, length-set, take-suc, drop-cons, ext_get_or, get_or-set_same, get_or-set_other}
use Rattle.std.proofs.Math.Option.{none}
use mathlib.Core.List.{List, [], ◌∷◌, ◌++◌, append_assoc}
use Prim.Native.Nat.{ℕ, zero, suc, ◌-◌, ◌≤◌, ◌<◌}
use Rattle.std.proofs.Math.Decide.{ℕ_discrete, dec_lt}
use native.Mathlib.Omega.{arith}
use Rattle.std.proofs.Math.ListN.{get_or-eq_default}
use Rattle.std.proofs.Math.Seq.{take-length, drop-length}
use Rattle.sequence.specs.Lists.{tabulate, length_tabulate, get_or_tabulate, tabulate_same}
use Rattle.sequence.specs.Sums.{sum, sum_at, hit, hit_same}
use Rattle.machine.specs.Machine.{Sizes, places, State, Pair, region, frame_in, page_of, unmapped, with_pair, frames_of, Lent, every_table}
use Rattle.machine.specs.Claims.{Sound, no_pair}
use Rattle.machine.proofs.Laws.Kept.{start_of_pair, start_below}
use Rattle.memory.specs.Memory.{Memory}
use Rattle.promise.specs.Holds.{Holds}
use Rattle.promise.specs.Within.{Within}
use Rattle.laws.specs.Refusals.{Long}
use Rattle.laws.specs.Room.{owned_below}
use Rattle.entries.specs.Models.{map_entry}
use Rattle.entries.proofs.Bounds.{entry_within}
use Rattle.entries.proofs.Mapping.{entry_holds, inside_honest, mappable_honest}
use Rattle.filling.specs.Partial.{held_so, frames_after, pool_so, partial}
use Rattle.filling.specs.Filling.{CanMap}
use Rattle.filling.specs.Stands.{Stands, Fills}

-- ---- a page that stands once

-- a page that stands nowhere in a list has no frame there
absent_in : (p : ℕ) (xs : List Pair) → sum (λ x. hit p x.place) xs ≡ 0 → frame_in p xs ≡ none
unfolding frame_in
absent_in p [] h = refl
absent_in p (x ∷ xs) h = rw (ne_eqb x.place p (λ e. omega (arith, hit_same p x.place e))) (absent_in p xs (omega arith))

-- of a page that stands once, at number j, the first j pairs have none
once_before : (p : ℕ) (xs : List Pair) (j : ℕ) → j < length xs → (get_or xs j no_pair).place ≡ p → sum (λ x. hit p x.place) xs ≤ 1
    → sum (λ x. hit p x.place) (take j xs) ≡ 0
once_before p [] j l e h = absurd (not-suc-le-zero l)
once_before p (x ∷ xs) zero l e h = refl
once_before p (x ∷ xs) (suc j) l e h =
    let here = sum_at (λ (x : Pair). hit p x.place) xs j no_pair (omega arith) in
    let later : 1 ≤ sum (λ x. hit p x.place) xs = omega (arith, here, hit_same p (get_or xs j no_pair).place e) in
    omega (arith, once_before p xs j (omega arith) e (omega arith))

-- ---- one pair more

module _ (m : State) (s : Sound m) (a j : ℕ) (more : j < length (region m a)) where
  abbrev T : ℕ
  T = places m.sizes

  abbrev pair : Pair
  pair = get_or (region m a) j no_pair

  low : a < T
  low = start_below m s a (start_of_pair m s a j more)

  so_at : region (partial m a j) a ≡ take j (region m a)
  so_at = get_or_tabulate (held_so m a j) T a [] low ∙ rw (le-ltb a a (omega arith), eq-eqb a a refl)

  absent : page_of (partial m a j) pair.place ≡ unmapped a
  absent =
      let p = pair.place in
      let counted = sum_at (λ (xs : List Pair). sum (λ x. hit p x.place) xs) m.held a [] (omega (arith, s.held_are, low)) in
      let none_so : frame_in p (region (partial m a j) a) ≡ none =
      ap (frame_in p) so_at ∙ absent_in p (take j (region m a)) (once_before p (region m a) j more refl (omega (arith, counted, s.once p))) in
      rw (s.own a j more, none_so)

  next_frame : pool_so m a j ≡ pair.frame ∷ pool_so m a (suc j)
  next_frame = ap (λ (xs : List Pair). frames_of xs ++ (frames_after m (suc a) (T - suc a) ++ m.pool)) (drop-cons (region m a) j no_pair more)

  held_next : set (tabulate (held_so m a j) T) a (region (partial m a j) a ++ (pair ∷ [])) ≡ tabulate (held_so m a (suc j)) T
  held_next =
      let xs = tabulate (held_so m a j) (places m.sizes) in
      let ys = tabulate (held_so m a (suc j)) (places m.sizes) in
      let v = region (partial m a j) a ++ (pair ∷ []) in
      let long = length_tabulate (held_so m a j) (places m.sizes) in
      let long' = length_tabulate (held_so m a (suc j)) (places m.sizes) in
      ext_get_or [] (set xs a v) ys (length-set xs a v ∙ long ∙ sym long')
      (λ b h.
      let inside : b < places m.sizes = omega (arith, length-set xs a v, long) in
      elim (ℕ_discrete b a) [
        | yes e ↦
            subst (λ (c : ℕ). get_or (set xs a v) c [] ≡ get_or ys c []) (sym e)
            (get_or-set_same xs a v [] (omega (arith, long, low))
            ∙ ap (λ (zs : List Pair). zs ++ (pair ∷ [])) so_at
            ∙ sym (take-suc (region m a) j no_pair more)
            ∙ sym (get_or_tabulate (held_so m a (suc j)) (places m.sizes) a [] low ∙ rw (le-ltb a a (omega arith), eq-eqb a a refl)))
        | no d ↦
            let same : held_so m a j b ≡ held_so m a (suc j) b = rw (ne_eqb b a d) in
            get_or-set_other xs a b v [] d
            ∙ get_or_tabulate (held_so m a j) (places m.sizes) b [] inside
            ∙ same
            ∙ sym (get_or_tabulate (held_so m a (suc j)) (places m.sizes) b [] inside)
      ])

  pair_more : with_pair (partial m a j) a pair.place pair.frame (pool_so m a (suc j)) ≡ partial m a (suc j)
  pair_more =
      ap (λ (h : List (List Pair)). record { sizes = m.sizes; starts = m.starts; held = h; pool = pool_so m a (suc j); ram = m.ram }) held_next

  -- the pair's page can be mapped, and then the memory stands for one pair more; its RAM stays
  pub next_fills : (k : Memory) → Stands (partial m a j) k
      → Fills m.sizes (CanMap k a (get_or (region m a) j no_pair).place) k (map_entry k a (get_or (region m a) j no_pair).place) (partial m a (suc j))
  next_fills k st =
      let n = partial m a j in
      let p = pair.place in
      let H = st.holds in
      let below = owned_below m s p a (s.own a j more) in
      let inside = inside_honest n k H p a below absent pair.frame (pool_so m a (suc j)) next_frame in
      let within : Within m.sizes k (map_entry k a p) = subst (λ (z : Sizes). Within z k (map_entry k a p)) H.sizes_are (entry_within k p a inside) in
      record {
        can = mappable_honest n k H p a below absent pair.frame (pool_so m a (suc j)) next_frame st.lent;
        stands = record {
          holds =
              subst (λ (x : State). Holds x (map_entry k a p)) pair_more
              (entry_holds n k H p a below absent st.lent pair.frame (pool_so m a (suc j)) next_frame);
          lent = subst (λ (l : Lent). Long every_table m.sizes l) (sym within.long) st.lent;
        };
        within = within;
      }

-- ---- from region to region, and the ends

none_tabulated : (n : ℕ) → tabulate {A = List Pair} (λ _. []) n ≡ replicate n []
unfolding tabulate
none_tabulated zero = refl
none_tabulated (suc n) = ap (λ (xs : List (List Pair)). [] ∷ xs) (none_tabulated n)

module _ (m : State) (s : Sound m) where
  beyond : (a : ℕ) → places m.sizes ≤ a → region m a ≡ []
  beyond a h = get_or-eq_default m.held [] (omega (arith, s.held_are))

  rebuilt : {held held' : List (List Pair)} {pool pool' : List ℕ} → held ≡ held' → pool ≡ pool'
      → ◌≡◌ {A = State} (record { sizes = m.sizes; starts = m.starts; held = held; pool = pool; ram = m.ram })
      (record { sizes = m.sizes; starts = m.starts; held = held'; pool = pool'; ram = m.ram })
  rebuilt a b =
      ap₂ (λ (h : List (List Pair)) (p : List ℕ). record { sizes = m.sizes; starts = m.starts; held = h; pool = p; ram = m.ram }) a b

  same_held : (f g : ℕ → List Pair) → ((b : ℕ) → f b ≡ g b) → tabulate f (places m.sizes) ≡ tabulate g (places m.sizes)
  same_held f g e = tabulate_same f g (places m.sizes) (λ b h. e b)

  none_of : (t : Bool) (xs : List Pair) → cond t (take 0 xs) [] ≡ []
  none_of true xs = refl
  none_of false xs = refl

  -- all pairs of the region at a
  held_done : (a b : ℕ) → held_so m a (length (region m a)) b ≡ held_so m (suc a) 0 b
  held_done a b = elim (ℕ_discrete b a) [
    | yes e ↦
        subst (λ (c : ℕ). held_so m a (length (region m a)) c ≡ held_so m (suc a) 0 c) (sym e)
        (rw (le-ltb a a (omega arith), eq-eqb a a refl, lt-ltb a (suc a) (omega arith)) (take-length (region m a)))
    | no d ↦ elim (dec_lt b a) [
      | yes l ↦ rw (lt-ltb b a l, lt-ltb b (suc a) (omega arith))
      | no l ↦ rw (le-ltb b a (omega arith), ne_eqb b a d, le-ltb b (suc a) (omega arith)) (sym (none_of (eqb b (suc a)) (region m b)))
    ]
  ]

  pool_done : (a : ℕ) → a < places m.sizes → pool_so m a (length (region m a)) ≡ pool_so m (suc a) 0
  unfolding frames_after
  pool_done a h = rw (drop-length (region m a)) (go (dec_lt (suc a) (places m.sizes)))
    where
      go : Dec (suc a < places m.sizes) → frames_after m (suc a) (places m.sizes - suc a) ++ m.pool
          ≡ frames_of (region m (suc a)) ++ (frames_after m (suc (suc a)) (places m.sizes - suc (suc a)) ++ m.pool)
      go (yes l) =
          let e : places m.sizes - suc a ≡ suc (places m.sizes - suc (suc a)) = omega arith in
          rw e (append_assoc (frames_of (region m (suc a))) (frames_after m (suc (suc a)) (places m.sizes - suc (suc a))) m.pool)
      go (no l) =
          let e : places m.sizes - suc a ≡ 0 = omega arith in
          let f : places m.sizes - suc (suc a) ≡ 0 = omega arith in
          rw (e, f, beyond (suc a) (omega arith))

  pub region_done : (a : ℕ) → a < places m.sizes → partial m a (length (region m a)) ≡ partial m (suc a) 0
  region_done a h = rebuilt (same_held _ _ (held_done a)) (pool_done a h)

  -- all regions: the state itself
  pub all_done : partial m (places m.sizes) 0 ≡ m
  unfolding frames_after
  all_done =
      let t = places m.sizes in
      let long = length_tabulate (held_so m t 0) t in
      let none_left : t - suc t ≡ 0 = omega arith in
      rebuilt
      (ext_get_or [] (tabulate (held_so m t 0) t) m.held (long ∙ sym s.held_are)
      (λ b h. let low : b < t = omega (arith, long) in get_or_tabulate (held_so m t 0) t b [] low ∙ rw (lt-ltb b t low)))
      (rw (none_left, beyond t (omega arith)))

  -- no region yet
  pub none_done : partial m 0 0
      ≡ record { sizes = m.sizes; starts = m.starts; held = replicate (places m.sizes) []; pool = pool_so m 0 0; ram = m.ram }
  none_done = rebuilt (same_held _ (λ _. []) nothing ∙ none_tabulated (places m.sizes)) refl
    where
      nothing : (b : ℕ) → held_so m 0 0 b ≡ []
      nothing b = rw (le-ltb b 0 (omega arith)) (none_of (eqb b 0) (region m b))
