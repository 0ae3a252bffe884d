-- For how much `Holds` says: a memory stands for one machine alone, so that no part of the state is left open.
use Rattle.std.specs.Prelude.{◌≡◌, refl, Bool, false, List, [], ◌∷◌, ◌++◌, ℕ, ◌<◌, length, get_or}
use Rattle.std.proofs.Common.{sym, ap, ap₂, ◌∙◌, arith, ext_get_or}
use Rattle.index.specs.Laws.{index_bit}
use Rattle.machine.specs.Machine.{Sizes, places, Pair, State, is_start, region, with_ram}
use Rattle.machine.specs.Claims.{no_pair}
use Rattle.memory.specs.Memory.{Memory, at}
use Rattle.promise.specs.Holds.{Chain, unused, Holds}

-- a chain's frames are told by where it begins and how many they are
chain_one : (link : List ℕ) (a b b' : ℕ) (xs ys : List ℕ) → length xs ≡ length ys → Chain link a xs b → Chain link a ys b' → xs ≡ ys
chain_one link a b b' [] [] e c d = refl
chain_one link a b b' [] (y ∷ ys) e c d = absurd (omega arith)
chain_one link a b b' (x ∷ xs) [] e c d = absurd (omega arith)
chain_one link a b b' (x ∷ xs) (y ∷ ys) e c d =
    let same : x ≡ y = sym c.0 ∙ d.0 in
    ap₂ ◌∷◌ same (chain_one link (at link x) b b' xs ys (omega arith) c.1 (rw same d.1))

pair_same : (x y : Pair) → x.place ≡ y.place → x.frame ≡ y.frame → x ≡ y
pair_same x y p f = ap₂ (λ (a b : ℕ). record { place = a; frame = b }) p f

state_same : (m m' : State) → m.sizes ≡ m'.sizes → m.starts ≡ m'.starts → m.held ≡ m'.held → m.pool ≡ m'.pool → m.ram ≡ m'.ram → m ≡ m'
state_same m m' z s h p r =
    ap₂ (λ (x : Sizes) (y : List Bool). record { sizes = x; starts = y; held = m.held; pool = m.pool; ram = m.ram }) z s
    ∙ ap₂ (λ (x : List (List Pair)) (y : List ℕ). record { sizes = m'.sizes; starts = m'.starts; held = x; pool = y; ram = m.ram }) h p
    ∙ ap (with_ram m') r

module _ (m m' : State) (k : Memory) (H : Holds m k) (H' : Holds m' k) where
  pub same_sizes : m.sizes ≡ m'.sizes
  same_sizes = sym H.sizes_are ∙ H'.sizes_are

  same_places : places m.sizes ≡ places m'.sizes
  same_places = ap places same_sizes

  -- each bit of the index says whether its place is a start
  same_start : (p : ℕ) → p < places m.sizes → is_start m p ≡ is_start m' p
  same_start p l =
      sym (index_bit (places m.sizes) (is_start m) k.index H.index_is p l)
      ∙ index_bit (places m'.sizes) (is_start m') k.index H'.index_is p (rw (← same_places) l)

  pub same_starts : m.starts ≡ m'.starts
  same_starts =
      let e = H.sound.starts_are in
      ext_get_or false m.starts m'.starts (e ∙ same_places ∙ sym H'.sound.starts_are) (λ p l. same_start p (rw (← e) l))

  same_count : (a : ℕ) → a < places m.sizes → length (region m a) ≡ length (region m' a)
  same_count a l = sym (H.counts a l) ∙ H'.counts a (rw (← same_places) l)

  -- the stack says which page, the table which frame
  same_pair : (a j : ℕ) → j < length (region m a) → j < length (region m' a) → get_or (region m a) j no_pair ≡ get_or (region m' a) j no_pair
  same_pair a j l l' =
      let x = H.entries a j l in
      let y = H'.entries a j l' in
      let p = sym x.stack_is ∙ y.stack_is in
      pair_same _ _ p (sym x.table_is ∙ ap (at k.table) p ∙ y.table_is)

  same_region : (a : ℕ) → a < places m.sizes → region m a ≡ region m' a
  same_region a l =
      let e = same_count a l in
      ext_get_or no_pair (region m a) (region m' a) e (λ j i. same_pair a j i (rw (← e) i))

  pub same_held : m.held ≡ m'.held
  same_held =
      let e = H.sound.held_are in
      ext_get_or [] m.held m'.held (e ∙ same_places ∙ sym H'.sound.held_are) (λ a l. same_region a (rw (← e) l))

  -- as many linked frames as the head says, from its first on, and then those that it says were never used
  pub same_pool : m.pool ≡ m'.pool
  same_pool =
      let p = H.pooled in
      let q = H'.pooled in
      let e = chain_one k.link k.head.first p.stop q.stop p.linked q.linked (sym p.many_is ∙ q.many_is) p.chain q.chain in
      p.pool_is ∙ ap (λ (xs : List ℕ). xs ++ unused k.head.fresh k.head.frames) e ∙ sym q.pool_is

  pub same_ram : m.ram ≡ m'.ram
  same_ram = sym H.ram_is ∙ H'.ram_is

-- one memory stands for one machine: head, tables and RAM fix sizes, starts, pairs, pool and bytes
pub one_machine : (m m' : State) (k : Memory) → Holds m k → Holds m' k → m ≡ m'
one_machine m m' k H H' =
    state_same m m' (same_sizes m m' k H H') (same_starts m m' k H H') (same_held m m' k H H') (same_pool m m' k H H') (same_ram m m' k H H')
