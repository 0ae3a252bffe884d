-- Nothing is lost, every frame has one holder, and different resident addresses have different bytes.
use Rattle.std.specs.Prelude.{◌≡◌, refl, List, [], ℕ, ◌+◌, ◌*◌, ◌/◌, ◌%◌, ◌≤◌, ◌<◌, length, get_or}
use Rattle.std.proofs.Common.{sym, ap, ◌∙◌, subst, mod-lt, div-add-mod', mul-le-mul_right, arith}
use Rattle.std.proofs.Math.Option.{some, none-ne-some, some-injective}
use Rattle.std.proofs.Math.Decide.{ℕ_discrete, dec_lt}
use Rattle.std.proofs.Math.Arith.{digits_div, digits_mod}
use Rattle.sequence.specs.Lists.{length_tabulate}
use Rattle.sequence.specs.Sums.{sum, sum_one, sum_at, sum_two, hit, hit_same, count_from, count_none}
use Rattle.machine.specs.Machine.{page_of_address, State, Pair, region, Page, outside, unmapped, mapped, page_of, ram_in, ram_at}
use Rattle.machine.specs.Claims.{in_regions, resident_pages, times_free, times_held, no_pair, Sound, Address, Same}
use Rattle.machine.proofs.Laws.Sizes.{fit, some_bytes, page_below}
use Rattle.machine.proofs.Laws.Lookup.{Entry, frame_in_lem, Mapped, is_mapped, mapped_is}
use Rattle.machine.proofs.Laws.Kept.{start_of_pair, start_held}

-- where an address is in RAM, its page is mapped
pub record Backed (m : State) (i x p : ℕ) : Type 0 where
  pub start : ℕ
  pub frame : ℕ
  pub is_mapped : page_of m (page_of_address m.sizes i x) ≡ mapped start frame
  pub place_is : p ≡ frame * m.sizes.page + x % m.sizes.page

pub backed : (m : State) (i x p : ℕ) → ram_at m i x ≡ some p → Backed m i x p
backed m i x p e = go (page_of m (page_of_address m.sizes i x)) refl e
  where
    go : (g : Page) → page_of m (page_of_address m.sizes i x) ≡ g → ram_in m.sizes x g ≡ some p → Backed m i x p
    go outside q e = absurd (none-ne-some p e)
    go (unmapped a) q e = absurd (none-ne-some p e)
    go (mapped a f) q e = record { start = a; frame = f; is_mapped = q; place_is = sym (some-injective _ p e) }

pub ram_mapped : (m : State) (i x a f : ℕ) → Mapped m (page_of_address m.sizes i x) a f → ram_at m i x ≡ some (f * m.sizes.page + x % m.sizes.page)
ram_mapped m i x a f h = ap (ram_in m.sizes x) (mapped_is m _ a f h)

-- two numbers in base n have the same digits
pub digits : (n a r b q : ℕ) → r < n → q < n → a * n + r ≡ b * n + q → (a ≡ b) × (r ≡ q)
digits n a r b q h k e = (
  sym (digits_div a {m = n} h) ∙ ap (λ (x : ℕ). x / n) e ∙ digits_div b {m = n} k,
  sym (digits_mod a {m = n} h) ∙ ap (λ (x : ℕ). x % n) e ∙ digits_mod b {m = n} k,
)

module _ (m : State) (s : Sound m) where
  abbrev F : ℕ
  F = m.sizes.frames

  -- each frame is once in the pool or held once
  pub one_holder : (f : ℕ) → f < m.sizes.frames → times_free f m + times_held f m ≡ 1
  one_holder f h = omega (arith, s.whole (hit f), count_from f 0 (λ k. k) F (λ k. omega arith) (omega arith) (omega arith))

  pub no_holder : (f : ℕ) → m.sizes.frames ≤ f → times_free f m + times_held f m ≡ 0
  no_holder f h = omega (arith, s.whole (hit f), count_none f (λ k. k) F (λ k l. omega arith))

  pub at_most_once : (f : ℕ) → times_free f m + times_held f m ≤ 1
  at_most_once f = elim (dec_lt f m.sizes.frames) [
    | yes l ↦ omega (arith, one_holder f l)
    | no l ↦ omega (arith, no_holder f (omega arith))
  ]

  -- the pool and the resident pages are all frames
  pub pool_and_resident : length m.pool + resident_pages m ≡ m.sizes.frames
  pool_and_resident = omega (arith, simp sum_one at (s.whole (λ _. 1)), length_tabulate (λ (k : ℕ). k) F)

  -- a frame held by a page counts, and two pages that hold it are one
  pub in_held : (a k : ℕ) → k < length (region m a) → a < length m.held
  in_held a k l = start_held m s a (start_of_pair m s a k l)

  abbrev holds : ℕ → List Pair → ℕ
  holds f xs = sum (λ x. hit f x.frame) xs

  counted : (a p f : ℕ) (e : Entry p f (region m a)) → 1 ≤ holds f (region m a)
  counted a p f e =
      omega (arith, sum_at (λ x. hit f x.frame) (region m a) e.at no_pair e.inside, hit_same f _ (ap (λ (x : Pair). x.frame) e.is))

  pub entry_held : (a p f : ℕ) → Entry p f (region m a) → 1 ≤ times_held f m
  entry_held a p f e = omega (arith, counted a p f e, sum_at (λ xs. holds f xs) m.held a [] (in_held a e.at e.inside))

  pub frame_below : (a p f : ℕ) → Entry p f (region m a) → f < m.sizes.frames
  frame_below a p f e = elim (dec_lt f m.sizes.frames) [
    | yes l ↦ l
    | no l ↦ absurd (omega (arith, no_holder f (omega arith), entry_held a p f e))
  ]

  -- two entries of a list that have a number which stands once are one
  pub same_entry : (key : Pair → ℕ) (v a : ℕ) {p q f g : ℕ} → in_regions (λ x. hit v (key x)) m ≤ 1 → (e : Entry p f (region m a)) (d : Entry q g (region m a))
      → key (record { place = p; frame = f }) ≡ v → key (record { place = q; frame = g }) ≡ v
      → ◌≡◌ {A = Pair} (record { place = p; frame = f }) (record { place = q; frame = g })
  same_entry key v a once e d x y = elim (ℕ_discrete e.at d.at) [
    | yes k ↦ sym e.is ∙ ap (λ (k : ℕ). get_or (region m a) k no_pair) k ∙ d.is
    | no k ↦
        absurd
        (omega (
          arith,
          once,
          sum_at (λ xs. sum (λ r. hit v (key r)) xs) m.held a [] (in_held a e.at e.inside),
          sum_two (λ r. hit v (key r)) (region m a) e.at d.at no_pair e.inside d.inside k,
          hit_same v _ (ap key e.is ∙ x),
          hit_same v _ (ap key d.is ∙ y),
        ))
  ]

  same_region : (p q a f : ℕ) → Entry p f (region m a) → Entry q f (region m a) → p ≡ q
  same_region p q a f e g = ap (λ (x : Pair). x.place) (same_entry (λ x. x.frame) f a (omega (arith, at_most_once f)) e g refl refl)

  same_page : (p q a b f : ℕ) → Entry p f (region m a) → Entry q f (region m b) → p ≡ q
  same_page p q a b f e g = elim (ℕ_discrete a b) [
    | yes k ↦ same_region p q b f (subst (λ (c : ℕ). Entry p f (region m c)) k e) g
    | no k ↦
        absurd
        (omega (
          arith,
          at_most_once f,
          counted a p f e,
          counted b q f g,
          sum_two (λ xs. holds f xs) m.held a b [] (in_held a e.at e.inside) (in_held b g.at g.inside) k,
        ))
  ]

  entry : (p a f : ℕ) → page_of m p ≡ mapped a f → Entry p f (region m a)
  entry p a f e = frame_in_lem p f (region m a) (is_mapped m p a f e).frame_is

  -- ---- bytes

  -- a resident address lies in RAM below F x P
  pub ram_below : (i x p : ℕ) → ram_at m i x ≡ some p → p < m.sizes.frames * m.sizes.page
  ram_below i x p e =
      let b = backed m i x p e in
      let f = frame_below b.start _ b.frame (entry _ b.start b.frame b.is_mapped) in
      let o = mod-lt x (some_bytes m.sizes (fit m.sizes s.sizes_ok_lem)) in
      omega (arith, b.place_is, mul-le-mul_right m.sizes.page f)

  -- two resident addresses at one byte are one
  pub same_byte : (i x j y p : ℕ) → Address m.sizes i x → Address m.sizes j y → ram_at m i x ≡ some p → ram_at m j y ≡ some p → Same i x j y
  same_byte i x j y p ax ay ex ey =
      let b = backed m i x p ex in
      let c = backed m j y p ey in
      let z = m.sizes in
      let ok = fit z s.sizes_ok_lem in
      let pos = some_bytes z ok in
      let d = digits z.page b.frame (x % z.page) c.frame (y % z.page) (mod-lt x pos) (mod-lt y pos) (sym b.place_is ∙ c.place_is) in
      let g = subst (λ (f : ℕ). page_of m (page_of_address z j y) ≡ mapped c.start f) (sym d.0) c.is_mapped in
      let same = same_page _ _ b.start c.start b.frame (entry _ b.start b.frame b.is_mapped) (entry _ c.start b.frame g) in
      let page = digits z.pages i (x / z.page) j (y / z.page) (page_below z x ok ax.inside) (page_below z y ok ay.inside) same in (
        page.0,
        sym (div-add-mod' x z.page) ∙ ap (λ (k : ℕ). k * z.page + x % z.page) page.1 ∙ ap (λ (k : ℕ). y / z.page * z.page + k) d.1
            ∙ div-add-mod' y z.page,
      )
