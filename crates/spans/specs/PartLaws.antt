-- A page's part of a span: where it lies in RAM, and the next one after it.
use Rattle.std.specs.Prelude.{◌≡◌, List, ◌++◌, ℕ, zero, suc, ◌+◌, ◌-◌, ◌*◌, ◌/◌, ◌%◌, ◌≤◌, ◌<◌, min, length, take, drop}
use Rattle.std.proofs.Common.{sym, ap, ◌∙◌, append_assoc, mod-lt, div-add-mod', div-lt_iff_lt-mul, mul-le-mul_left, mul-le-mul_right, add-zero, add_assoc, arith, length-drop, drop-drop, length-take-le}
use Rattle.std.proofs.Math.Nat.{add-sub_cancel_left}
use borrow.Rule.Slice.PartMut.{put_mid}
use Rattle.std.proofs.Math.Arith.{digits_div}
use Rattle.std.proofs.lemmas.List.Edits.{sets, sets-eq}
use Rattle.places.specs.Laws.{div_mono}
use Rattle.machine.specs.Machine.{Sizes, span_pages}
use Rattle.machine.specs.Claims.{Address}
use Rattle.machine.proofs.Laws.Sizes.{fit}
use Rattle.memory.specs.Memory.{sizes_of}
use Rattle.memory.specs.declared.Head.{Head}
use Rattle.laws.specs.Parts.{same_page}
use Rattle.spans.specs.Parts.{Span, Part, Frame, RamPlace}
use Rattle.spans.specs.Shifted.{some_page, page_small}

-- a part of a list that ends within it
pub next_long : (bytes : List ℕ) (a b : ℕ) → b ≤ length bytes → length (take (b - a) (drop a bytes)) ≡ b - a
next_long bytes a b l = length-take-le (b - a) (drop a bytes) (rw length-drop (omega arith))

-- what comes back of a part that was lent on
pub put_sets : (from n : ℕ) (ram vs : List ℕ) → length vs ≡ n → from + n ≤ length ram → put_mid from n ram vs ≡ sets ram from vs
put_sets from n ram vs e l =
    ap (λ (ws : List ℕ). take from ram ++ (vs ++ ws)) (drop-drop n from ram)
    ∙ sym (append_assoc (take from ram) vs (drop (from + n) ram))
    ∙ ap (λ (k : ℕ). take from ram ++ vs ++ drop (from + k) ram) (sym e)
    ∙ sym (sets-eq vs ram from (rw e l))

-- a frame's end lies in the RAM, and is small
module _ {h : Head} {f : ℕ} {ram : List ℕ} (r : Frame h f ram) where
  pub frame_ends : f * (sizes_of h).page + (sizes_of h).page ≤ length ram
  frame_ends = omega (arith, r.ram_long, mul-le-mul_right (sizes_of h).page r.below)

  pub frame_low : f * (sizes_of h).page + (sizes_of h).page ≤ 4294967296
  frame_low =
      omega (
        arith,
        mul-le-mul_right (sizes_of h).page r.below,
        mul-le-mul_right (sizes_of h).page (fit (sizes_of h) r.sizes_ok_lem).few_frames,
        mul-le-mul_left 65536 (page_small h r.sizes_ok_lem),
      )

module _ (h : Head) (i x n : ℕ) (ram : List ℕ) (pre : Part h i x n ram) where
  -- its first byte
  pub part_address : Address (sizes_of h) i x
  part_address = record { space = pre.span.space; inside = omega (arith, pre.span.ends, pre.some_bytes) }

  -- at most a page
  pub part_small : n ≤ 65536
  part_small = omega (arith, pre.fits, page_small h pre.span.sizes_ok_lem)

  -- in the frame
  module _ (from : ℕ) (at : RamPlace h x from) where
    frame : Frame h at.frame ram
    frame = record { sizes_ok_lem = pre.span.sizes_ok_lem; below = at.below; ram_long = pre.span.ram_long }

    pub part_ends : from + n ≤ length ram
    part_ends = omega (arith, at.is, pre.fits, frame_ends frame)

    pub part_low : from + n ≤ 4294967296
    part_low = omega (arith, at.is, pre.fits, frame_low frame)

    pub part_long : length (take (from + n - from) (drop from ram)) ≡ n
    part_long = next_long ram from (from + n) part_ends ∙ add-sub_cancel_left from n

-- a span of one page is a part
pub one_page : (h : Head) (i x n : ℕ) (ram : List ℕ) → Span h i x n ram → span_pages (sizes_of h) x n ≡ 1 → Part h i x n ram
one_page h i x zero ram s e = absurd (omega arith)
one_page h i x (suc n) ram s e =
    let p = (sizes_of h).page in
    let last : x + n < suc (x / p) * p = (div-lt_iff_lt-mul (some_page h s.sizes_ok_lem)).0 (omega arith) in
    record { span = s; some_bytes = omega arith; fits = omega (arith, last, div-add-mod' x p) }

-- ---- parts one after another

-- the next s of n bytes are some, and of one page
module _ (z : Sizes) (x n done s : ℕ) (pos : 0 < z.page) (low : done < n) (is : s ≡ min (z.page - (x + done) % z.page) (n - done)) where
  pub some_next : 0 < s
  some_next = omega (arith, mod-lt (x + done) pos)

  pub next_fits : (x + done) % z.page + s ≤ z.page
  next_fits = omega (arith, mod-lt (x + done) pos)

-- the next s of n bytes, of which `done` are copied
module _ (h : Head) (i x n : ℕ) (ram : List ℕ) (pre : Span h i x n ram) (done s : ℕ) (low : done < n)
    (is : s ≡ min ((sizes_of h).page - (x + done) % (sizes_of h).page) (n - done)) where
  pub next_some : 0 < s
  next_some = some_next (sizes_of h) x n done s (some_page h pre.sizes_ok_lem) low is

  pub next_within : done + s ≤ n
  next_within = omega arith

  pub next_part : (bytes : List ℕ) → length bytes ≡ n → Part h i (x + done) (length (take (done + s - done) (drop done bytes))) ram
  next_part bytes l =
      let e = next_long bytes done (done + s) (omega arith) in
      record {
        span = record { sizes_ok_lem = pre.sizes_ok_lem; space = pre.space; ends = omega (arith, pre.ends); ram_long = pre.ram_long };
        some_bytes = omega (arith, next_some);
        fits = omega (arith, next_fits (sizes_of h) x n done s (some_page h pre.sizes_ok_lem) low is);
      }

-- the pages of the bytes done so far lie before that of the next byte
pub record PagesDone (z : Sizes) (x n done : ℕ) : Type 0 where
  pub within : done ≤ n
  pub next_page : done < n → x / z.page + span_pages z x done ≡ (x + done) / z.page

module _ (z : Sizes) (x n : ℕ) (pos : 0 < z.page) where
  pub pages_none : PagesDone z x n 0
  pages_none = record { within = omega arith; next_page = λ _. rw (add-zero, add-zero) }

  pub pages_before : (done : ℕ) → PagesDone z x n done → done < n → (j : ℕ) → j < done → (x + j) / z.page < (x + done) / z.page
  pages_before (suc d) p l j h =
      let least : x / z.page ≤ (x + d) / z.page = div_mono pos (omega arith) in
      let most : (x + j) / z.page ≤ (x + d) / z.page = div_mono pos (omega arith) in
      omega (arith, p.next_page l)
  pages_before zero p l j h = absurd (omega arith)

  module _ (done s : ℕ) (p : PagesDone z x n done) (low : done < n) (is : s ≡ min (z.page - (x + done) % z.page) (n - done)) where
    pub one_page_more : span_pages z x (done + s) ≡ suc (span_pages z x done)
    one_page_more =
        let y = x + done in
        let last = same_page z.page y (s - 1) (omega (arith, next_fits z x n done s pos low is, some_next z x n done s pos low is)) in
        let n_is : done + s ≡ suc (done + (s - 1)) = omega (arith, some_next z x n done s pos low is) in
        ap (span_pages z x) n_is
        ∙ ap suc
        (ap (λ (c : ℕ). c / z.page - x / z.page) (sym (add_assoc x done (s - 1))) ∙ ap (λ (c : ℕ). c - x / z.page) last.0
        ∙ (let e : y / z.page - x / z.page ≡ span_pages z x done = omega (arith, p.next_page low) in e))

    pub pages_more : PagesDone z x n (done + s)
    pages_more =
        record {
          within = omega arith;
          next_page = λ l.
              let y = x + done in
              let whole : s ≡ z.page - y % z.page = omega arith in
              let e : x + (done + s) ≡ suc (y / z.page) * z.page + 0 = omega (arith, div-add-mod' y z.page, mod-lt y pos) in
              let there : (x + (done + s)) / z.page ≡ suc (y / z.page) = ap (λ (c : ℕ). c / z.page) e ∙ digits_div (suc (y / z.page)) {m = z.page} pos in
              omega (arith, p.next_page low, one_page_more);
        }
