-- The parts that a call is lent lie inside their buffers.
use Rattle.std.specs.Prelude.{◌≡◌, refl, Bool, true, false, cond, ◌&&◌, ℕ, ◌-◌, ◌≤◌, eqb, leb, Option, Some, None}
use Rattle.std.proofs.Common.{arith, leb-true}
use Rattle.std.proofs.lemmas.Grind.{common_steps}
use Rattle.machine.specs.declared.PageCall.{PageCall}
use Rattle.machine.proofs.Laws.Sizes.{both}
use Rattle.requests.specs.declared.Request.{Request}
use Rattle.requests.specs.declared.Request.TheVariants.{Start, Page, Free, Translate, Read, Write, List, WriteMap, ReadMap}
use Rattle.decoding.specs.declared.Parts.{Parts}
use Rattle.decoding.specs.declared.Code.{Code}
use Rattle.decoding.specs.Calls.{fits, inside, no_parts, byte_parts, record_parts, alone, byte_code, record_code, page_kind, decoded_as, decoded}

pub record Inside (p : Parts) (whole_bytes whole_records : ℕ) : Type 0 where
  pub from_first : p.from ≤ p.to
  pub bytes_fit : p.to ≤ whole_bytes
  pub first_first : p.first ≤ p.last
  pub records_fit : p.last ≤ whole_records

-- ---- parts whose numbers pass

inside_fits : (t : Bool) (first n whole : ℕ) → (t && inside first n whole) ≡ true → (first ≤ whole) × (n ≤ whole - first)
inside_fits t first n whole e =
    let i = both (leb first whole) (leb n (whole - first)) (both t (inside first n whole) e).1 in
    (leb-true first whole i.0, leb-true n (whole - first) i.1)

module _ (whole_bytes whole_records : ℕ) where
  no_parts_lem : Inside no_parts whole_bytes whole_records
  no_parts_lem = record { from_first = omega arith; bytes_fit = omega arith; first_first = omega arith; records_fit = omega arith }

  byte_parts_lem : (t : Bool) (from n : ℕ) → (t && inside from n whole_bytes) ≡ true → Inside (byte_parts from n) whole_bytes whole_records
  byte_parts_lem t from n e =
      let i = inside_fits t from n whole_bytes e in
      record { from_first = omega arith; bytes_fit = omega arith; first_first = omega arith; records_fit = omega arith }

  record_parts_lem : (t : Bool) (first n : ℕ) → (t && inside first n whole_records) ≡ true → Inside (record_parts first n) whole_bytes whole_records
  record_parts_lem t first n e =
      let i = inside_fits t first n whole_records e in
      record { from_first = omega arith; bytes_fit = omega arith; first_first = omega arith; records_fit = omega arith }

  -- a code with these parts, if its numbers pass
  made : (x : Code) (t : Bool) (q : Request) (y : Parts) → (t ≡ true → Inside y whole_bytes whole_records)
      → cond t (Some (record { request = q; parts = y })) None ≡ Some x → Inside x.parts whole_bytes whole_records
  made x true q y f e = let same : record { request = q; parts = y } ≡ x = cc in rw (← same) (f refl)
  made x false q y f e = absurd (cc)

-- ---- a code that is read

module _ (x : Code) (whole_bytes whole_records : ℕ) where
  -- what a code's reading says of the code that it gives
  abbrev Lent : Option Code → Type 0
  Lent o = o ≡ Some x → Inside x.parts whole_bytes whole_records

  either : (t : Bool) (y z : Option Code) → Lent y → Lent z → Lent (cond t y z)
  either true y z f g e = f e
  either false y z f g e = g e

  no_call : Lent None
  no_call e = absurd (cc)

  alone_lem : (q : Request) → Lent (Some (alone q))
  alone_lem q e = grind (arith, common_steps)

  byte_code_lem : (q : Request) (from n : ℕ) → Lent (byte_code q from n whole_bytes)
  byte_code_lem q from n e = grind (arith, common_steps)

  record_code_lem : (q : Request) (first n : ℕ) → Lent (record_code q first n whole_records)
  record_code_lem q first n e = grind (arith, common_steps)

  -- a page call, whichever it is, is lent neither
  inside_as : (k : Option PageCall) (kind a b c d : ℕ) → Lent (decoded_as k kind a b c d whole_bytes whole_records)
  inside_as (Some p) kind a b c d = either (fits a && fits b) _ _ (alone_lem (Page p a b)) no_call
  inside_as None kind a b c d =
      either (eqb kind 1) _ _ (either (fits a && fits b && fits c && fits d) _ _ (alone_lem (Start a b c d)) no_call)
      (either (eqb kind 7) _ _ (alone_lem Free)
      (either (eqb kind 8) _ _ (either (fits a) _ _ (alone_lem (Translate a b)) no_call)
      (either (eqb kind 9) _ _ (either (fits a) _ _ (byte_code_lem (Read a b) c d) no_call)
      (either (eqb kind 10) _ _ (either (fits a) _ _ (byte_code_lem (Write a b) c d) no_call)
      (either (eqb kind 11) _ _ (either (fits a) _ _ (record_code_lem (List a) b c) no_call)
      (either (eqb kind 12) _ _ (byte_code_lem WriteMap a b)
      (either (eqb kind 13) _ _ (byte_code_lem ReadMap a b) no_call)))))))

  pub decoded_inside : (kind a b c d : ℕ) → decoded kind a b c d whole_bytes whole_records ≡ Some x → Inside x.parts whole_bytes whole_records
  unfolding decoded
  decoded_inside kind = inside_as (page_kind kind) kind
