-- What a count of bytes says of the line's end, and which bytes its hex is.
use Rattle.std.specs.Prelude.{◌≡◌, true, ◌&&◌, List, [], ◌∷◌, ◌++◌, ℕ, ◌-◌, ◌*◌, ◌/◌, ◌%◌, ◌≤◌, eqb, leb, drop, Option, Some, None}
use native.Mathlib.Omega.{arith}
use Rattle.std.proofs.Common.{leb-true, eqb-true, le-leb}
use Rattle.std.proofs.Math.ListN.{length}
use Rattle.std.proofs.Math.Seq.{drop-length}
use Rattle.machine.proofs.Laws.Sizes.{both}
use Rattle.fields.specs.Laws.{either, Ends, tail}
use Rattle.hexing.specs.Hex.{all_hex, is_bytes, hex_count, bytes_in, hex_of, unhexed}

-- ---- how many

module _ (line : List ℕ) where
  -- the bytes of a write
  abbrev pub Hex : ℕ → Type 0
  Hex n = (2 * n ≤ length line) × (all_hex (hex_of line n) ≡ true)

  -- what a count says
  abbrev pub Counted : Option ℕ → Type 0
  Counted (Some n) = (n ≤ 256) × Hex n
  Counted None = Unit

  -- no bytes: the last 0 bytes of the line are hex
  no_hex : Hex 0
  no_hex =
      let all : length line - 2 * 0 ≡ length line = omega arith in
      (omega arith, rw (all, drop-length))

  -- a write's bytes: hex, even many, at the line's end
  pub bytes_counted : (cs : List ℕ) → Ends line cs → Counted (hex_count cs)
  bytes_counted [] e = (omega arith, no_hex)
  bytes_counted (c ∷ cs) e = either Counted (eqb c 32 && is_bytes cs) _ _ some tt
    where
      some : (eqb c 32 && is_bytes cs) ≡ true → Counted (Some (length cs / 2))
      some t =
          let p₃ = both _ (all_hex cs) (both (eqb c 32) (is_bytes cs) t).1 in
          let p₂ = both _ (eqb (length cs % 2) 0) p₃.0 in
          let p₁ = both (leb 2 (length cs)) (leb (length cs) 512) p₂.0 in
          let few = leb-true (length cs) 512 p₁.1 in
          let even = eqb-true (length cs % 2) 0 p₂.1 in
          let r = tail line c cs e in
          let all : 2 * (length cs / 2) ≡ length cs = omega arith in
          (omega arith, (omega (arith, r.short), rw (all, r.end) p₃.1))

-- ---- the bytes of a line's hex

-- where they are hex and there is room, they stand at the front
pub unhexed_all : (line : List ℕ) (n : ℕ) (buffer : List ℕ) → 2 * n ≤ length line → n ≤ length buffer → all_hex (hex_of line n) ≡ true
    → unhexed line n buffer ≡ bytes_in (hex_of line n) ++ drop n buffer
unfolding unhexed
unhexed_all line n buffer digits room hex = rw (le-leb (2 * n) (length line) digits, le-leb n (length buffer) room, hex)
