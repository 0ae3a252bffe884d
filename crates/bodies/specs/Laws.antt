-- What a fine body is, and what fine bodies give to the walks over them: none is cut.
use Rattle.std.specs.Prelude.{◌≡◌, refl, true, List, [], ◌∷◌, ℕ}
use Rattle.std.proofs.Common.{arith, eq-eqb}
use Rattle.machine.specs.Map.{rest_in, blocks_in, part_in, whole_from}
use Rattle.machine.specs.MapRules.{tiled, fine_from, fine_body, bodies_fine}
use Rattle.machine.proofs.Laws.Sizes.{both}
use Rattle.machine.proofs.Laws.Map.Rules.{bodies_each}
use Rattle.walking.specs.Rows.{Rowed, Bodied}

-- it isn't cut, and its regions follow each other from some page on
pub fine_parts : (n : ℕ) (ws : List ℕ) → fine_body n ws ≡ true → (b : ℕ) × (whole_from 0 ws ≡ true) × (tiled n b (blocks_in ws) ≡ true)
unfolding whole_from tiled rest_in fine_from
fine_parts n [] h = (n, refl, eq-eqb n n refl)
fine_parts n (a ∷ ws) h =
    let (whole, tiles) = both (whole_from 0 (a ∷ ws)) (tiled n a (blocks_in (a ∷ ws))) h in
    (a, whole, tiles)

pub fine_bodied : (pages : ℕ) {bytes : ℕ} {ws : List ℕ} {spaces : ℕ} → Rowed bytes ws spaces → bodies_fine pages ws 0 spaces ≡ true → Bodied bytes ws spaces
fine_bodied pages {bytes} {ws} {spaces} r h =
    record {
      rows = r.rows;
      inside = r.inside;
      whole = λ i l. (fine_parts pages (part_in ws i) (bodies_each pages ws 0 spaces h i (omega arith) (omega arith)).fine).1;
    }
