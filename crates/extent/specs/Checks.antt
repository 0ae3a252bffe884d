-- Refusals 1 and 3 of the index, in this order, from the buffer's length alone; 0 for neither.
use Rattle.std.specs.Prelude.{Bool, cond, ◌&&◌, ℕ, leb, ltb}
use Rattle.places.specs.Places.{size}

unfoldable pub places_ok : ℕ → Bool
places_ok t = leb 1 t && leb t 262144

unfoldable pub check_needed : ℕ → ℕ
unfolding places_ok
check_needed t = cond (places_ok t) 0 1

unfoldable pub check_size : ℕ → ℕ → ℕ
unfolding places_ok size
check_size len t = cond (places_ok t && leb (size t) len) 0 1

unfoldable pub check : ℕ → ℕ → ℕ → ℕ
unfolding places_ok size
check len t p = cond (places_ok t && leb (size t) len) (cond (ltb p t) 0 3) 1
