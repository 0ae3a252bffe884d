-- Words of a file that are to be all different, and what is promised of the set of those seen.
use Rattle.std.specs.Prelude.{◌≡◌, Bool, true, false, cond, ◌&&◌, List, [], ◌∷◌, ℕ, zero, suc, ◌+◌, ◌-◌, ◌*◌, ◌≤◌, ◌<◌, leb, ltb, length, get_or}
use Rattle.places.specs.Places.{adding, all_new}
use Rattle.extent.specs.Checks.{check_size}
use Rattle.index.specs.Words.{IndexOf}

-- n words of a list, every so many from one on
unfoldable pub picked : List ℕ → ℕ → ℕ → ℕ → List ℕ
picked ws at step zero = []
picked ws at step (suc n) = get_or ws at 0 ∷ picked ws (at + step) step n

-- those of them from number k on
abbrev pub picked_on : List ℕ → ℕ → ℕ → ℕ → ℕ → List ℕ
picked_on ws from step n k = picked ws (from + step * k) step (n - k)

-- they lie inside so many bytes
abbrev pub Reach : ℕ → ℕ → ℕ → ℕ → Type 0
Reach bytes at step n = (k : ℕ) → k < n → 4 * (at + step * k) + 4 ≤ bytes

-- those of a list that lie in the window of n numbers from lo on, counted from lo
unfoldable pub in_window : ℕ → ℕ → List ℕ → List ℕ
in_window lo n [] = []
in_window lo n (x ∷ xs) = let r = in_window lo n xs in cond (leb lo x && ltb (x - lo) n) ((x - lo) ∷ r) r

-- those of a list from lo on
unfoldable pub from_on : ℕ → List ℕ → List ℕ
from_on lo [] = []
from_on lo (x ∷ xs) = let r = from_on lo xs in cond (leb lo x) (x ∷ r) r

-- ws' holds the empty set of numbers below f, and has room for all of them
pub record Emptied (f : ℕ) (ws ws' : List ℕ) : Type 0 where
  pub size : length ws' ≡ length ws
  pub room : check_size (length ws') f ≡ 0
  pub none : IndexOf f (λ _. false) ws'

-- the numbers xs were put into the set that ws holds; r: all were new
pub record Saw (f : ℕ) (xs ws : List ℕ) (r : Bool) (ws' : List ℕ) : Type 0 where
  pub size : length ws' ≡ length ws
  pub right : (s : ℕ → Bool) → IndexOf f s ws → r ≡ all_new f s xs
  pub after : (s : ℕ → Bool) → IndexOf f s ws → r ≡ true → IndexOf f (adding s xs) ws'

-- the numbers xs are to be put into the set that seen₀ holds; ys are left, and what is seen of them from here on is what is seen of all
pub record Seeing (f : ℕ) (xs seen₀ seen ys : List ℕ) : Type 0 where
  pub size : length seen ≡ length seen₀
  pub rest : (r : Bool) (seen' : List ℕ) → Saw f ys seen r seen' → Saw f xs seen₀ r seen'
