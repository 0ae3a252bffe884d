-- An answer as three numbers: its kind or the number of its refusal, a value, the index words.
use Rattle.std.specs.Prelude.{List, [], ◌∷◌, ℕ, length}
use Rattle.machine.specs.Machine.{Answer, done, old, new, resident, absent, pages, frames, at, bytes, regions, map_file, handed, refused, refused_after}
use Rattle.requests.specs.declared.Answer as coded

abbrev pub encoded : Answer → List ℕ
encoded done = 16 ∷ 0 ∷ 0 ∷ []
encoded (old f) = 17 ∷ f ∷ 0 ∷ []
encoded (new f w) = 18 ∷ f ∷ w ∷ []
encoded (resident f) = 19 ∷ f ∷ 0 ∷ []
encoded (absent w) = 20 ∷ 0 ∷ w ∷ []
encoded (pages n) = 21 ∷ n ∷ 0 ∷ []
encoded (frames n) = 22 ∷ n ∷ 0 ∷ []
encoded (at p) = 23 ∷ p ∷ 0 ∷ []
encoded (bytes vs) = 24 ∷ length vs ∷ 0 ∷ []
encoded (regions rs) = 25 ∷ length rs ∷ 0 ∷ []
encoded (map_file vs) = 26 ∷ length vs ∷ 0 ∷ []
-- as of every call that has nothing to tell
encoded handed = 16 ∷ 0 ∷ 0 ∷ []
encoded (refused k) = k ∷ 0 ∷ 0 ∷ []
encoded (refused_after k w) = k ∷ 0 ∷ w ∷ []

abbrev pub numbers_of : coded.Answer → List ℕ
numbers_of a = a.kind ∷ a.value ∷ a.words ∷ []
