-- What is left of a frame when it is cleared around a part.
use Rattle.std.specs.Prelude.{List, ℕ, ◌+◌, ◌-◌, ◌*◌, ◌%◌, replicate}
use Rattle.std.proofs.lemmas.List.Edits.{sets}
use Rattle.machine.specs.Machine.{Sizes}

-- the bytes of frame f before and after the n bytes from address x on
abbrev pub zeroed_around : Sizes → ℕ → ℕ → ℕ → List ℕ → List ℕ
zeroed_around z f x n ram =
    let o = x % z.page in
    sets (sets ram (f * z.page) (replicate o 0)) (f * z.page + o + n) (replicate (z.page - (o + n)) 0)
