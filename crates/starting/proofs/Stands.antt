-- What begins stands for the state that a start begins.
use Rattle.std.specs.Prelude.{◌≡◌, true, List, ℕ}
use Rattle.machine.specs.Machine.{sizes_ok, begun}
use Rattle.memory.specs.Memory.{memory, sizes_of}
use Rattle.memory.specs.declared.Head.{Head}
use Rattle.promise.specs.Holds.{Holds}
use Rattle.starting.specs.Models.{start_head}
use Rattle.starting.specs.Steps.{Unused}
use Rattle.starting.proofs.Starting.{Begun, begun_holds}

-- memory so begun stands for the state that a start of these sizes begins
pub begun_stands : (h : Head) → Unused h → sizes_ok (sizes_of h) ≡ true → (ws count : List ℕ) (h' : Head) (ws' count' : List ℕ) → Begun h ws count h' ws' count'
    → (table helper stack cache link ram : List ℕ) → Holds (begun (sizes_of h) ram) (memory h' ws' count' table helper stack cache link ram)
begun_stands h u ok ws count h' ws' count' b table helper stack cache link ram =
    let new : h ≡ start_head h.spaces h.pages h.frames h.page.shift =
    λ j. record { spaces = h.spaces; pages = h.pages; frames = h.frames; page = h.page; first = u.first j; many = u.many j; fresh = u.fresh j } in
    rw (b.head_is, b.index_is, b.count_is, new)
    (begun_holds h.spaces h.pages h.frames h.page.shift (memory h ws count table helper stack cache link ram) ok)
