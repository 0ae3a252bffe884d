-- Starts, frames, pages: each step finds what it asks for, and the last leaves the state.
use Rattle.std.proofs.Common.{rules}
use Rattle.machine.specs.Machine.{State}
use Rattle.memory.specs.Memory.{memory}
use Rattle.restoring.specs.Founded.{Founded}
use Rattle.restoring.proofs.Restoring.{Reads, few, rows, low, can, restored}
use Rattle.restoring.proofs.restore.Goals as goal
use Rattle.restoring.proofs.restore.Goals.{After-wide-pages}

reads : (c : After-wide-pages) (m : State)
    → (let a = c.args in
    Founded m a.bytes.now
    (memory a.head a.index.now a.count.now a.table.now a.helper.now a.stack.now a.cache.now a.link.now m.ram)
    → Reads m a.bytes.now a.head a.index.now a.count.now a.table.now a.helper.now a.stack.now a.cache.now a.link.now
    c.wide-spaces.result c.wide-pages.result)
reads c m F = record { founded = F; spaces_are = c.wide-spaces.ensures; pages_are = c.wide-pages.ensures }

pub mark_all-requires : goal.mark_all-requires
mark_all-requires c = let x = reads (goal.at.mark_all-requires c).After-wide-pages c.requires.0 c.requires.1 in (few x, rows x)

pub lay_all-requires : goal.lay_all-requires
lay_all-requires c = let x = reads (goal.at.lay_all-requires c).After-wide-pages c.requires.0 c.requires.1 in (rows x, low x)

pub fill_all-requires : goal.fill_all-requires
fill_all-requires c =
    let x = reads (goal.at.fill_all-requires c).After-wide-pages c.requires.0 c.requires.1 in (
      few x,
      rows x,
      can x (record { marked = c.mark_all.ensures; laid = c.lay_all.ensures; first = search rules; linked = c.linked-next.ensures }),
    )

pub returns : goal.returns
returns c =
    λ m F.
    restored (reads (goal.at.returns c).After-wide-pages m F)
    (record { marked = c.mark_all.ensures; laid = c.lay_all.ensures; first = search rules; linked = c.linked-next.ensures }) _
    (c.fill_all.ensures _ m.ram)

pub shape_of-index : goal.shape_of-index
shape_of-index c = c.mark_all.ensures.size
