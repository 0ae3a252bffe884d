-- Each arm is its call's own promise.
use native.Mathlib.Omega.{arith}
use Rattle.pages.specs.Serving.{done_serves, free_serves, translated_serves, read_serves, list_serves, map_serves}
use Rattle.std.proofs.Common.{rules}
use Rattle.serving.proofs.serve.Goals as goal

pub returns-in-Start : goal.returns-in-Start
returns-in-Start c =
    rw c.in-Start.is
    (done_serves _ _ _ _ _ _ c.start-out.result.answer (c.start-out.ensures _ _ _ _ _ _) c.of_done.ensures)

pub returns-in-Page : goal.returns-in-Page
returns-in-Page c =
    rw c.in-Page.is (c.serve_page.ensures _ _)

pub returns-in-Free : goal.returns-in-Free
returns-in-Free c =
    rw c.in-Free.is (free_serves _ _ _ _ _ _ c.free-a.result (c.free-a.ensures _ _ _ _ _ _ _ _) c.of_free.ensures)

pub returns-in-Translate : goal.returns-in-Translate
returns-in-Translate c =
    rw c.in-Translate.is
    (translated_serves _ _ _ _ _ _ c.translate-a.result (c.translate-a.ensures _ _) c.of_translated.ensures)

pub returns-in-Read : goal.returns-in-Read
returns-in-Read c =
    rw c.in-Read.is
    (read_serves _ _ _ _ _ _ _ _ (c.read-a.ensures _) c.of_copied.ensures)

pub returns-in-Write : goal.returns-in-Write
returns-in-Write c =
    rw c.in-Write.is
    (done_serves _ _ _ _ _ _ c.write-out.result.answer c.write-out.ensures c.of_done-in-Write.ensures)

pub returns-in-List : goal.returns-in-List
returns-in-List c =
    rw c.in-List.is
    (list_serves _ _ _ _ _ _ _ (omega arith) (c.list-a.ensures _ _ _ _ _ _) c.of_listed.ensures)

pub returns-in-WriteMap : goal.returns-in-WriteMap
returns-in-WriteMap c =
    rw c.in-WriteMap.is
    (map_serves _ _ _ _ _ _ (omega arith) (c.write_map-a.ensures _ _ _) c.of_written.ensures)

pub returns-in-ReadMap : goal.returns-in-ReadMap
returns-in-ReadMap c =
    rw c.in-ReadMap.is
    (done_serves _ _ _ _ _ _ c.read_map-out.result.answer (c.read_map-out.ensures _) c.of_done-in-ReadMap.ensures)

pub shape_of-buffer-in-WriteMap : goal.shape_of-buffer-in-WriteMap
shape_of-buffer-in-WriteMap c = search rules

pub shape_of-index-in-WriteMap : goal.shape_of-index-in-WriteMap
shape_of-index-in-WriteMap c = search rules

pub shape_of-count-in-WriteMap : goal.shape_of-count-in-WriteMap
shape_of-count-in-WriteMap c = search rules

pub shape_of-table-in-WriteMap : goal.shape_of-table-in-WriteMap
shape_of-table-in-WriteMap c = search rules

pub shape_of-stack-in-WriteMap : goal.shape_of-stack-in-WriteMap
shape_of-stack-in-WriteMap c = search rules

pub shape_of-link-in-WriteMap : goal.shape_of-link-in-WriteMap
shape_of-link-in-WriteMap c = search rules

pub shape_of-buffer-in-ReadMap : goal.shape_of-buffer-in-ReadMap
shape_of-buffer-in-ReadMap c = search rules

pub shape_of-index-in-ReadMap : goal.shape_of-index-in-ReadMap
shape_of-index-in-ReadMap c = search rules

pub shape_of-count-in-ReadMap : goal.shape_of-count-in-ReadMap
shape_of-count-in-ReadMap c = search rules

pub shape_of-table-in-ReadMap : goal.shape_of-table-in-ReadMap
shape_of-table-in-ReadMap c = search rules

pub shape_of-helper-in-ReadMap : goal.shape_of-helper-in-ReadMap
shape_of-helper-in-ReadMap c = search rules

pub shape_of-stack-in-ReadMap : goal.shape_of-stack-in-ReadMap
shape_of-stack-in-ReadMap c = search rules

pub shape_of-cache-in-ReadMap : goal.shape_of-cache-in-ReadMap
shape_of-cache-in-ReadMap c = search rules

pub shape_of-link-in-ReadMap : goal.shape_of-link-in-ReadMap
shape_of-link-in-ReadMap c = search rules
