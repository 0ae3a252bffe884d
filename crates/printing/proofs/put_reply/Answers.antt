-- The replies of two parts.
use Rattle.std.proofs.Common.{◌≡◌, ◌*◌, ◌≤◌, length, take, rules, arith}
use Rattle.std.proofs.lemmas.Slice.{between_from_start}
use Rattle.digits.specs.Laws.{added_more}
use Rattle.printing.proofs.Saying.{shows, regions_text}
use Rattle.printing.proofs.put_reply.Goals as goal

pub returns-in-Old : goal.returns-in-Old
returns-in-Old c =
    shows _ _ _ c.in-Old.is (omega arith) (rw (← c.from.ensures) (added_more c.put_pair.ensures.added c.put-in-Old.ensures))

pub returns-in-New : goal.returns-in-New
returns-in-New c =
    shows _ _ _ c.in-New.is (omega arith)
    (rw (← c.from-in-New.ensures, ← c.from-in-New-2.ensures) (added_more c.put_pair-in-New.ensures.added c.put_pair-in-New-2.ensures.added))

pub returns-in-Resident : goal.returns-in-Resident
returns-in-Resident c =
    shows _ _ _ c.in-Resident.is (omega arith)
    (rw (← c.from-in-Resident.ensures) (added_more c.put_pair-in-Resident.ensures.added c.put-in-Resident.ensures))

pub returns-in-Some : goal.returns-in-Some
returns-in-Some c =
    let fits : 3 * c.in-Regions.n ≤ length c.args.records.now = omega (arith, c.in-Some.ensures.lookup) in
    let shown : c.in-Some.numbers.now ≡ take (3 * c.in-Regions.n) c.args.records.now = search (rules, between_from_start) in
    shows _ _ _ c.in-Regions.is fits
    (rw (regions_text _ c.args.bytes.now _ fits, ← shown, ← c.from-in-Regions.ensures)
    (added_more c.put_pair-in-Regions.ensures.added c.put_numbers.ensures))

pub returns-in-RefusedAfter : goal.returns-in-RefusedAfter
returns-in-RefusedAfter c =
    shows _ _ _ c.in-RefusedAfter.is (omega arith)
    (rw (← c.from-in-RefusedAfter.ensures, ← c.from-in-RefusedAfter-2.ensures)
    (added_more c.put_pair-in-RefusedAfter.ensures.added c.put_pair-in-RefusedAfter-2.ensures.added))
