use native.Mathlib.Omega.{arith}
use Rattle.slots.proofs.Lengths.{room_within}
use Rattle.sheet_listing.proofs.ByMethod.{run_ranges, run_room, by_sequential, by_maximal}
use Rattle.sheet_listing.proofs.run.Goals as goal

pub list-requires-in-Maximal : goal.list-requires-in-Maximal
list-requires-in-Maximal c =
    let q = c.requires in
    let e = c.room-room.ensures in
    let r = run_ranges _ _ _ q.0 _ c.args.sheet.counted.0 in
    let t = run_room _ _ _ q.0 in
    record {
      ranges = (r.0, r.1, omega (arith, e, (room_within c.args.tables.now.entries.now).1));
      in_tables = (omega (arith, e, t.0), omega (arith, e, t.1), omega (arith, e, t.2));
    }

pub returns-in-Sequential-clause-runs : goal.returns-in-Sequential-clause-runs
returns-in-Sequential-clause-runs c =
    let a = c.args in
    λ t first. by_sequential _ _ _ c.requires.0 a.n t first a.out.now _ _ a.method c.in-Sequential.is c.list.ensures.lists

pub returns-in-Maximal-clause-runs : goal.returns-in-Maximal-clause-runs
returns-in-Maximal-clause-runs c =
    let a = c.args in
    let q = c.requires in
    λ t first. by_maximal _ _ _ q.0 a.n t first a.out.now _ _ a.method c.in-Maximal.is _ _ c.rows_of-rows.ensures c.args.sheet.counted.0
    (rw c.room-room.ensures at c.list-in-Maximal.ensures.lists)
