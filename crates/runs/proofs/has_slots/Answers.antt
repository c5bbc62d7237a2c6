use native.Mathlib.Omega.{arith}
use Rattle.runs.proofs.Calls.{slots_first}
use Rattle.runs.proofs.InSheet.{parts_width}
use Rattle.runs.proofs.has_slots.Goals as goal

pub needed-need-requires : goal.needed-need-requires
needed-need-requires c = let a = c.args in (omega (arith, c.requires.1), omega (arith, a.sheet.counted.0, parts_width _ a.sheet.passed))

pub returns : goal.returns
returns c =
    let a = c.args in
    slots_first a.sheet.bytes.now a.sheet.passed a.k c.requires.1 a.entries.now a.n _ c.rows_of-rows.ensures _ _ _ a.sheet.counted.0 c.needed-need.ensures c.room-room.ensures
