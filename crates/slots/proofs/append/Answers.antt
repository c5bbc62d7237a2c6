use native.Mathlib.Omega.{arith}
use Rattle.slots.proofs.Lengths.{room_within}
use Rattle.slots.proofs.append.Goals as goal

pub overflow_cast-tables : goal.overflow_cast-tables
overflow_cast-tables c = omega (arith, room_within c.args.tables.now.entries.now)

pub offset_bounds-tables-i : goal.offset_bounds-tables-i
offset_bounds-tables-i c = omega (arith, room_within c.args.tables.now.entries.now)

pub bounds-tables-i : goal.bounds-tables-i
bounds-tables-i c = omega (arith, room_within c.args.tables.now.entries.now)
