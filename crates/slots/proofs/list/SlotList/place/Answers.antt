use native.Mathlib.Omega.{arith}
use mathlib.Core.Path.{sym, ◌∙◌}
use Rattle.slots.proofs.Cases.{placed_old, placed_full, placed_new}
use Rattle.slots.proofs.Lengths.{same_room}
use Rattle.slots.proofs.list.SlotList.place.Goals as goal

pub returns-in-Some-clause-slots_after : goal.returns-in-Some-clause-slots_after
returns-in-Some-clause-slots_after c = sym (placed_old _ _ _ (omega (arith, c.in-Some.ensures)))

pub returns-then-room-i-clause-slots_after : goal.returns-then-room-i-clause-slots_after
returns-then-room-i-clause-slots_after c = sym (placed_full _ _ _ (omega arith) (omega arith))

pub invariant_of-self-2 : goal.invariant_of-self-2
invariant_of-self-2 c = record { fits = omega (arith, same_room _ _ c.append.ensures.lent.entries_length) }

pub returns-clause-slots_after : goal.returns-clause-slots_after
returns-clause-slots_after c = c.append.ensures.tables_after ∙ sym (placed_new _ _ _ (omega arith) (omega arith))
