use mathlib.Core.Path.{refl}
use mathlib.Core.Logic.{inr}
use native.Mathlib.Omega.{arith}
use Rattle.slots.proofs.Steps.{slot_idle, slot_both, took_part_lem}
use Rattle.taking_in.proofs.take_part.Goals as goal

pub returns-in-Some-clause-slots_after : goal.returns-in-Some-clause-slots_after
returns-in-Some-clause-slots_after c =
    let place = c.in-Some.ensures in
    took_part_lem _ _ _ _ _ _ _ c.without-s.ensures place.slot.0
    (slot_both _ _ _ _ c.place.ensures.slots_after (omega (arith, c.place.ensures.same.more)) place.slot.1 _ c.join.ensures.slots_after)

pub returns-in_default-clause-slots_after : goal.returns-in_default-clause-slots_after
returns-in_default-clause-slots_after c =
    took_part_lem _ _ _ _ _ _ _ c.without-s.ensures refl (slot_idle _ _ _ _ c.place.ensures.slots_after (inr c.in_default.ensures.slot.0))
