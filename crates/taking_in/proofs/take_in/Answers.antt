use mathlib.Core.Path.{refl, sym, ap, ◌∙◌}
use native.Mathlib.Omega.{arith}
use Rattle.sets.proofs.Held.{held}
use Rattle.slots.specs.Model.{find}
use Rattle.slots.proofs.Cases.{placed_none, touched_idle}
use Rattle.slots.proofs.Steps.{slot_both, took_part_lem}
use Rattle.slots.proofs.Peel.{peeled, peel_end, peel_next, took_in_lem, took_full}
use Rattle.taking_in.proofs.take_in.Goals as goal

pub returns-in-Some-clause-slots_after : goal.returns-in-Some-clause-slots_after
returns-in-Some-clause-slots_after c =
    took_in_lem _ _ _ _ _ _ (peeled _ _ _ c.lowest.ensures c.without-rest.ensures) c.in-Some.ensures.0
    (sym (peel_end _ _ _ _ (sym c.is_empty.ensures ∙ c.if-is_empty.true))) c.touch.ensures.slots_after

pub returns-in_default-clause-slots_after : goal.returns-in_default-clause-slots_after
returns-in_default-clause-slots_after c =
    took_in_lem _ _ _ _ _ _ (peeled _ _ _ c.lowest.ensures c.without-rest.ensures) refl
    (sym (peel_end _ _ _ _ (sym c.is_empty.ensures ∙ c.if-is_empty.true))) (sym (touched_idle _ _ _ (omega (arith, c.in_default.ensures))))

pub returns-in_default-place-clause-slots_after : goal.returns-in_default-place-clause-slots_after
returns-in_default-place-clause-slots_after c =
    let none = c.in_default-place.ensures in
    c.place.ensures.slots_after
    ∙ placed_none _ _ _ none.slot.1
    ∙ sym (took_full _ _ _ (omega (arith, none.slot.0, c.place.ensures.same.more)) none.slot.1 (ap (find _ _) (peeled _ _ _ c.lowest.ensures c.without-rest.ensures)))

pub returns-clause-slots_after : goal.returns-clause-slots_after
returns-clause-slots_after c =
    let some = sym c.is_empty.ensures ∙ c.if-is_empty.false in
    let place = c.in-Some-place.ensures in
    let at = place.slot.0 in
    let rest = peeled _ _ _ c.lowest.ensures c.without-rest.ensures in
    let one =
    took_part_lem _ _ _ _ _ _ _ c.without-rest.ensures at
    (slot_both _ _ _ _ c.place.ensures.slots_after place.slot.1 place.slot.1 _ c.join.ensures.slots_after) in
    let next = peel_next _ _ _ some c.lowest.ensures c.without-rest.ensures _ _ _ _ (held c.args.q c.well_formed.1.0) one in
    took_in_lem _ _ _ _ _ _ rest at (c.take_parts.ensures.slots_after ∙ sym next) c.touch-2.ensures.slots_after
