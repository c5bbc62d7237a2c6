use mathlib.Core.Path.{sym, ap, ◌∙◌}
use Rattle.sets.specs.Rest.{rest}
use Rattle.slots.proofs.Places.{same_slots, slots_both}
use Rattle.slots.proofs.Peel.{took_more, took_none}
use Rattle.taking_in.proofs.take_parts.Goals as goal

pub loop-part-init : goal.loop-part-init
loop-part-init c = (same_slots _, rw (ap rest c.into_iter-part-iterator.ensures.into_iter_gives, c.parts-part-items.ensures.gives))

pub loop-part-preserved : goal.loop-part-preserved
loop-part-preserved c =
    let l = c.loop-part in (
      slots_both l.invariant.0 c.take_part.ensures.same,
      l.invariant.1 ∙ took_more _ _ _ _ _ _ _ c.in-Some.ensures.steps c.take_part.ensures.slots_after,
    )

pub returns-clause-slots_after : goal.returns-clause-slots_after
returns-clause-slots_after c = sym (c.loop-part.invariant.1 ∙ took_none _ _ _ _ c.in-None.ensures.steps.0)
