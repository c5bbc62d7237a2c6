use mathlib.Core.Path.{◌≡◌}
use Rattle.sets.specs.Rest.{rest}
use Rattle.sets.specs.Sets.{members}
use Rattle.sets.specs.Value.{width, num}
use Rattle.slots.specs.List.{slots_of, SameSlots}
use Rattle.slots.specs.Model.{took_parts}
use Rattle.taking_in.proofs.take_parts.Given as goal

-- The invariant: taking in the parts that are left gives what taking in all of them gives. Assumes nothing.
abbrev pub invariant-loop-part : goal.invariant-loop-part
invariant-loop-part l =
    SameSlots l.initial.slots l.slots
    × (took_parts l.first (num l.q) (members width (num l.fn.parts)) (slots_of l.initial.slots)
    ≡ took_parts l.first (num l.q) (rest l.part-iterator) (slots_of l.slots))
