use Rattle.sets.specs.Value.{num}
use Rattle.slots.specs.List.{slots_of, SameSlots}
use Rattle.meeting_sequential.proofs.Turns.{Turn}
use Rattle.meeting_sequential.proofs.meet_after.Given as goal

-- The invariant: the first n links are in, slots i and j are those found for a and b, and no fewer links join these. Assumes nothing.
abbrev pub invariant-loop-n : goal.invariant-loop-n
invariant-loop-n l =
    SameSlots l.initial.slots l.slots × Turn l.sheet.bytes.now l.k (num l.fn.pair.a) (num l.fn.pair.b) l.n l.rows (slots_of l.slots) l.i l.j
