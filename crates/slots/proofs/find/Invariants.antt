use Prim.Native.Nat.{◌-◌}
use mathlib.Core.Path.{◌≡◌}
use Rattle.sets.specs.Value.{num}
use Rattle.slots.specs.Model.{find_from, find}
use Rattle.slots.proofs.find.Given as goal

-- The invariant: what is left to search finds what the whole finds. Assumes nothing.
abbrev pub invariant-loop-slot : goal.invariant-loop-slot
invariant-loop-slot l = find l.sets l.used (num l.s) ≡ find_from (l.used - l.slot) l.sets l.slot (num l.s)
