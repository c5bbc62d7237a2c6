use Rattle.joining.proofs.Walk.{Halving}
use Rattle.joining.proofs.halve.Given as goal

-- The invariant: what is left to halve gives what the whole gives, and the slot reached has the root of the slot begun at (`Halving`).
-- Assumes nothing.
abbrev pub invariant-loop-f : goal.invariant-loop-f
invariant-loop-f l = Halving l.initial.entries l.i l.entries l.r

abbrev pub decreases-loop-f : goal.decreases-loop-f
decreases-loop-f l = l.r
