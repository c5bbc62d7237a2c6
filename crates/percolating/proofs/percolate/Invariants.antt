use Rattle.percolating.proofs.Loops.{HaveFirst}
use Rattle.percolating.proofs.percolate.Given as goal

-- The invariant: the tables have the strong ones of the rows so far. Assumes nothing.
abbrev pub invariant-loop-i : goal.invariant-loop-i
invariant-loop-i l = HaveFirst l.measure l.weights l.list.cliques.now l.sure l.initial.slots l.i l.slots
