use Rattle.sets.specs.Value.{num}
use Rattle.sets.specs.Rest.{left_of}
use Rattle.row_counts.proofs.Peeling.{WithLeft}
use Rattle.row_counts.proofs.count_with.Given as goal

-- The pairs left to count, from the table as it is, give what all of them give from the table at the start. Assumes nothing.
abbrev pub invariant-loop-r : goal.invariant-loop-r
invariant-loop-r l = WithLeft l.initial.counts l.q (num l.fn.t) l.counts (left_of l.r-iterator)
