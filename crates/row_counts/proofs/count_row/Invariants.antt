use Rattle.sets.specs.Rest.{left_of}
use Rattle.row_counts.proofs.Peeling.{RowLeft}
use Rattle.row_counts.proofs.count_row.Given as goal

-- The pairs of the parts left, from the table as it is, give what those of the row give from the table at the start. Assumes nothing.
abbrev pub invariant-loop-q : goal.invariant-loop-q
invariant-loop-q l = RowLeft l.initial.counts l.row l.counts (left_of l.q-iterator.parts)
