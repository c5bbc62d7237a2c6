use Rattle.sheet.specs.Sheet.{list_of}
use Rattle.dump_theory.specs.Model.{Counts}
use Rattle.dump.specs.Dump.{row_of}
use Rattle.dump.proofs.count_rows.Given as goal

abbrev pub invariant-loop-i : goal.invariant-loop-i
invariant-loop-i l = Counts (list_of (row_of l.d) l.i) l.counts
