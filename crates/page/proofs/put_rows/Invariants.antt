use Rattle.sets.specs.Rest.{left_of}
use Rattle.page.specs.Model.{parts_in}
use Rattle.page.proofs.Steps.{RowsTo}
use Rattle.page.proofs.put_rows.Given as goal

abbrev pub invariant-loop-i : goal.invariant-loop-i
invariant-loop-i l = RowsTo l.sheet (parts_in l.sheet (left_of l.initial.parts)) l.out l.n (left_of l.parts) l.i
