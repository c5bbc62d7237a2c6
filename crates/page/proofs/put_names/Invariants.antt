use Rattle.sets.specs.Rest.{left_of}
use Rattle.page.specs.Model.{parts_in}
use Rattle.page.proofs.Steps.{NamesTo}
use Rattle.page.proofs.put_names.Given as goal

abbrev pub invariant-loop-i : goal.invariant-loop-i
invariant-loop-i l = NamesTo l.sheet (parts_in l.sheet (left_of l.initial.parts)) l.out (left_of l.parts) l.i
