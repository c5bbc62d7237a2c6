use mathlib.Core.Path.{◌≡◌}
use Rattle.answers.specs.Verdict.{accepted, in_order}
use Rattle.dump.specs.Dump.{check_row}
use Rattle.dump.proofs.rows_within.Given as goal

abbrev pub invariant-loop-i : goal.invariant-loop-i
invariant-loop-i l = in_order (check_row l.d) l.i ≡ accepted
