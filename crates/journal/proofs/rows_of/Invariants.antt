use mathlib.Core.Path.{◌≡◌}
use lib.ListN.{length, drop}
use Rattle.sets.specs.Value.{no_rows}
use Rattle.runs.specs.Model.{rows_with}
use Rattle.journal.specs.Model.{readable}
use Rattle.journal.proofs.rows_of.Given as goal

-- The invariant: with the entries from e on these are the rows of all. Assumes nothing.
abbrev pub invariant-loop-e : goal.invariant-loop-e
invariant-loop-e l =
    (rows_with l.rows (readable l.p (drop l.e-index l.entries)) ≡ rows_with no_rows (readable l.p l.entries))
    × (length l.rows ≡ length no_rows)
