use mathlib.Core.Path.{◌≡◌}
use lib.ListN.{length}
use Rattle.sets.specs.Value.{no_rows}
use Rattle.mean.specs.Model.{Covered}
use Rattle.mean.proofs.cover.Given as goal

-- The rows have what the slots so far give. Assumes nothing.
abbrev pub invariant-loop-i : goal.invariant-loop-i
invariant-loop-i l =
    (length l.covered ≡ length no_rows) × Covered l.tables.sets.now l.tables.entries.now l.i l.r l.covered
