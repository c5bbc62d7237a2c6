use mathlib.Core.Path.{◌≡◌}
use lib.ListN.{length, take, drop}
use Rattle.sets.specs.Value.{no_rows}
use Rattle.sheet.specs.Sheet.{links_of}
use Rattle.runs.specs.Model.{rows_with}
use Rattle.runs.proofs.rows_of.Given as goal

-- The invariant: with the links from j on these are the rows of all. Assumes nothing.
abbrev pub invariant-loop-j : goal.invariant-loop-j
invariant-loop-j l =
    (rows_with l.rows (drop l.j (take l.n (links_of l.sheet.bytes.now))) ≡ rows_with no_rows (take l.n (links_of l.sheet.bytes.now)))
    × (length l.rows ≡ length no_rows)
