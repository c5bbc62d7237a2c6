use lib.ListN.{drop}
use Rattle.sheet.specs.Sheet.{links_of}
use Rattle.weights.specs.Model.{Weighs}
use Rattle.weights.proofs.fill.Given as goal

-- The invariant: the table has the weights of the links from j on. Assumes nothing.
abbrev pub invariant-loop-j : goal.invariant-loop-j
invariant-loop-j l = Weighs (drop l.j (links_of l.sheet.bytes.now)) l.weights
