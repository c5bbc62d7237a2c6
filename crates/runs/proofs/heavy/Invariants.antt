use lib.ListN.{take}
use Rattle.sheet.specs.Sheet.{links_of}
use Rattle.runs.proofs.Falling.{AllHeavy}
use Rattle.runs.proofs.heavy.Given as goal

-- The invariant: each link below j weighs t or more. Assumes nothing.
abbrev pub invariant-loop-j : goal.invariant-loop-j
invariant-loop-j l = AllHeavy l.t (take l.j (links_of l.sheet.bytes.now))
