use Rattle.sets.specs.Value.{num}
use Rattle.meeting_sequential.proofs.Turns.{Later}
use Rattle.meeting_sequential.proofs.complete.Given as goal

-- The invariant: no link from j on has both ends in s. Assumes nothing.
abbrev pub invariant-loop-j : goal.invariant-loop-j
invariant-loop-j l = Later l.sheet.bytes.now (num l.s) l.j
