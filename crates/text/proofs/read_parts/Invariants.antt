use Rattle.text.specs.Walk.{rest}
use Rattle.text.proofs.Pass1.{PartsSoFar}
use Rattle.text.proofs.read_parts.Given as goal

abbrev pub invariant-loop-place : goal.invariant-loop-place
invariant-loop-place l = PartsSoFar l.text l.initial.names l.names l.p (rest l.place-iterator)
