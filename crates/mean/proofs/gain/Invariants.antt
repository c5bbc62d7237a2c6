use Rattle.sets.specs.Value.{num}
use Rattle.sets.specs.Rest.{left_of}
use Rattle.mean.proofs.Gaining.{Gaining}
use Rattle.mean.proofs.gain.Given as goal

-- What the parts that are left are still to gain. Assumes nothing.
abbrev pub invariant-loop-q : goal.invariant-loop-q
invariant-loop-q l = Gaining l.initial.covered (num l.s) (left_of l.q-iterator) l.covered
