use mathlib.Core.Path.{◌≡◌}
use Rattle.sets.specs.Rest.{left_of}
use Rattle.sets.specs.Sets.{union, lows}
use Rattle.sets.specs.Value.{num}
use Rattle.sets.proofs.lows.Given as goal

-- The invariant: the parts taken, with the lowest of those that are left, are the k lowest of s. Assumes nothing.
abbrev pub invariant-loop-q : goal.invariant-loop-q
invariant-loop-q l = union (num l.taken) (lows l.q-iterator.n (left_of l.q-iterator.iter)) ≡ lows l.fn.k (num l.fn.s)
