use Prim.Native.Nat.{◌≤◌}
use mathlib.Core.Path.{◌≡◌}
use Rattle.joining.specs.Entries.{root_of}
use Rattle.joining.proofs.root.Given as goal

-- The invariant: the slot reached has the root of the slot begun at. Assumes nothing.
abbrev pub invariant-loop-e : goal.invariant-loop-e
invariant-loop-e l = (l.r ≤ l.i) × (root_of l.entries l.i ≡ root_of l.entries l.r)

abbrev pub decreases-loop-e : goal.decreases-loop-e
decreases-loop-e l = l.r
