use mathlib.Core.Path.{◌≡◌}
use Prim.Native.Nat.{◌≤◌}
use Rattle.subsets.specs.Subsets.{subset_count}
use Rattle.subsets.proofs.product.Given as goal

-- The invariant: c counts the subsets of i parts. Assumes nothing.
abbrev pub invariant-loop-i : goal.invariant-loop-i
invariant-loop-i l = (l.i ≤ l.r) × (l.c ≡ subset_count l.n l.i)
