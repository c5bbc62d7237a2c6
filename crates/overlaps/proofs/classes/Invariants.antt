use mathlib.Core.Path.{◌≡◌}
use Prim.Native.Nat.{◌≤◌, ◌-◌}
use Rattle.overlaps.specs.Model.{classed, classed_from, classed_all}
use Rattle.overlaps.proofs.classes.Given as goal

-- The invariant: the classes of the rows that are left, after those written, are all classes. Assumes nothing.
abbrev pub invariant-loop-i : goal.invariant-loop-i
invariant-loop-i l =
    (l.c ≤ l.i) × (l.i ≤ l.n)
    × (classed_all l.k l.n l.initial.sets l.initial.smallest l.initial.unions ≡ classed_from (l.n - l.c) l.k l.n (classed l.sets l.smallest l.unions l.c) l.i)

abbrev pub decreases-loop-i : goal.decreases-loop-i
decreases-loop-i l = l.n - l.i
