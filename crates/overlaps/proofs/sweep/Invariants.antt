use mathlib.Core.Path.{◌≡◌}
use Prim.Native.Nat.{◌≤◌, ◌-◌}
use Rattle.sets.specs.Value.{num}
use Rattle.overlaps.specs.Model.{swept_from}
use Rattle.overlaps.proofs.sweep.Given as goal

-- The invariant: sweeping the rows that are left gives what sweeping all of them gives. Assumes nothing.
abbrev pub invariant-loop-j : goal.invariant-loop-j
invariant-loop-j l =
    (l.end ≤ l.e) × (l.e ≤ l.j)
    × (swept_from (l.n - l.end) l.k (num l.s) l.initial.table l.end l.end ≡ swept_from (l.n - l.j) l.k (num l.s) l.table l.e l.j)
