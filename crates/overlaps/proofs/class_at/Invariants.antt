use mathlib.Core.Path.{◌≡◌}
use Prim.Native.Nat.{◌≤◌, ◌<◌, ◌-◌}
use Rattle.sets.specs.Value.{num}
use Rattle.overlaps.specs.Model.{grown, grown_from, class_at}
use Rattle.overlaps.proofs.class_at.Given as goal

-- The invariant: the frontier that is left gives the class. Assumes nothing.
abbrev pub invariant-loop-f : goal.invariant-loop-f
invariant-loop-f l =
    (l.i < l.e) × (l.f ≤ l.e) × (l.e ≤ l.n)
    × (class_at l.k l.n l.initial.table l.i ≡ grown_from (l.n - l.f) l.k l.n (grown l.table l.e (num l.small) (num l.whole)) l.f)

abbrev pub decreases-loop-f : goal.decreases-loop-f
decreases-loop-f l = l.n - l.f
