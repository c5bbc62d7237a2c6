use Prim.Native.Nat.{◌≤◌, ◌-◌}
use Rattle.sets.specs.Value.{num}
use Rattle.sheet.specs.Sheet.{parts, links, links_of}
use Rattle.slots.specs.Lent.{SameLent}
use Rattle.meeting_maximal.proofs.Levels.{Counted}
use Rattle.meeting_maximal.proofs.over_levels.Given as goal

-- The invariant: what is known of the levels of the first n links. Assumes nothing.
abbrev pub invariant-loop-n : goal.invariant-loop-n
invariant-loop-n l =
    (l.n ≤ links l.sheet.bytes.now) × SameLent l.initial.tables l.tables
    × Counted (links_of l.sheet.bytes.now) (parts l.sheet.bytes.now) l.k (num l.pair.a) (num l.pair.b) l.room l.n l.met

abbrev pub decreases-loop-n : goal.decreases-loop-n
decreases-loop-n l = l.sheet.counts.links - l.n
