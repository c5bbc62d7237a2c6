use Rattle.std.proofs.Common.{◌≡◌, ◌≤◌, ◌*◌, ◌-◌}
use Rattle.percolation.specs.Ranges.{most_slots}
use Rattle.sheet.specs.Sheet.{parts, links, links_of}
use Rattle.slots.specs.List.{slots_of, SameSlots}
use Rattle.tree_passes.proofs.TreePasses.{Counting}
use Rattle.tree_passes.proofs.count_tree.Given as goal

-- The invariant: n counts the lines of the levels of the links below the walk's start. Assumes nothing.
abbrev pub invariant-loop-level : goal.invariant-loop-level
invariant-loop-level l =
    let s = l.sheet.bytes.now in
    (l.walk.start ≤ links s) × (l.n ≤ l.walk.start * most_slots) × (l.walk.sheet ≡ l.sheet) × (l.walk.k ≡ l.k) × SameSlots l.initial.slots l.slots
    × Counting (links_of s) (parts s) l.k l.walk.start l.walk.rows.now (slots_of l.slots) l.n

abbrev pub decreases-loop-level : goal.decreases-loop-level
decreases-loop-level l = links l.sheet.bytes.now - l.walk.start
