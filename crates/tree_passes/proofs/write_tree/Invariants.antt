use Rattle.std.proofs.Common.{◌≡◌, ◌≤◌, ◌-◌, length}
use Rattle.sheet.specs.Sheet.{parts, links, links_of}
use Rattle.slots.specs.List.{slots_of, SameSlots}
use Rattle.tree_passes.proofs.TreeWritten.{Writing}
use Rattle.tree_passes.proofs.write_tree.Given as goal

-- The invariant: the output holds the lines of the levels of the links below the walk's start. Assumes nothing.
abbrev pub invariant-loop-level : goal.invariant-loop-level
invariant-loop-level l =
    let s = l.sheet.bytes.now in
    (l.walk.start ≤ links s) × (l.walk.sheet ≡ l.sheet) × (l.walk.k ≡ l.k) × (length l.out ≡ length l.initial.out) × SameSlots l.initial.slots l.slots
    × Writing (links_of s) (parts s) l.k l.walk.start l.walk.rows.now (slots_of l.slots) l.initial.out l.n l.out

abbrev pub decreases-loop-level : goal.decreases-loop-level
decreases-loop-level l = links l.sheet.bytes.now - l.walk.start
