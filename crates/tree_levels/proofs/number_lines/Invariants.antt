use Rattle.std.proofs.Common.{◌≡◌, ◌-◌, ◌≤◌, length}
use Rattle.tree_lines.specs.LineModel.{line_count}
use Rattle.tree_levels.specs.Kept.{KeepsEnds}
use Rattle.tree_levels.specs.LevelModel.{NumbersTo}
use Rattle.tree_levels.proofs.number_lines.Given as goal

-- The invariant: the first m lines have their numbers. Assumes nothing.
abbrev pub invariant-loop-m : goal.invariant-loop-m
invariant-loop-m l =
    let T = l.initial.tables in
    KeepsEnds T l.tables
    × NumbersTo l.before l.from (l.m - l.from) T.smallest.now T.unions.now l.initial.lines (line_count l.initial.lines)
    l.tables.smallest.now l.tables.unions.now l.lines
    × (length l.lines ≡ length l.initial.lines) × (l.m - l.from ≤ line_count l.initial.lines - l.from)
