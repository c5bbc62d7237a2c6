use Rattle.std.proofs.Common.{◌≡◌, length}
use Rattle.tree_lines.specs.LineModel.{line_count}
use Rattle.tree_levels.specs.LevelModel.{WentTo}
use Rattle.tree_levels.proofs.join_lines.Given as goal

-- The invariant: the lines of classes absorbed below slot i go into others. Assumes nothing.
abbrev pub invariant-loop-i : goal.invariant-loop-i
invariant-loop-i l = let T = l.tables in WentTo T.entries.now T.smallest.now T.unions.now l.initial.lines (line_count l.initial.lines) l.i l.lines × (length l.lines ≡ length l.initial.lines)
