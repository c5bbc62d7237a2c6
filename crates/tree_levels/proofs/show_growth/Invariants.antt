use Rattle.std.proofs.Common.{◌≡◌, length}
use Rattle.tree_lines.specs.LineModel.{line_count}
use Rattle.tree_levels.specs.LevelModel.{GrewTo}
use Rattle.tree_levels.proofs.show_growth.Given as goal

-- The invariant: the lines of the classes that end below slot r show their unions. Assumes nothing.
abbrev pub invariant-loop-r : goal.invariant-loop-r
invariant-loop-r l = let T = l.tables in GrewTo T.entries.now T.smallest.now T.unions.now l.initial.lines (line_count l.initial.lines) l.r l.lines × (length l.lines ≡ length l.initial.lines)
