use Rattle.std.proofs.Common.{◌≡◌}
use Rattle.tree_levels.specs.Kept.{KeepsEnds}
use Rattle.tree_levels.specs.LevelModel.{join_counts}
use Rattle.tree_levels.proofs.count_joins.Given as goal

-- The invariant: the classes absorbed below slot i are counted. Assumes nothing.
abbrev pub invariant-loop-i : goal.invariant-loop-i
invariant-loop-i l =
    let T = l.initial.tables in
    KeepsEnds T l.tables × (l.tables.smallest.now ≡ T.smallest.now) × (l.tables.unions.now ≡ join_counts T.entries.now T.unions.now l.i)
