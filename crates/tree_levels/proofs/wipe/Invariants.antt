use Rattle.std.proofs.Common.{◌≡◌}
use Rattle.tree_levels.specs.Kept.{KeepsEnds}
use Rattle.tree_levels.specs.LevelModel.{wiped}
use Rattle.tree_levels.proofs.wipe.Given as goal

-- The invariant: the rows of slots below i that are no ends are empty. Assumes nothing.
abbrev pub invariant-loop-i : goal.invariant-loop-i
invariant-loop-i l =
    let T = l.initial.tables in
    KeepsEnds T l.tables × (l.tables.smallest.now ≡ T.smallest.now) × (l.tables.unions.now ≡ wiped T.entries.now T.unions.now l.i)
