use Rattle.tree_levels.proofs.LineFilling.{LinesFilled}
use Rattle.tree_levels.proofs.put_lines.Given as goal

-- The invariant: the output holds the lines that start below slot i, behind the first n. Assumes nothing.
abbrev pub invariant-loop-i : goal.invariant-loop-i
invariant-loop-i l =
    let T = l.tables in
    let v = l.level in
    LinesFilled v.weight T.entries.now T.smallest.now T.unions.now v.before l.used l.initial.out l.n l.i l.m l.out
