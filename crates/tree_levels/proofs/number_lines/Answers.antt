use Rattle.std.proofs.Common.{ℕ, ◌≡◌, ◌-◌, arith}
use mathlib.Core.Path.{subst}
use Rattle.tree_lines.specs.LineModel.{line_count}
use Rattle.tree_levels.specs.LevelModel.{NumbersTo}
use Rattle.tree_levels.proofs.number_lines.Goals as goal

pub returns-clause-numbers : goal.returns-clause-numbers
returns-clause-numbers c =
    let a = c.args in
    let l = c.loop-m in
    let n = line_count a.lines.now in
    let e : l.m - a.from ≡ n - a.from = omega (arith, c.loop-m-test.false, c.line_count-m-end.ensures, l.invariant.3) in
    subst (λ (x : ℕ). NumbersTo a.before a.from x a.tables.now.smallest.now a.tables.now.unions.now a.lines.now n l.tables.smallest.now
    l.tables.unions.now l.lines) e l.invariant.1
