use Rattle.std.proofs.Common.{rules}
use native.Mathlib.Omega.{arith}
use Rattle.tree_levels.proofs.LevelWritten.{level_wrote}
use Rattle.tree_levels.proofs.write_level.Goals as goal

pub returns-clause-writes_level : goal.returns-clause-writes_level
returns-clause-writes_level c =
    let n = c.number_lines in
    let p = c.put_lines-m in
    let j = c.count_joins in
    let w = c.wipe in
    level_wrote c.args.level c.args.used c.args.n p.result c.min-end.result _ j.new.tables n.new.tables w.new.tables c.args.out.now p.new.out
    n.new.lines c.join_lines.new.lines c.show_growth.new.lines _ _ j.ensures.kept j.ensures.smallest_after j.ensures.unions_after p.ensures.value
    p.ensures.filled_to (search rules) (omega arith) n.ensures.kept n.ensures.numbers n.auto.lines c.join_lines.ensures c.join_lines.auto.lines
    c.show_growth.ensures w.ensures.smallest_after w.ensures.unions_after (search rules) (search rules)
