use Rattle.std.proofs.Common.{sym, ◌∙◌}
use Rattle.sets.proofs.Held.{held}
use Rattle.tree_levels.proofs.LineFilling.{filled_none, filled_no, filled_yes}
use Rattle.tree_levels.proofs.put_lines.Goals as goal
use Rattle.tree_levels.proofs.put_lines.Goals.{then-starts, else-starts}

pub loop-i-init : goal.loop-i-init
loop-i-init c = filled_none _ _ _ _ _ _ _ _

pub loop-i-preserved : goal.loop-i-preserved
loop-i-preserved c =
    let l = c.loop-i in
    let a = c.args in
    let T = a.tables.now in
    let v = a.level in
    let t = sym c.starts.ensures in
    elim c.if-starts.branch [
      | then-starts w ↦
          filled_yes v.weight T.entries.now T.smallest.now T.unions.now v.before a.used a.out.now a.n l.i l.m l.out l.invariant _ _ _ _ _ _
          (t ∙ w.if-starts.true) c.loop-i-test.true w.at.ensures w.at-then-starts.ensures w.joins_at.ensures
          (held w.at.result w.at.type_inv) w.put_line.ensures w.put_line.auto.out w.m-is w.out-is
      | else-starts w ↦
          filled_no v.weight T.entries.now T.smallest.now T.unions.now v.before a.used a.out.now a.n l.i l.m l.out l.invariant _ _
          (t ∙ w.if-starts.false) w.m-is w.out-is
    ]
