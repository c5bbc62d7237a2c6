use Rattle.tree_lines.proofs.LinePlaces.{line_below, line_above, line_there}
use Rattle.tree_lines.proofs.line_start.Goals as goal
use Rattle.tree_lines.proofs.line_start.Goals.{then-m-lt1-via-then-m-lt1, then-m-lt1-via-else-m-lt1+then-line_count-m}

pub returns-then-m-lt1 : goal.returns-then-m-lt1
returns-then-m-lt1 c =
    elim c.then-m-lt1.branch [
      | then-m-lt1-via-then-m-lt1 w ↦ line_below _ _ _ w.if-m-lt1.true
      | then-m-lt1-via-else-m-lt1+then-line_count-m w ↦ line_above _ _ _ w.line_count.ensures w.if-line_count-m.true
    ]

pub returns : goal.returns
returns c = line_there _ _ _ _ c.line_count.ensures c.line_length.ensures c.if-m-lt1.false c.if-line_count-m.false
