use Rattle.page.proofs.ReadLines.{read_union}
use Rattle.page.proofs.union_of.Goals as goal

pub returns : goal.returns
returns c = read_union c.args.lines.now c.args.j _ c.line_at.ensures
