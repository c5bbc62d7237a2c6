use Rattle.words.proofs.Lines.{line_counted}
use Rattle.words.proofs.line_of.Goals as goal

pub returns : goal.returns
returns c = line_counted _ _ _ _ c.min.ensures c.count_line_ends.ensures.0
