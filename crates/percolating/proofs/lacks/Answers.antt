use Rattle.percolating.proofs.Loops.{lacks_is}
use Rattle.percolating.proofs.lacks.Goals as goal

pub returns : goal.returns
returns c = lacks_is _ _ _ _ _ _ c.without.ensures c.find.ensures _ c.is_none.ensures
