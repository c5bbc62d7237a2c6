use Rattle.sets.proofs.Order.{lesser_is}
use Rattle.sets.proofs.lesser.Goals as goal

pub returns : goal.returns
returns c = lesser_is _ _ _ c.min.ensures
