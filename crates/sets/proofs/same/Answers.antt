use Rattle.sets.proofs.Order.{equal_is}
use Rattle.sets.proofs.same.Goals as goal

pub returns : goal.returns
returns c = equal_is _ _ _ c.eq.ensures
