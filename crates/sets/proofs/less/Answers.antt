use Rattle.sets.proofs.Order.{less_is}
use Rattle.sets.proofs.less.Goals as goal

pub returns : goal.returns
returns c = less_is _ _ _ c.lt.ensures
