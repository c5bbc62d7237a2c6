use Rattle.overlaps.proofs.Steps.{swap_is}
use Rattle.overlaps.proofs.swap.Goals as goal

pub returns : goal.returns
returns c =
    swap_is _ _ _ _ _ _ _ c.at-s.ensures c.at-t.ensures c.put.ensures c.put-2.ensures
