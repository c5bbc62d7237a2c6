use Rattle.sets.proofs.Laws.{size_ones}
use Rattle.sets.specs.Value.{num}
use Rattle.sets.proofs.count.Goals as goal

pub returns : goal.returns
unfolding num
returns c = size_ones _
