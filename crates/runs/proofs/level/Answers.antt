use Rattle.runs.proofs.Left.{level_one, level_two, level_three}
use Rattle.runs.proofs.level.Goals as goal

pub returns-then-sized-2 : goal.returns-then-sized-2
returns-then-sized-2 c = level_three _ _ c.sized.ensures c.if-sized.true _ c.sized-then-sized.ensures c.if-sized-2.true _ c.sized-then-sized-2.ensures

pub returns-else-sized-2 : goal.returns-else-sized-2
returns-else-sized-2 c = level_two _ _ c.sized.ensures c.if-sized.true _ c.sized-then-sized.ensures c.if-sized-2.false

pub returns-else-sized : goal.returns-else-sized
returns-else-sized c = level_one _ _ c.sized.ensures c.if-sized.false
