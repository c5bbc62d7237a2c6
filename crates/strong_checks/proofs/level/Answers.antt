use Rattle.strong_checks.proofs.Calls.{level_both, level_stop}
use Rattle.strong_checks.proofs.level.Goals as goal

pub returns-then-sized : goal.returns-then-sized
returns-then-sized c = level_both _ _ _ c.sized.ensures c.if-sized.true _ c.level.ensures

pub returns-else-sized : goal.returns-else-sized
returns-else-sized c = level_stop _ _ _ c.sized.ensures c.if-sized.false
