use mathlib.Core.Path.{sym}
use Rattle.answers.proofs.Laws.{last_stop, last_go}
use Rattle.answers.proofs.require.Goals as goal

pub returns-then-holds : goal.returns-then-holds
returns-then-holds c = sym (last_go _ _ _ c.if-holds.true)

pub returns-else-holds : goal.returns-else-holds
returns-else-holds c = sym (last_stop _ _ _ c.if-holds.false)
