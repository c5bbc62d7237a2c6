use mathlib.Core.Path.{sym}
use lib.Seq.{set_out}
use Rattle.journal.proofs.put.Goals as goal

pub returns-else-i-journal : goal.returns-else-i-journal
returns-else-i-journal c = sym (set_out _ _ _ c.if-i-journal.false)
