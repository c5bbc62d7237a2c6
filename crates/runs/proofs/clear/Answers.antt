use Rattle.runs.proofs.Left.{cleared_lists}
use Rattle.runs.proofs.clear.Goals as goal

pub returns-clause-tables_after : goal.returns-clause-tables_after
returns-clause-tables_after c = cleared_lists _ c.clear.ensures c.clear_entries.ensures c.clear-2.ensures c.clear-3.ensures
