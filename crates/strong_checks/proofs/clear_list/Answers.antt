use Rattle.strong_checks.proofs.Calls.{cleared_both}
use Rattle.strong_checks.proofs.clear_list.Goals as goal

pub returns-clause-list_after : goal.returns-clause-list_after
returns-clause-list_after c = cleared_both _ c.clear.ensures c.clear_products.ensures
