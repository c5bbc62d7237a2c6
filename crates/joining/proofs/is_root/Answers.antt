use Rattle.joining.proofs.Follow.{root_test}
use Rattle.joining.proofs.is_root.Goals as goal

pub returns : goal.returns
returns c = root_test _ _ _ c.entry.ensures
