use Rattle.std.proofs.Common.{rules}
use Rattle.part_names.specs.Names.{visible}
use Rattle.part_names.proofs.is_visible.Goals as goal

pub returns : goal.returns
unfolding visible
returns c = search rules
