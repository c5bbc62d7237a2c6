use Rattle.sets.proofs.Held.{held}
use Rattle.sets.proofs.Members.{trailing_lowest}
use Rattle.sets.specs.Value.{num, width}
use Rattle.sets.proofs.lowest.Goals as goal

pub returns : goal.returns
unfolding num
returns c = trailing_lowest width (num c.args.s) (held c.args.s c.well_formed.0)
