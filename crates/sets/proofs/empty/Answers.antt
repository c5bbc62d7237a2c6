use mathlib.Core.Path.{refl}
use Rattle.sets.specs.Value.{num}
use Rattle.sets.proofs.empty.Goals as goal

pub returns : goal.returns
unfolding num
returns c = refl
