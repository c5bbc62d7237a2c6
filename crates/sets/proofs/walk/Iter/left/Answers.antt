use mathlib.Core.Path.{refl}
use Rattle.sets.specs.Rest.{left_of}
use Rattle.sets.proofs.walk.Iter.left.Goals as goal

pub returns : goal.returns
unfolding left_of
returns c = refl
