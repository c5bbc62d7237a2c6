use mathlib.Core.Path.{refl}
use Rattle.sets.specs.Rest.{left_of, rest}
use Rattle.sets.proofs.Held.{held}
use Rattle.sets.proofs.Set.parts.Goals as goal

pub invariant_of-result : goal.invariant_of-result
invariant_of-result c = record { fits = held c.args.self c.well_formed.0 }

pub returns : goal.returns
unfolding left_of rest
returns c = record { left = refl; gives = refl }
