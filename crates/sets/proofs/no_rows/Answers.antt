use mathlib.Core.Path.{refl}
use Rattle.sets.specs.Value.{no_rows}
use Rattle.sets.proofs.no_rows.Goals as goal

pub returns : goal.returns
unfolding no_rows
returns c = refl
