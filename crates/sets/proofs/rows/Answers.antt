use native.Mathlib.Omega.{arith}
use Rattle.sets.specs.Value.{rows}
use Rattle.sets.proofs.rows.Goals as goal

pub returns : goal.returns
unfolding rows
returns c = omega arith
