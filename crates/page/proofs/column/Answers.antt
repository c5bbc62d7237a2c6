use native.Mathlib.Omega.{arith}
use Rattle.std.proofs.lemmas.Bool.Decides.{nat_tests}
use Rattle.page.proofs.column.Goals as goal

pub returns-then-unit-gt1 : goal.returns-then-unit-gt1
unfolding Rattle.page.specs.Page.column
returns-then-unit-gt1 c = grind (arith, nat_tests)

pub returns-else-n-unit : goal.returns-else-n-unit
unfolding Rattle.page.specs.Page.column
returns-else-n-unit c = grind (arith, nat_tests)
