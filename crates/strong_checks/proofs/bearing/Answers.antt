use native.Mathlib.Omega.{arith}
use Rattle.strong_checks.proofs.Sure.{bearing_weakest, bearing_product}
use Rattle.strong_checks.proofs.bearing.Goals as goal

pub returns-in-Weakest : goal.returns-in-Weakest
returns-in-Weakest c = (bearing_weakest _ _ c.heavy.result _ c.in-Weakest.is c.heavy.ensures.0, c.heavy.ensures.1)

pub returns-in-Product : goal.returns-in-Product
returns-in-Product c = (bearing_product _ _ _ c.args.sheet.counted.1 _ c.in-Product.is, omega (arith, c.args.sheet.counted.1))
