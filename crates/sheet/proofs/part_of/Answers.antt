use native.Mathlib.Omega.{arith}
use Rattle.sheet.proofs.part_of.Goals as goal

pub returns : goal.returns
returns c =
    let n = c.number_at.ensures in
    (n.0, λ q e. n.1 q (omega (arith, e, c.name_at.ensures.0)))
