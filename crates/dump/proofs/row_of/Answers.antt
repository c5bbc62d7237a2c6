use native.Mathlib.Omega.{arith}
use Rattle.dump.proofs.row_of.Goals as goal

pub returns : goal.returns
returns c =
    let n = c.number_at.ensures in
    (n.0, λ i e. n.1 i (omega (arith, e, c.row_at.ensures.0)))
