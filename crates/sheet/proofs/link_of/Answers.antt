use native.Mathlib.Omega.{arith}
use Rattle.sheet.proofs.link_of.Goals as goal

pub returns : goal.returns
returns c =
    let n = c.number_at.ensures in
    (n.0, λ j e. n.1 j (omega (arith, e, c.link_at.ensures.0)))
