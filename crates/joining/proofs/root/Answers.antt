use mathlib.Core.Path.{refl}
use native.Mathlib.Omega.{arith}
use Rattle.joining.proofs.Walk.{walk_next, walk_end}
use Rattle.joining.proofs.root.Goals as goal

pub loop-e-init : goal.loop-e-init
loop-e-init c = (omega arith, refl)

pub loop-e-preserved : goal.loop-e-preserved
loop-e-preserved c =
    let l = c.loop-e in
    let n = c.in-Some.ensures in
    (omega (arith, n), walk_next _ _ l.r _ l.invariant.1 n.0 n.1)

pub returns : goal.returns
returns c =
    let l = c.loop-e in
    (walk_end _ _ l.r _ l.invariant.1 refl c.in_default.ensures, l.invariant.0)
