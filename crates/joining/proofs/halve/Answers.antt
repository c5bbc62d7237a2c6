use mathlib.Core.Path.{refl}
use native.Mathlib.Omega.{arith}
use Rattle.joining.proofs.Walk.{halving_begin, halving_stop, halving_last, halving_turn}
use Rattle.joining.proofs.halve.Goals as goal

pub loop-f-init : goal.loop-f-init
loop-f-init c = halving_begin _ _

pub loop-f-preserved : goal.loop-f-preserved
loop-f-preserved c =
    let f = c.in-Some.ensures in
    let g = c.in-Some-next.ensures in
    halving_turn _ _ _ _ _ c.loop-f.invariant f.0 _ g.0 f.1 g.1

pub returns-in_default-next : goal.returns-in_default-next
returns-in_default-next c =
    let f = c.in-Some.ensures in
    let x = halving_last _ _ _ _ _ c.loop-f.invariant f.0 _ refl f.1 c.in_default-next.ensures in
    record { value = (x.0, omega (arith, f, c.loop-f.invariant.down)); entries_after = x.1 }

pub returns : goal.returns
returns c =
    let x = halving_stop _ _ _ _ _ c.loop-f.invariant refl c.in_default.ensures in
    record { value = (x.0, c.loop-f.invariant.down); entries_after = x.1 }
