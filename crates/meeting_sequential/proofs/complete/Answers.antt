use native.Mathlib.Omega.{arith}
use Rattle.meeting_sequential.proofs.Turns.{later_none, later_more, complete_here}
use Rattle.meeting_sequential.proofs.complete.Goals as goal

pub loop-j-init : goal.loop-j-init
loop-j-init c = later_none _ _ _ c.args.sheet.counted.1

pub returns-then-has_both : goal.returns-then-has_both
returns-then-has_both c =
    let l = c.loop-j in
    complete_here _ _ _ (omega (arith, c.loop-j-test.true, l.auto.j, c.args.sheet.counted.1)) _ c.link-l.ensures.0 _ c.has_both.ensures c.if-has_both.true l.j _
    (omega (arith, c.loop-j-test.true)) (omega arith) l.invariant

pub loop-j-preserved : goal.loop-j-preserved
loop-j-preserved c =
    let l = c.loop-j in
    later_more _ _ _ (omega (arith, c.loop-j-test.true, l.auto.j, c.args.sheet.counted.1)) _ c.link-l.ensures.0 _ c.has_both.ensures c.if-has_both.false l.j
    (omega (arith, c.loop-j-test.true)) l.invariant
