use native.Mathlib.Omega.{arith}
use Rattle.overlaps.proofs.Steps.{class_first, class_next, class_done}
use Rattle.overlaps.proofs.classes.Goals as goal

pub loop-i-init : goal.loop-i-init
loop-i-init c = (omega arith, omega arith, class_first _ _ _ _ _)

pub loop-i-preserved : goal.loop-i-preserved
loop-i-preserved c =
    let l = c.loop-i in (
      omega arith,
      omega arith,
      class_next _ _ _ _ _ _ _ l.invariant.2 (omega arith) (omega arith) _ _ _ _ _ _ c.class_at-class.ensures.whole_after c.put.ensures
          c.put-in-loop-i.ensures,
    )

pub returns : goal.returns
returns c = let l = c.loop-i in class_done _ _ _ _ _ _ _ l.invariant.2 (omega arith)
