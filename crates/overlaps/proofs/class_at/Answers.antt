use native.Mathlib.Omega.{arith}
use Rattle.sets.proofs.Order.{lesser_is}
use Rattle.overlaps.proofs.Steps.{grow_first, grow_next, grow_done}
use Rattle.overlaps.proofs.class_at.Goals as goal

pub loop-f-init : goal.loop-f-init
loop-f-init c = (omega arith, omega arith, omega arith, grow_first _ _ _ _ _ _ c.at-first.ensures c.lows-small.ensures)

pub loop-f-preserved : goal.loop-f-preserved
loop-f-preserved c =
    let l = c.loop-f in (
      omega arith,
      omega arith,
      omega arith,
      grow_next _ _ _ _ _ _ _ l.invariant.3 (omega arith) (omega arith) _ _ _ _ c.at-s.ensures c.lows.ensures
          (lesser_is _ _ _ c.min-small.ensures) c.union-whole.ensures _ _ c.sweep-e.ensures.result_after,
    )

pub returns : goal.returns
returns c = let l = c.loop-f in record { whole_after = grow_done _ _ _ _ _ _ _ l.invariant.3 (omega arith); i_lt_end = (omega arith, omega arith) }
