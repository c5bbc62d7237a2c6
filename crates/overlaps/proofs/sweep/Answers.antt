use mathlib.Core.Path.{refl, ◌∙◌}
use native.Mathlib.Omega.{arith}
use Rattle.sets.specs.Value.{width}
use Rattle.sets.proofs.Held.{held}
use Rattle.sets.proofs.Laws.{size_le}
use Rattle.overlaps.proofs.Steps.{sweep_near, sweep_far, sweep_done}
use Rattle.overlaps.proofs.sweep.Goals.{then-k-count, else-k-count}
use Rattle.overlaps.proofs.sweep.Goals as goal

pub loop-j-init : goal.loop-j-init
loop-j-init c = (omega arith, omega arith, refl)

pub overflow_add-count : goal.overflow_add-count
overflow_add-count c = let m = c.meet in omega (arith, c.count.ensures, size_le width _ (held m.result m.type_inv))

pub loop-j-preserved : goal.loop-j-preserved
loop-j-preserved c =
    let l = c.loop-j in
    elim c.if-k-count.branch [
      | then-k-count w ↦ (
        omega (arith, w.e-is),
        omega (arith, w.e-is),
        sweep_near _ _ _ _ _ _ _ _ _ (omega arith) c.at.ensures c.meet.ensures c.count.ensures l.invariant.2 w.if-k-count.true
            (w.table-is ∙ w.swap.ensures) w.e-is,
      )
      | else-k-count w ↦ (
        omega (arith, w.e-is),
        omega (arith, w.e-is),
        sweep_far _ _ _ _ _ _ _ _ _ (omega arith) c.at.ensures c.meet.ensures c.count.ensures l.invariant.2 w.if-k-count.false
            w.table-is w.e-is,
      )
    ]

pub returns : goal.returns
returns c = let l = c.loop-j in record { result_after = sweep_done _ _ _ _ _ _ (omega arith) l.invariant.2; lower_bound = (omega arith, omega arith) }
