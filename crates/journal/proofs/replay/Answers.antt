use mathlib.Core.Path.{refl, ◌∙◌}
use Rattle.slots.proofs.Places.{same_slots, slots_both}
use Rattle.journal.proofs.Replayed.{tables_next, tables_end}
use Rattle.journal.proofs.replay.Goals as goal

pub loop-next-init : goal.loop-next-init
loop-next-init c = (same_slots _, refl)

pub loop-next-preserved : goal.loop-next-preserved
loop-next-preserved c =
    let a = c.args in
    let l = c.loop-next in
    let t = c.retake in (
      slots_both l.invariant.0 t.ensures.same,
      tables_next _ a.p a.k l.rows _ _ _ l.next-index c.loop-next-test.true t.ensures.rows_after t.ensures.slots_after ∙ l.invariant.1,
    )

pub returns-clause-slots_after : goal.returns-clause-slots_after
returns-clause-slots_after c =
    let l = c.loop-next in tables_end _ c.args.p c.args.k l.rows _ l.next-index c.loop-next-test.false ∙ l.invariant.1
