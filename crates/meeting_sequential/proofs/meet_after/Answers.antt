use mathlib.Core.Path.{refl}
use native.Mathlib.Omega.{arith}
use Rattle.slots.proofs.Places.{same_slots, slots_both}
use Rattle.runs.proofs.FoundSlot.{found_some, found_at}
use Rattle.meeting_sequential.proofs.Turns.{turn_begin, both_found, turn_met, turn_never, turn_more}
use Rattle.meeting_sequential.proofs.meet_after.Goals as goal

pub unwrap-i-requires : goal.unwrap-i-requires
unwrap-i-requires c = found_some _ _ _ _ c.slot_of.ensures (both_found _ c.args.sheet.passed _ c.requires.0 _ _ _ _ _ c.requires.1).0

pub unwrap-j-requires : goal.unwrap-j-requires
unwrap-j-requires c = found_some _ _ _ _ c.slot_of-2.ensures (both_found _ c.args.sheet.passed _ c.requires.0 _ _ _ _ _ c.requires.1).1

pub loop-n-init : goal.loop-n-init
loop-n-init c =
    let q = c.requires in (
      same_slots _,
      turn_begin _ c.args.sheet.passed _ q.0 _ _ _ _ _ q.1 _ _ (found_at _ _ _ _ c.slot_of.ensures _ c.unwrap-i.ensures)
          (found_at _ _ _ _ c.slot_of-2.ensures _ c.unwrap-j.ensures),
    )

pub returns-then-joined-clause-value : goal.returns-then-joined-clause-value
returns-then-joined-clause-value c =
    turn_met _ c.args.sheet.passed _ c.requires.0 _ _ _ _ _ _ _ c.loop-n.invariant.1 _ c.joined.ensures c.if-joined.true _ _ refl c.link.ensures.0

pub take_links-requires : goal.take_links-requires
take_links-requires c = (omega arith, omega (arith, c.loop-n-test.true, c.args.sheet.counted.1), c.requires.0)

pub loop-n-preserved : goal.loop-n-preserved
loop-n-preserved c =
    let a = c.args in
    let t = c.loop-n.invariant in
    let u = c.take_links.ensures in (
      slots_both t.0 u.same,
      turn_more _ a.sheet.passed _ c.requires.0 _ _ _ _ _ _ _ t.1 _ c.joined.ensures c.if-joined.false (omega (arith, c.loop-n-test.true, a.sheet.counted.1)) _ _
          u.rows_after u.slots_after,
    )

pub returns-then-joined-2-clause-value : goal.returns-then-joined-2-clause-value
returns-then-joined-2-clause-value c =
    let a = c.args in
    let t = c.loop-n.invariant.1 in
    turn_met _ a.sheet.passed _ c.requires.0 _ _ _ _ _ _ _ t _ c.joined-2.ensures c.if-joined-2.true _ _
    (omega (arith, c.loop-n-test.false, t.taken.within, a.sheet.counted.1)) c.link-then-joined-2.ensures.0

pub returns-else-joined-2-clause-value : goal.returns-else-joined-2-clause-value
returns-else-joined-2-clause-value c =
    let a = c.args in
    let t = c.loop-n.invariant.1 in
    turn_never _ a.sheet.passed _ c.requires.0 _ _ _ _ _ _ _ t _ c.joined-2.ensures c.if-joined-2.false
    (omega (arith, c.loop-n-test.false, t.taken.within, a.sheet.counted.1))
